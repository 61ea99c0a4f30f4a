-- The files below the place are listed, in at most 11 bytes each.
use Rattle.std.proofs.Common.{◌≤◌, ◌+◌, ◌-◌, ◌*◌, codes, ◌++◌}
use Rattle.protocol.specs.Replies.{AppendsText, files_below}
use Rattle.message.proofs.printing.write_files.Given as goal

abbrev pub invariant-loop-from : goal.invariant-loop-from
invariant-loop-from l = record {
  text : AppendsText l.fn.out l.out 0 l.end (codes "files" ++ files_below l.files l.from);
  bound : l.end ≤ 5 + 11 * l.from;
  within : l.from ≤ 64;
}

abbrev pub decreases-loop-from : goal.decreases-loop-from
decreases-loop-from l = 64 - l.from
