-- No rank so far is less.
use Rattle.std.proofs.Common.{ℕ, ◌+◌, ◌<◌, ◌≤◌, get_or}
use Rattle.run_queue.specs.declared.ready_table.TheConstants.{NO_RANK}
use Rattle.run_queue.proofs.ready_table.least_from.Given as goal

abbrev pub invariant-loop-number : goal.invariant-loop-number
invariant-loop-number l = record {
  least : (i : ℕ) → l.from + i < l.number → l.least ≤ get_or l.ranks (l.from + i) NO_RANK;
  fits : l.least ≤ NO_RANK;
}
