-- The bytes so far are torn: tearing the others as well gives what tearing all bytes at first would have given.
use Rattle.std.proofs.Common.{◌≡◌, ◌≤◌}
use Rattle.disk.specs.CrashImages.{torn_byte, torn_from}
use Rattle.disk.proofs.TornSoFar.{torn_so_far}
use Rattle.disk.proofs.torn.tear.Given as goal

abbrev pub invariant-loop-i : goal.invariant-loop-i
invariant-loop-i l = record {
  few : l.below ≤ l.i;
  torn : torn_so_far (torn_byte l.kind l.last_synced l.last_written) l.i l.below l.unsynced l.bytes ≡ torn_from (torn_byte l.kind l.last_synced l.last_written) 0 0 l.unsynced l.initial.bytes;
}
