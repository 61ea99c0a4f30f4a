-- The records so far lie in a row at the front, `RECORD_SIZE` bytes each.
use Rattle.std.proofs.Common.{◌≡◌, ◌*◌, ◌≤◌, length, take}
use Rattle.std.specs.List.{concat}
use Rattle.protocol.specs.declared.sizes.TheConstants.{RECORD_SIZE}
use Rattle.oplog.specs.ChangeRecords.{records_of}
use Rattle.oplog.proofs.RecordRows.{AreRows}
use Rattle.oplog.proofs.staging.stage.Given as goal

abbrev pub invariant-loop-i : goal.invariant-loop-i
invariant-loop-i l = record {
  room : length l.messages * RECORD_SIZE ≤ length l.out;
  staged : take (l.i * RECORD_SIZE) l.out ≡ concat (records_of (take l.i l.messages));
  sized : AreRows (records_of (take l.i l.messages));
}
