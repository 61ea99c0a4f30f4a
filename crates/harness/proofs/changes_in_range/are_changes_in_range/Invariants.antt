-- Each message so far is a change in range: one that the log takes.
use Rattle.std.proofs.Common.{ℕ, ◌<◌, get_or}
use Rattle.protocol.specs.declared.messages.Msg.{Msg}
use Rattle.oplog.specs.ChangeRecords.{IsChangeInRange}
use Rattle.harness.proofs.changes_in_range.are_changes_in_range.Given as goal

abbrev pub invariant-loop-m : goal.invariant-loop-m
invariant-loop-m l = (k : ℕ) → k < l.m-index → (d : Msg) → IsChangeInRange l.g (get_or l.messages k d)
