-- This message is a change in range, too, so all messages up to it are.
use Rattle.std.proofs.Common.{ℕ, get_or, subst}
use Rattle.std.proofs.lemmas.List.{get_or_default}
use borrow.Author.Count.{below_more}
use Rattle.protocol.specs.declared.messages.Msg.{Msg}
use Rattle.oplog.specs.ChangeRecords.{IsChangeInRange}
use Rattle.harness.proofs.changes_in_range.are_changes_in_range.Goals as goal

pub loop-m-preserved : goal.loop-m-preserved
loop-m-preserved c =
    below_more (λ (k : ℕ). (d : Msg) → IsChangeInRange c.args.g.now (get_or c.args.messages.now k d)) c.loop-m.m-index c.loop-m.invariant
    (λ d. subst (λ (m : Msg). IsChangeInRange c.args.g.now m) (get_or_default c.args.messages.now c.loop-m.m-index _ d c.loop-m-test.true)
    (c.is_change_in_range.ensures c.if-not-is_change_in_range.false))
