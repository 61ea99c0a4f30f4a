-- The entry of its affinity's number takes the message.
use Rattle.std.proofs.Common.{arith}
use Rattle.std.proofs.lemmas.Grind.{common_steps}
use Rattle.std.proofs.Common.{◌≡◌, ◌∙◌, ◌<◌, sym, ap, subst, find, Some, None}
use Rattle.std.specs.Prelude.{slice_set}
use Rattle.run_queue.specs.RunQueue.{has_number}
use Rattle.run_queue.specs.Queues.{present}
use Rattle.run_queue.specs.HeldMessages.{HeldMessages}
use Rattle.run_queue.proofs.HeldMessages.{stand-hold, between-hold, found-at}
use Rattle.run_queue.proofs.holders.Holders.hold.Goals as goal

pub invariant_of-self : goal.invariant_of-self
invariant_of-self c = grind (arith, common_steps, stand-hold)

pub returns-clause-messages : goal.returns-clause-messages
returns-clause-messages c =
    let entries = c.self.inside.entries.items in
    let t = c.args.queued in
    let number = c.from-number.ensures ∙ c.number.ensures in
    let there = subst (λ (h : HeldMessages). t.affinity.number < h.numbers) (sym c.self.view_is) c.requires.number in
    let none = subst (λ (h : HeldMessages). find (has_number t.affinity.number) h.messages ≡ None) (sym c.self.view_is) c.requires.free in
    let empty = sym (found-at entries t.affinity.number c.self.invariant) ∙ none in
    let between = between-hold entries t.affinity.number t there empty in (
      between.0,
      between.1,
      ap (λ (h : HeldMessages). h.messages) (sym c.self.view_is) ∙ between.2,
      ap (λ k. present (slice_set entries k (Some t))) number ∙ between.3,
    )
