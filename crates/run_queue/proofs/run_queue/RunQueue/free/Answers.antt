-- The message is held no longer, and the ready entries at related affinities are updated.
use Rattle.std.proofs.lemmas.Grind.{common_steps}
use Rattle.std.proofs.lemmas.Bool.{eqb-true}
use Rattle.std.proofs.Common.{◌≡◌, ◌∙◌, ℕ, List, Option, Some, arith, ap, find, sym, subst}
use Rattle.affinity.specs.Interval.{IsAffinity}
use Rattle.run_queue.specs.RunQueue.{RunQueueView, has_number, without_number}
use Rattle.run_queue.specs.ReadyTable.{StayRight, AreRelatedRight}
use Rattle.run_queue.specs.Invariant.{ArePlacedInOrder, AreEntriesRight}
use Rattle.run_queue.specs.declared.queued_message.QueuedMessage.{QueuedMessage}
use Rattle.run_queue.proofs.Finds.{find-all, find-passes}
use Rattle.run_queue.proofs.HeldMessages.{without-none}
use Rattle.run_queue.proofs.Ready.{right-freed}
use Rattle.run_queue.proofs.run_queue.RunQueue.free.Goals as goal

module _ (q new : RunQueueView) (n : ℕ) (t : QueuedMessage) (found : find (has_number n) q.held ≡ Some t) (freed : new ≡ record q { held = without_number n q.held })
    (placed : ArePlacedInOrder q.geometry q.held q.waiting) where
  entries-freed : (before after : List (Option QueuedMessage)) → AreEntriesRight q.held q.waiting before
      → AreRelatedRight new.geometry t.affinity new.held new.waiting after → StayRight new.held new.waiting before after → AreEntriesRight new.held new.waiting after
  entries-freed before after right near stay =
      let number : n ≡ t.affinity.number = sym (eqb-true t.affinity.number n (find-passes (has_number n) q.held t found)) in
      let is : new ≡ record q { held = without_number t.affinity.number q.held } = freed ∙ ap (λ m. record q { held = without_number m q.held }) number in
      rw is (right-freed q.geometry t (find-all (λ d. IsAffinity q.geometry d.affinity) (has_number n) q.held t placed.held_placed found)
      q.held q.waiting placed.held_placed placed.waiting_placed before after right (rw is at near) (rw is at stay))

pub update_related-requires : goal.update_related-requires
update_related-requires c = grind (arith, common_steps, find-all)

pub invariant_of-self : goal.invariant_of-self
invariant_of-self c =
    entries-freed c.self.inside.messages c.free.new.self c.from-number.result c.in-Some.queued (sym c.free.ensures.answer ∙ c.in-Some.is) c.free.ensures.freed
    c.free.ensures.placed _ _ c.self.invariant c.update_related.ensures.near c.update_related.ensures.others

pub invariant_of-self-in_default : goal.invariant_of-self-in_default
invariant_of-self-in_default c =
    let q = c.self.inside.messages in
    let none = without-none c.from-number.result q.held (sym c.free.ensures.answer ∙ c.in_default.is) in
    subst (λ (new : RunQueueView). AreEntriesRight new.held new.waiting c.self.inside.ready_table)
    (sym (c.free.ensures.freed ∙ ap (λ (ts : List QueuedMessage). record q { held = ts }) none)) c.self.invariant

pub returns-in_default : goal.returns-in_default
returns-in_default c = grind (arith, common_steps, without-none)
