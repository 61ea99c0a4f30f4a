-- If the message is first in its queue, its ready entry is updated. All other entries stay right.
use Rattle.std.proofs.Common.{◌≡◌, ◌∙◌, ap, arith, sym, subst, refl, true, not, find, is_some, ◌++◌, ◌∷◌, [], List, Option, None}
use Rattle.std.proofs.lemmas.Bool.{true≢false}
use Rattle.run_queue.specs.RunQueue.{RunQueueView, has_number, CameBefore}
use Rattle.run_queue.specs.ReadyTable.{IsEntryRight, StayRight}
use Rattle.run_queue.specs.Invariant.{AreEntriesRight}
use Rattle.run_queue.specs.declared.queued_message.QueuedMessage.{QueuedMessage}
use Rattle.run_queue.proofs.Ready.{right-arrived}
use Rattle.run_queue.proofs.run_queue.RunQueue.arrive.Goals as goal

module _ (q new : RunQueueView) (t : QueuedMessage) (is : new ≡ record q { waiting = q.waiting ++ t ∷ [] }) (later : CameBefore t.ticket q.waiting) where
  entries-arrived : (before after : List (Option QueuedMessage)) → AreEntriesRight q.held q.waiting before → StayRight new.held new.waiting before after
      → (find (has_number t.affinity.number) q.waiting ≡ None → IsEntryRight new.held new.waiting after t.affinity.number) → AreEntriesRight new.held new.waiting after
  entries-arrived before after right stay here =
      rw is (right-arrived q.held q.waiting t later before after right (rw is at stay) (λ none. rw is at (here none)))

pub invariant_of-self : goal.invariant_of-self
invariant_of-self c =
    let later = subst (λ (q : RunQueueView). CameBefore c.args.queued.ticket q.waiting) (sym c.self.view_is) c.requires.later in
    let number : c.from-number.result ≡ c.args.queued.affinity.number = omega arith in
    entries-arrived c.self.inside.messages c.arrive.new.self c.args.queued c.arrive.ensures later _ _ c.self.invariant c.update.ensures.others
    (λ none. subst (λ n. IsEntryRight c.arrive.new.self.held c.arrive.new.self.waiting c.update.new.self n) number c.update.ensures.right)

pub invariant_of-self-else-is_first : goal.invariant_of-self-else-is_first
invariant_of-self-else-is_first c =
    let later = subst (λ (q : RunQueueView). CameBefore c.args.queued.ticket q.waiting) (sym c.self.view_is) c.requires.later in
    let number : c.from-number.result ≡ c.args.queued.affinity.number = omega arith in
    let some : is_some c.first_at.result ≡ true = c.is_none-is_first.ensures ∙ ap not c.if-is_first.false in
    entries-arrived c.self.inside.messages c.arrive.new.self c.args.queued c.arrive.ensures later _ c.self.inside.ready_table c.self.invariant (refl, λ n right. right)
    (λ none. absurd (true≢false (sym some ∙ ap is_some (c.first_at.ensures ∙ ap (λ n. find (has_number n) c.self.inside.messages.waiting) number ∙ none))))
