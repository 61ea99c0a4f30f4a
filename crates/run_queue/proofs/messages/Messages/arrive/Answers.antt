-- The message has a new slot, so there is room.
use Rattle.std.proofs.Common.{◌≡◌, ◌<◌, ◌++◌, arith, sym, subst, false}
use Rattle.std.specs.List.{list_any}
use Rattle.affinity.specs.Interval.{IsAffinity}
use Rattle.run_queue.specs.RunQueue.{RunQueueView, has_slot, CameBefore}
use Rattle.run_queue.specs.Queues.{Waiting}
use Rattle.run_queue.specs.Invariant.{AreQueued}
use Rattle.run_queue.specs.declared.queued_message.QueuedMessage.{QueuedMessage}
use Rattle.run_queue.proofs.AffinitiesAbove.{number-below}
use Rattle.run_queue.proofs.QueueCalls.{messages-arrived, room-for-arrived}
use Rattle.run_queue.proofs.messages.Messages.arrive.Goals as goal

-- what the caller promises of message t and the queue
abbrev Promised : QueuedMessage → RunQueueView → Type 0
Promised t q = IsAffinity q.geometry t.affinity × CameBefore t.ticket q.waiting × (t.slot < q.slots) × (list_any (has_slot t.slot) (q.waiting ++ q.held) ≡ false)

pub push-requires-clause-number : goal.push-requires-clause-number
push-requires-clause-number c =
    let said = subst (Promised c.args.queued) (sym c.self.view_is) (c.requires.placed, c.requires.later, c.requires.slot, c.requires.new_slot) in
    omega (arith, number-below c.self.inside.geometry c.args.queued.affinity said.0, c.self.invariant.queues c.self.inside.geometry)

pub push-requires-clause-not_full : goal.push-requires-clause-not_full
push-requires-clause-not_full c =
    let said = subst (Promised c.args.queued) (sym c.self.view_is) (c.requires.placed, c.requires.later, c.requires.slot, c.requires.new_slot) in
    room-for-arrived c.args.queued c.self.invariant said.2 said.3

pub invariant_of-self : goal.invariant_of-self
invariant_of-self c =
    let said = subst (Promised c.args.queued) (sym c.self.view_is) (c.requires.placed, c.requires.later, c.requires.slot, c.requires.new_slot) in
    subst (λ (w : Waiting). AreQueued c.self.inside.geometry c.self.inside.slots w c.self.inside.held) (sym c.push.ensures)
    (messages-arrived c.args.queued c.self.invariant said.0 said.1 said.2 said.3)
