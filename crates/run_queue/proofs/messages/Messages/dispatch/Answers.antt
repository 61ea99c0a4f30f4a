-- The message that is dispatched is the first in its queue, and none is held at its affinity.
use Rattle.std.proofs.Common.{◌≡◌, arith, sym, subst, find, Some, refl}
use Rattle.run_queue.specs.RunQueue.{RunQueueView, IsNext, has_number}
use Rattle.run_queue.proofs.AffinitiesAbove.{number-below}
use Rattle.run_queue.proofs.QueueCalls.{next-placed, next-first, next-free, queued-gone, ready-others}
use Rattle.run_queue.proofs.messages.Messages.dispatch.Goals as goal

pub hold-requires-clause-number : goal.hold-requires-clause-number
hold-requires-clause-number c =
    let next = subst (λ (q : RunQueueView). IsNext q c.args.queued) (sym c.self.view_is) c.requires in
    let placed = next-placed c.self.inside.geometry c.self.inside.slots c.self.inside.waiting c.self.inside.held c.self.invariant c.args.queued next.0 next.1 in
    omega (arith, number-below c.self.inside.geometry c.args.queued.affinity placed, c.self.invariant.entries c.self.inside.geometry)

pub hold-requires-clause-free : goal.hold-requires-clause-free
hold-requires-clause-free c =
    let next = subst (λ (q : RunQueueView). IsNext q c.args.queued) (sym c.self.view_is) c.requires in
    next-free c.self.inside.geometry c.self.inside.slots c.self.inside.waiting c.self.inside.held c.self.invariant c.args.queued next.0 next.1

pub invariant_of-self : goal.invariant_of-self
invariant_of-self c =
    let next = subst (λ (q : RunQueueView). IsNext q c.args.queued) (sym c.self.view_is) c.requires in
    let number : c.from.result ≡ c.args.queued.affinity.number = omega arith in
    queued-gone c.self.inside.geometry c.self.inside.slots c.self.inside.waiting c.pop.new.self c.self.inside.held c.hold.new.self
    c.args.queued c.self.invariant next c.from.result number c.pop.ensures c.hold.ensures.rest c.hold.ensures.messages

pub returns-clause-waiting : goal.returns-clause-waiting
returns-clause-waiting c =
    let t = c.args.queued in
    let next = subst (λ (q : RunQueueView). IsNext q t) (sym c.self.view_is) c.requires in
    let first = next-first c.self.inside.geometry c.self.inside.slots c.self.inside.waiting c.self.inside.held c.self.invariant t next.0 next.1 in
    let at : c.from.result ≡ t.affinity.number = omega arith in
    let gone = c.pop.ensures t (subst (λ n. find (has_number n) c.self.inside.waiting.messages ≡ Some t) (sym at) first) in
    rw (← c.self.view_is, gone) refl

pub returns-clause-others : goal.returns-clause-others
returns-clause-others c =
    let next = subst (λ (q : RunQueueView). IsNext q c.args.queued) (sym c.self.view_is) c.requires in
    let number : c.from.result ≡ c.args.queued.affinity.number = omega arith in
    rw (← c.self.view_is) (ready-others c.self.inside.geometry c.self.inside.slots c.self.inside.waiting c.pop.new.self c.self.inside.held c.hold.new.self
    c.args.queued c.self.invariant next c.from.result number c.pop.ensures c.hold.ensures.rest c.hold.ensures.messages)
