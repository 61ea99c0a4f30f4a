-- The message takes a free slot, which is then the last on its chain.
use Rattle.std.proofs.Common.{arith}
use Rattle.std.proofs.lemmas.Grind.{common_steps}
use Rattle.std.proofs.Common.{◌∙◌, ◌<◌, sym, ap, subst, length}
use Rattle.arena.specs.ArenaView.{ArenaView, after_move}
use Rattle.run_queue.specs.RunQueue.{CameBefore}
use Rattle.run_queue.specs.Queues.{Waiting}
use Rattle.run_queue.specs.declared.queued_message.QueuedMessage.{QueuedMessage}
use Rattle.run_queue.proofs.Chains.{push-arena, push-view, push-queued, push-room, free-from_put}
use Rattle.run_queue.proofs.waiting.Queues.push.Goals as goal

pub invariant_of-self : goal.invariant_of-self
invariant_of-self c = grind (arith, common_steps, free-from_put, push-arena, push-queued)

pub returns : goal.returns
returns c =
    let arena = c.self.inside.messages in
    let t = c.args.queued in
    let i = c.in-Ok.i in
    let n = c.from-number.result in
    let free = free-from_put arena t i (sym c.put.ensures.answer ∙ c.in-Ok.is) in
    let number = sym (c.from-number.ensures ∙ c.number.ensures) in
    let there = subst (λ k. k < length arena.chains) number
    (subst (λ (q : Waiting). t.affinity.number < q.numbers) (sym c.self.view_is) c.requires.number) in
    let later = subst (λ (q : Waiting). CameBefore t.ticket q.messages) (sym c.self.view_is) c.requires.later in
    let is = c.move_to.ensures.arena ∙ ap (λ (m : ArenaView QueuedMessage). after_move m i n) c.put.ensures.arena
    ∙ push-arena arena t i free.0 n c.self.invariant free.1 there number later in
    rw (← c.self.view_is, is) (push-view arena t i free.0 n c.self.invariant free.1 there number later)

pub unreachable-requires : goal.unreachable-requires
unreachable-requires c = grind (arith, common_steps, push-room)
