-- The first slot of the chain is emptied.
use Rattle.std.proofs.Common.{arith}
use Rattle.std.proofs.lemmas.Grind.{common_steps}
use Rattle.std.proofs.Common.{◌∙◌, ◌≤◌, ℕ, sym, subst}
use Rattle.std.proofs.lemmas.Option.{none-some}
use Rattle.arena.specs.ArenaView.{ArenaView, IsPartitioned}
use Rattle.run_queue.specs.Slots.{count_in_slot}
use Rattle.run_queue.specs.Queues.{Waiting, IsQueued}
use Rattle.run_queue.specs.declared.queued_message.QueuedMessage.{QueuedMessage}
use Rattle.run_queue.proofs.Chains.{front-none, front-some, chained-some, pop-arena, pop-view, pop-queued}
use Rattle.run_queue.proofs.waiting.Queues.pop.Goals as goal

pub invariant_of-self : goal.invariant_of-self
invariant_of-self c =
    let arena = c.self.inside.messages in
    let first = sym c.front.ensures.slot ∙ c.in-Some.is in
    let some = chained-some arena c.args.number c.in-Some.i c.self.invariant first in
    let once = subst (λ (q : Waiting). (s : ℕ) → count_in_slot s q.messages ≤ 1) (sym c.self.view_is) c.requires.once in
    let is = c.take.ensures.arena ∙ pop-arena arena c.args.number c.in-Some.i some.0 c.self.invariant first some.1 once in
    subst (λ (r : ArenaView QueuedMessage). IsQueued r) (sym is)
    (pop-queued arena c.args.number c.in-Some.i some.0 c.self.invariant first some.1 once (subst (λ (r : ArenaView QueuedMessage). IsPartitioned r) is c.take.ensures.partitioned))

pub returns-in-Some : goal.returns-in-Some
returns-in-Some c = grind (arith, common_steps, front-some, pop-arena, pop-view)

pub returns-in_default : goal.returns-in_default
returns-in_default c = grind (arith, common_steps, front-none, none-some)
