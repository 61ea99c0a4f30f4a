-- The message that was logged first leaves its slot and frees its affinity, with the reply that was kept for it.
use Rattle.std.proofs.Common.{◌<◌, length, sym, ap, subst, ◌∙◌, arith}
use Rattle.std.proofs.lemmas.List.{get_or_default}
use Rattle.arena.specs.ArenaView.{IsPartitioned}
use Rattle.histories.specs.Events.{answer}
use Rattle.histories.specs.declared.outcomes.Outcome.TheVariants as outcomes
use Rattle.protocol.specs.declared.replies.Reply.TheVariants.{Done}
use Rattle.scheduler.proofs.AnswerCall.{answer_call, answer_call_state, front_low}
use Rattle.scheduler.specs.CoreView.{CoreView, core_state_of}
use Rattle.scheduler.specs.View.{parts, core_state_in}
use Rattle.scheduler.specs.IsCore.{IsSoundCore}
use Rattle.scheduler.specs.declared.core_memory.TheConstants.{LOGGED}
use Rattle.scheduler.proofs.server_core.Core.answer.Goals as goal

pub index-reply-requires : goal.index-reply-requires
index-reply-requires g c =
    let low = front_low c.self.inside.slots LOGGED c.in_ok-slot.slot c.self.invariant.chains.partitioned (sym c.front.ensures.slot ∙ c.in_ok-slot.was) in
    let size = c.self.invariant.replies in
    omega (arith, low, size)

pub invariant_of-self : goal.invariant_of-self
invariant_of-self g c =
    let first = sym c.front.ensures.slot ∙ c.in_ok-slot.was in
    let value = sym c.take.ensures.answer ∙ c.in-Some.is in
    subst (IsSoundCore g.D.Disk.keeps) (λ i. record c.self.inside { slots = sym c.take.ensures.arena i; queue = sym c.free.ensures i })
    (answer_call c.self.inside c.self.invariant c.in_ok-slot.slot first c.in-Some.taken value (subst IsPartitioned c.take.ensures.arena c.take.ensures.partitioned))

pub returns-clause-state_after : goal.returns-clause-state_after
returns-clause-state_after g c =
    let first = sym c.front.ensures.slot ∙ c.in_ok-slot.was in
    let value = sym c.take.ensures.answer ∙ c.in-Some.is in
    let under = front_low c.self.inside.slots LOGGED c.in_ok-slot.slot c.self.invariant.chains.partitioned first in
    let size = c.self.invariant.replies in
    let low : c.in_ok-slot.slot < length c.self.inside.replies.items = omega (arith, under, size) in
    (λ i. (
      outcomes.Answered c.in-Some.taken.ticket ((c.index-reply.ensures ∙ get_or_default c.self.inside.replies.items c.in_ok-slot.slot c.index-reply.result.now Done low) i),
      core_state_in (parts (record c.self.inside { slots = c.take.ensures.arena i; queue = c.free.ensures i })),
    ))
    ∙ answer_call_state c.self.inside c.self.invariant c.in_ok-slot.slot first c.in-Some.taken value
    ∙ ap (λ (o : CoreView). answer (core_state_of o) o.logged) c.self.view_is
