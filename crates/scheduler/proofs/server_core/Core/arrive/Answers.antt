-- Without a free slot nothing changes; else the message waits in a new slot, with a ticket above all others.
use Rattle.std.proofs.Common.{◌+◌, Bool, [], ◌∷◌, ◌++◌, refl, sym, ap, subst, ◌∙◌}
use Rattle.std.proofs.lemmas.Bool.{ne_eqb}
use Rattle.affinity.specs.Kind.{is_changing}
use Rattle.arena.specs.ArenaView.{ArenaView, IsPartitioned, after_move}
use Rattle.histories.specs.CoreState.{most_tickets}
use Rattle.histories.specs.Events.{arrive}
use Rattle.histories.specs.declared.outcomes.ArriveRefusal.TheVariants as arrivals
use Rattle.histories.specs.declared.outcomes.Outcome.TheVariants as outcomes
use Rattle.scheduler.proofs.ArriveCall.{arrive_call, arrive_later, arrive_new, arrive_slot, arrive_state, full_arena, full_state}
use Rattle.scheduler.proofs.IsPlaced.{placed_of, range_of}
use Rattle.scheduler.specs.CoreView.{CoreView, core_state_of}
use Rattle.scheduler.specs.View.{parts, core_state_in}
use Rattle.scheduler.specs.IsCore.{IsSoundCore}
use Rattle.scheduler.specs.declared.core_memory.Slot.{Slot}
use Rattle.scheduler.specs.declared.core_memory.TheConstants.{WAITING}
use Rattle.scheduler.proofs.server_core.Core.arrive.Goals as goal

pub invariant_of-self : goal.invariant_of-self
invariant_of-self g c =
    let same = full_arena c.self.inside c.self.invariant (record { ticket = c.self.inside.next; message = c.args.m.now; affinity = c.in-Some.affinity }) c.in_default-put.field-0
    (sym c.put.ensures.answer ∙ c.in_default-put.is) in
    subst (IsSoundCore g.D.Disk.keeps) (λ i. record c.self.inside { slots = sym (c.put.ensures.arena ∙ same) i }) c.self.invariant

pub returns-in_default-put-clause-state_after : goal.returns-in_default-put-clause-state_after
returns-in_default-put-clause-state_after g c =
    let same = full_arena c.self.inside c.self.invariant (record { ticket = c.self.inside.next; message = c.args.m.now; affinity = c.in-Some.affinity }) c.in_default-put.field-0
    (sym c.put.ensures.answer ∙ c.in_default-put.is) in
    (λ i. (outcomes.ArriveRefused arrivals.Full, core_state_in (parts (record c.self.inside { slots = (c.put.ensures.arena ∙ same) i }))))
    ∙ full_state c.self.inside c.self.invariant (record { ticket = c.self.inside.next; message = c.args.m.now; affinity = c.in-Some.affinity })
    c.in_default-put.field-0 (sym c.put.ensures.answer ∙ c.in_default-put.is) (sym c.failed.ensures ∙ c.if-failed.false)
    (range_of c.args.m.now c.geometry-g.ensures c.kind.ensures c.numbers.ensures c.in-Some.ensures.in_range) (ne_eqb c.self.inside.next most_tickets c.if-self.false)
    ∙ ap (λ (o : CoreView). arrive o.geometry (core_state_of o) c.args.m.now) c.self.view_is

pub arrive-requires-clause-later : goal.arrive-requires-clause-later
arrive-requires-clause-later g c = arrive_later c.self.inside c.self.invariant
    (record { ticket = c.self.inside.next; message = c.args.m.now; affinity = c.in-Some.affinity }) c.in-Ok.slot (sym c.put.ensures.answer ∙ c.in-Ok.is)

pub arrive-requires-clause-slot : goal.arrive-requires-clause-slot
arrive-requires-clause-slot g c = arrive_slot c.self.inside c.self.invariant
    (record { ticket = c.self.inside.next; message = c.args.m.now; affinity = c.in-Some.affinity }) c.in-Ok.slot (sym c.put.ensures.answer ∙ c.in-Ok.is)

pub arrive-requires-clause-new_slot : goal.arrive-requires-clause-new_slot
arrive-requires-clause-new_slot g c = arrive_new c.self.inside c.self.invariant
    (record { ticket = c.self.inside.next; message = c.args.m.now; affinity = c.in-Some.affinity }) c.in-Ok.slot (sym c.put.ensures.answer ∙ c.in-Ok.is)

pub invariant_of-self-2 : goal.invariant_of-self-2
invariant_of-self-2 g c =
    let rows = c.move_to.ensures.arena ∙ ap (λ (r : ArenaView Slot). after_move r c.in-Ok.slot WAITING) c.put.ensures.arena in
    let queue = c.arrive.ensures ∙ ap (λ (b : Bool). record c.self.inside.queue {
      waiting = c.self.inside.queue.waiting ++ record { slot = c.in-Ok.slot; affinity = c.in-Some.affinity; changing = b; ticket = c.self.inside.next } ∷ [];
    }) (c.changing.ensures ∙ ap is_changing c.kind-2.ensures) in
    subst (IsSoundCore g.D.Disk.keeps) (λ i. record c.self.inside { slots = sym rows i; queue = sym queue i; next = c.self.inside.next + 1 })
    (arrive_call c.self.inside c.self.invariant (record { ticket = c.self.inside.next; message = c.args.m.now; affinity = c.in-Some.affinity }) c.in-Ok.slot
    (sym c.put.ensures.answer ∙ c.in-Ok.is) refl (record {
      affinity = placed_of c.args.m.now c.in-Some.affinity c.geometry-g.ensures c.kind.ensures c.numbers.ensures c.in-Some.ensures.placed;
      range = range_of c.args.m.now c.geometry-g.ensures c.kind.ensures c.numbers.ensures c.in-Some.ensures.in_range;
      message = c.know_message.ensures;
    }) (subst IsPartitioned rows c.move_to.ensures.partitioned))

pub returns-clause-state_after : goal.returns-clause-state_after
returns-clause-state_after g c =
    let rows = c.move_to.ensures.arena ∙ ap (λ (r : ArenaView Slot). after_move r c.in-Ok.slot WAITING) c.put.ensures.arena in
    let queue = c.arrive.ensures ∙ ap (λ (b : Bool). record c.self.inside.queue {
      waiting = c.self.inside.queue.waiting ++ record { slot = c.in-Ok.slot; affinity = c.in-Some.affinity; changing = b; ticket = c.self.inside.next } ∷ [];
    }) (c.changing.ensures ∙ ap is_changing c.kind-2.ensures) in
    (λ i. (outcomes.Ticket c.self.inside.next, core_state_in (parts (record c.self.inside { slots = rows i; queue = queue i; next = c.self.inside.next + 1 }))))
    ∙ arrive_state c.self.inside c.self.invariant (record { ticket = c.self.inside.next; message = c.args.m.now; affinity = c.in-Some.affinity }) c.in-Ok.slot
    (sym c.put.ensures.answer ∙ c.in-Ok.is) refl (record {
      affinity = placed_of c.args.m.now c.in-Some.affinity c.geometry-g.ensures c.kind.ensures c.numbers.ensures c.in-Some.ensures.placed;
      range = range_of c.args.m.now c.geometry-g.ensures c.kind.ensures c.numbers.ensures c.in-Some.ensures.in_range;
      message = c.know_message.ensures;
    }) (sym c.failed.ensures ∙ c.if-failed.false)
    (range_of c.args.m.now c.geometry-g.ensures c.kind.ensures c.numbers.ensures c.in-Some.ensures.in_range) (ne_eqb c.self.inside.next most_tickets c.if-self.false)
    ∙ ap (λ (o : CoreView). arrive o.geometry (core_state_of o) c.args.m.now) c.self.view_is
