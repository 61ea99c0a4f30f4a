-- The chosen message has its slot and nothing related is in flight, so the tree lends the parcels at its affinity, for a job that can run.
use Rattle.std.proofs.Common.{◌+◌, sym, ap, subst, arith, ◌∙◌}
use Rattle.std.specs.Prelude.{nat_lt, option_copied}
use Rattle.affinity.specs.declared.geometry.Geometry.{Geometry}
use Rattle.arena.specs.ArenaView.{IsPartitioned}
use Rattle.parcel.specs.Fits.{IsRunnable}
use Rattle.scheduler.proofs.NextEligible.{none_is_granted}
use Rattle.scheduler.proofs.GrantCall.{grant_affinity, grant_call, grant_call_is, grant_has_room, grant_has_slot, grant_suits}
use Rattle.scheduler.specs.Calls.{IsGrantOf, IsGranted}
use Rattle.scheduler.specs.CoreView.{CoreView, core_state_of}
use Rattle.scheduler.specs.View.{parts, core_state_in}
use Rattle.scheduler.specs.IsCore.{IsSoundCore}
use Rattle.scheduler.proofs.server_core.Core.grant.Goals as goal

pub unreachable-requires : goal.unreachable-requires
unreachable-requires g c = grant_has_slot c.self.inside c.self.invariant _ (ap (nat_lt c.self.inside.unlogged) c.room.ensures.room) c.in-Ok.queued c.in-Ok.ensures.next
    (sym c.get.ensures.value ∙ ap option_copied c.in_default.is)

pub lend-requires : goal.lend-requires
lend-requires g c = record {
  affinity = grant_affinity c.self.inside c.self.invariant _ (ap (nat_lt c.self.inside.unlogged) c.room.ensures.room) c.in-Ok.queued
      c.in-Ok.ensures.next;
}

pub returns-in-Err-clause-state_after : goal.returns-in-Err-clause-state_after
returns-in-Err-clause-state_after g c =
    subst (λ (o : CoreView). IsGranted o.geometry (core_state_of o) (core_state_of o) c.in-Err.why) c.self.view_is
    (none_is_granted g.D.Disk.keeps (parts c.self.inside) c.self.invariant.core _ (ap (nat_lt c.self.inside.unlogged) c.room.ensures.room) c.in-Err.ensures.next
    (sym c.failed.ensures ∙ c.if-failed.false) c.in-Err.why c.in-Err.ensures.why)

pub unreachable-requires-in_default-lend : goal.unreachable-requires-in_default-lend
unreachable-requires-in_default-lend g c =
    grant_has_room c.self.inside c.self.invariant _ (ap (nat_lt c.self.inside.unlogged) c.room.ensures.room) c.in-Ok.queued c.in-Ok.ensures.next
    (λ q at. (c.in_default-lend.ensures.none q at).0)

pub new-requires : goal.new-requires
new-requires g c = subst (λ (h : Geometry). IsRunnable h c.in-Some.slot.now.message c.in-Some-lend.parcels) (sym c.geometry-g.ensures)
    (grant_suits c.self.inside c.self.invariant _ (ap (nat_lt c.self.inside.unlogged) c.room.ensures.room) c.in-Ok.queued c.in-Ok.ensures.next
    c.in-Some.slot.now (sym (ap option_copied c.in-Some.is) ∙ c.get.ensures.value) c.lend.new.self c.in-Some-lend.standing
    c.in-Some-lend.parcels c.in-Some-lend.ensures.some)

pub overflow_add-self : goal.overflow_add-self
overflow_add-self g c =
    let after = grant_call c.self.inside c.self.invariant _ (ap (nat_lt c.self.inside.unlogged) c.room.ensures.room) c.in-Ok.queued c.in-Ok.ensures.next
    c.in-Some.slot.now (sym (ap option_copied c.in-Some.is) ∙ c.get.ensures.value) c.lend.new.self c.in-Some-lend.standing
    c.in-Some-lend.parcels c.in-Some-lend.ensures.some c.lend.ensures.geometry c.dispatch.new.self c.dispatch.ensures.waiting c.dispatch.ensures.held
    c.one_if-more.result c.one_if-more.ensures (subst IsPartitioned c.move_to.ensures.arena c.move_to.ensures.partitioned) in
    omega (arith, after.core.unlogged_is, after.core.sound.room, c.room.ensures.room)

pub invariant_of-self : goal.invariant_of-self
invariant_of-self g c =
    let rows = c.move_to.ensures.arena in
    subst (IsSoundCore g.D.Disk.keeps) (λ i. record c.self.inside {
      slots = sym rows i;
      tree = c.lend.new.self;
      queue = c.dispatch.new.self;
      unlogged = c.self.inside.unlogged + c.one_if-more.result;
    })
    (grant_call c.self.inside c.self.invariant _ (ap (nat_lt c.self.inside.unlogged) c.room.ensures.room) c.in-Ok.queued c.in-Ok.ensures.next
    c.in-Some.slot.now (sym (ap option_copied c.in-Some.is) ∙ c.get.ensures.value) c.lend.new.self c.in-Some-lend.standing
    c.in-Some-lend.parcels c.in-Some-lend.ensures.some c.lend.ensures.geometry c.dispatch.new.self c.dispatch.ensures.waiting c.dispatch.ensures.held
    c.one_if-more.result c.one_if-more.ensures (subst IsPartitioned rows c.move_to.ensures.partitioned))

pub returns-clause-state_after : goal.returns-clause-state_after
returns-clause-state_after g c =
    let rows = c.move_to.ensures.arena in
    let job = c.new.ensures ∙ ap (λ (h : Geometry). record {
      geometry = h;
      ticket = c.in-Some.slot.now.ticket;
      message = c.in-Some.slot.now.message;
      standing = c.in-Some-lend.standing;
      parcels = c.in-Some-lend.parcels;
    }) c.geometry-g.ensures in
    subst (λ (t : Type 0). t) (λ i. IsGrantOf (c.self.view_is i).geometry (core_state_of (c.self.view_is i)) (core_state_in (parts (record c.self.inside {
      slots = sym rows i;
      tree = c.lend.new.self;
      queue = c.dispatch.new.self;
      unlogged = c.self.inside.unlogged + c.one_if-more.result;
    }))) (sym job i))
    (grant_call_is c.self.inside c.self.invariant _ (ap (nat_lt c.self.inside.unlogged) c.room.ensures.room) c.in-Ok.queued c.in-Ok.ensures.next
    c.in-Some.slot.now (sym (ap option_copied c.in-Some.is) ∙ c.get.ensures.value) c.lend.new.self c.in-Some-lend.standing
    c.in-Some-lend.parcels c.in-Some-lend.ensures.some c.lend.ensures.geometry c.dispatch.new.self c.dispatch.ensures.waiting c.dispatch.ensures.held
    c.one_if-more.result c.one_if-more.ensures (sym c.failed.ensures ∙ c.if-failed.false))
