-- The slot that holds the affinity is the message's. The message's parcels are lent, so they go back into the tree, and it has run.
use Rattle.std.proofs.Common.{◌≡◌, ℕ, ◌+◌, ◌<◌, List, Some, sym, ap, subst, ◌∙◌}
use Rattle.std.specs.Vec.{with_item}
use Rattle.std.proofs.lemmas.Bool.{true≢false}
use Rattle.affinity.specs.Interval.{IsAffinityOf}
use Rattle.affinity.specs.Path.{Path}
use Rattle.arena.specs.ArenaView.{IsPartitioned}
use Rattle.histories.specs.Events.{give_back, find_in_flight}
use Rattle.histories.specs.CoreState.{Entry}
use Rattle.protocol.specs.Messages.{four_numbers, kind}
use Rattle.parcel.specs.Fits.{Fits, IsKindOf}
use Rattle.parcel.specs.Tree.{IsOut, RestoresAt, tree_nodes}
use Rattle.parcel.specs.declared.parts.Parcels.{Parcels}
use Rattle.scheduler.proofs.IsPlaced.{placed_of}
use Rattle.scheduler.proofs.ReturnCall.{back_call, back_fits, back_goes_in, back_is_held, back_low, back_state}
use Rattle.scheduler.specs.Jobs.{IsResultOf}
use Rattle.scheduler.specs.CoreView.{CoreView, core_state_of}
use Rattle.scheduler.specs.View.{parts, core_state_in}
use Rattle.scheduler.specs.IsCore.{IsSoundCore}
use Rattle.scheduler.proofs.server_core.Core.give_back.Goals as goal

pub unreachable-requires-in_default-holder : goal.unreachable-requires-in_default-holder
unreachable-requires-in_default-holder g c =
    true≢false (sym (back_is_held c.self.inside c.self.invariant c.args.d (subst (λ (o : CoreView). IsResultOf o.geometry (core_state_of o) c.args.d) (sym c.self.view_is) c.requires)
    c.in-Some.affinity
    (placed_of c.args.d.message c.in-Some.affinity
    c.geometry-g.ensures (c.kind.ensures ∙ ap kind c.msg.ensures) (c.numbers.ensures ∙ ap four_numbers c.msg-2.ensures) c.in-Some.ensures.placed)) ∙ c.in_default-holder.ensures.none)

pub index_mut-requires : goal.index_mut-requires
index_mut-requires g c =
    subst (λ (n : ℕ). c.in-Some-holder.slot < n) (sym c.self.invariant.replies ∙ sym c.self.inside.replies.ok.0)
    (back_low c.self.inside c.self.invariant c.args.d (subst (λ (o : CoreView). IsResultOf o.geometry (core_state_of o) c.args.d) (sym c.self.view_is) c.requires) c.in-Some.affinity
    (placed_of c.args.d.message c.in-Some.affinity
    c.geometry-g.ensures (c.kind.ensures ∙ ap kind c.msg.ensures) (c.numbers.ensures ∙ ap four_numbers c.msg-2.ensures) c.in-Some.ensures.placed) c.in-Some-holder.slot c.in-Some-holder.ensures.some)

pub restore-requires-clause-fits : goal.restore-requires-clause-fits
restore-requires-clause-fits g c =
    subst (λ (l : Parcels). (q : Path) → IsAffinityOf c.self.inside.tree.geometry q c.in-Some.affinity → IsKindOf q l → Fits c.self.inside.tree.geometry q l)
    (sym c.into_parcels.ensures)
    (back_fits c.self.inside c.self.invariant c.args.d (subst (λ (o : CoreView). IsResultOf o.geometry (core_state_of o) c.args.d) (sym c.self.view_is) c.requires) c.in-Some.affinity
    (placed_of c.args.d.message c.in-Some.affinity c.geometry-g.ensures (c.kind.ensures ∙ ap kind c.msg.ensures) (c.numbers.ensures ∙ ap four_numbers c.msg-2.ensures) c.in-Some.ensures.placed))

pub unreachable-requires-in_default-restore : goal.unreachable-requires-in_default-restore
unreachable-requires-in_default-restore g c =
    back_goes_in c.self.inside c.self.invariant c.args.d (subst (λ (o : CoreView). IsResultOf o.geometry (core_state_of o) c.args.d) (sym c.self.view_is) c.requires) c.in-Some.affinity
    (placed_of c.args.d.message c.in-Some.affinity c.geometry-g.ensures (c.kind.ensures ∙ ap kind c.msg.ensures) (c.numbers.ensures ∙ ap four_numbers c.msg-2.ensures) c.in-Some.ensures.placed)
    (subst (λ (l : Parcels). (q : Path) → IsAffinityOf c.self.inside.tree.geometry q c.in-Some.affinity → IsOut q (tree_nodes c.self.inside.tree)
    → IsKindOf q l → ⊥) c.into_parcels.ensures c.in_default-restore.ensures.err)

pub invariant_of-self : goal.invariant_of-self
invariant_of-self g c =
    let rows = c.move_to.ensures.arena in
    subst (IsSoundCore g.D.Disk.keeps) (λ i. record c.self.inside {
      slots = sym rows i;
      replies = with_item c.self.inside.replies c.in-Some-holder.slot c.reply.result.now;
      tree = c.restore.new.self;
      ran = c.self.inside.ran + 1;
    })
    (back_call c.self.inside c.self.invariant c.args.d (subst (λ (o : CoreView). IsResultOf o.geometry (core_state_of o) c.args.d) (sym c.self.view_is) c.requires) c.in-Some.affinity
    (placed_of c.args.d.message c.in-Some.affinity c.geometry-g.ensures (c.kind.ensures ∙ ap kind c.msg.ensures) (c.numbers.ensures ∙ ap four_numbers c.msg-2.ensures) c.in-Some.ensures.placed)
    c.in-Some-holder.slot c.in-Some-holder.ensures.some c.reply.result.now c.reply.ensures c.restore.new.self c.restore.ensures.geometry
    (subst (λ (l : Parcels). (q : Path) → IsAffinityOf c.self.inside.tree.geometry q c.in-Some.affinity
    → RestoresAt c.self.inside.tree.geometry q l (tree_nodes c.self.inside.tree) (tree_nodes c.restore.new.self)) c.into_parcels.ensures c.in-Ok.ensures.ok)
    (subst IsPartitioned rows c.move_to.ensures.partitioned))

pub returns-clause-state_after : goal.returns-clause-state_after
returns-clause-state_after g c =
    let rows = c.move_to.ensures.arena in
    subst (λ (t : Type 0). t) (λ i. (found : Entry × List Entry) × (find_in_flight (core_state_of (c.self.view_is i)) c.args.d.ticket ≡ Some found)
    × (found.0 ≡ (c.args.d.ticket, c.args.d.message)) × (core_state_in (parts (record c.self.inside {
      slots = sym rows i;
      replies = with_item c.self.inside.replies c.in-Some-holder.slot c.reply.result.now;
      tree = c.restore.new.self;
      ran = c.self.inside.ran + 1;
    })) ≡ give_back (c.self.view_is i).geometry (core_state_of (c.self.view_is i)) found))
    (back_state c.self.inside c.self.invariant c.args.d (subst (λ (o : CoreView). IsResultOf o.geometry (core_state_of o) c.args.d) (sym c.self.view_is) c.requires) c.in-Some.affinity
    (placed_of c.args.d.message c.in-Some.affinity c.geometry-g.ensures (c.kind.ensures ∙ ap kind c.msg.ensures) (c.numbers.ensures ∙ ap four_numbers c.msg-2.ensures) c.in-Some.ensures.placed)
    c.in-Some-holder.slot c.in-Some-holder.ensures.some c.reply.result.now c.reply.ensures c.restore.new.self c.restore.ensures.geometry
    (subst (λ (l : Parcels). (q : Path) → IsAffinityOf c.self.inside.tree.geometry q c.in-Some.affinity
    → RestoresAt c.self.inside.tree.geometry q l (tree_nodes c.self.inside.tree) (tree_nodes c.restore.new.self)) c.into_parcels.ensures c.in-Ok.ensures.ok))
