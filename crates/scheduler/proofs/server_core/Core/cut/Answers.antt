-- No message is held, so the tree is whole and has the committed state; the dirty pieces are left to write.
use Rattle.std.proofs.Common.{◌≡◌, ℕ, ◌≤◌, [], None, Some, sym, ap, subst, ◌∙◌, rules}
use Rattle.image.specs.Pieces.{piece_count}
use Rattle.checkpoint.specs.Journal.{JournalView}
use Rattle.checkpoint.specs.DirtyPieces.{count_dirty}
use Rattle.histories.specs.CoreState.{CoreState}
use Rattle.histories.specs.Events.{point_refusal}
use Rattle.oplog.proofs.Beyond.{beyond_none}
use Rattle.oplog.specs.Beyond.{KeepsBeyond}
use Rattle.device_map.specs.Layout.{layout_of}
use Rattle.scheduler.proofs.JournalKeepsCore.{stands}
use Rattle.scheduler.proofs.LogCall.{none_taken}
use Rattle.scheduler.proofs.CheckpointKeepsCore.{called_core, cut_core, not_refused, point_state, point_whole, point_works, step_moment}
use Rattle.scheduler.specs.CoreView.{CoreView, core_state_of}
use Rattle.scheduler.specs.View.{parts, core_state_in}
use Rattle.scheduler.proofs.server_core.Core.cut.Goals.{in-Ok, in-Err}
use Rattle.scheduler.proofs.server_core.Core.cut.Goals as goal

pub returns-in-Some-clause-any_moment : goal.returns-in-Some-clause-any_moment
returns-in-Some-clause-any_moment g c = λ keep. stands c.self.invariant.core c.self.view_is keep []

pub cut-requires-clause-whole : goal.cut-requires-clause-whole
cut-requires-clause-whole g c = point_whole g.D.Disk.keeps (parts c.self.inside) c.self.invariant.core (not_refused c.self.view_is c.point_refusal.ensures c.in_default.is)

pub cut-requires-clause-state : goal.cut-requires-clause-state
cut-requires-clause-state g c = point_state g.D.Disk.keeps (parts c.self.inside) c.self.invariant.core (not_refused c.self.view_is c.point_refusal.ensures c.in_default.is)

pub invariant_of-self : goal.invariant_of-self
invariant_of-self g c =
    called_core c.self.invariant
    (cut_core g.D.Disk.keeps (parts c.self.inside) c.self.invariant.core c.cut.new.self c.cut.ensures.any_moment c.cut.result
    (not_refused c.self.view_is c.point_refusal.ensures c.in_default.is) c.cut.ensures.committed c.cut.ensures.begun c.cut.ensures.few c.cut.ensures.broken)

pub returns-clause-any_moment : goal.returns-clause-any_moment
returns-clause-any_moment g c =
    step_moment g.D.Disk.keeps (parts c.self.inside) c.self.invariant.core (point_works g.D.Disk.keeps (parts c.self.inside) c.self.invariant.core
    (not_refused c.self.view_is c.point_refusal.ensures c.in_default.is)) c.cut.new.self c.cut.ensures.any_moment c.self.view_is

pub returns-clause-state_after : goal.returns-clause-state_after
returns-clause-state_after g c =
    let new : JournalView → CoreState = λ j. core_state_in (parts (record c.self.inside { journal = j })) in
    let may = ap (λ (o : CoreView). point_refusal (core_state_of o)) c.self.view_is ∙ sym c.point_refusal.ensures ∙ c.in_default.is in
    elim c.match-cut.branch [
      | in-Ok w ↦
          rw w.result-is
          (subst (λ (o : CoreView). (point_refusal (core_state_of o) ≡ None) × ((n : ℕ) × (n ≤ piece_count o.geometry)
          × (new c.cut.new.self ≡ record (core_state_of o) { room = o.geometry.half; pieces_left = Some n }))) c.self.view_is
          (may, (count_dirty c.self.inside.journal.dirty.other, w.in-Ok.ensures.few, ap new w.in-Ok.ensures.begun)))
      | in-Err w ↦ rw w.result-is (search rules)
    ]

pub returns-in-Some-clause-beyond : goal.returns-in-Some-clause-beyond
returns-in-Some-clause-beyond g c = λ keep. beyond_none (layout_of c.args.self.now.geometry) c.args.self.now.medium

pub returns-clause-beyond : goal.returns-clause-beyond
returns-clause-beyond g c = λ keep.
    subst (λ (o : CoreView). KeepsBeyond (layout_of o.geometry) o.medium c.cut.new.self.medium) c.self.view_is (c.cut.ensures.beyond keep)

pub returns-in-Some-clause-costs : goal.returns-in-Some-clause-costs
returns-in-Some-clause-costs g c = λ keep. none_taken c.args.self.now.medium 4
