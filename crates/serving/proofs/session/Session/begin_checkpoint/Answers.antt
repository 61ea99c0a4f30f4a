-- The session keeps its invariant, and halts only where the device has failed.
use Rattle.std.proofs.Common.{◌≡◌, ap, false, refl, subst, sym, ◌∙◌}
use Rattle.scheduler.proofs.IsCallEvent.{cut_called}
use Rattle.scheduler.specs.CoreView.{core_state_of}
use Rattle.serving.specs.Session.{SessionView}
use Rattle.serving.specs.SessionSteps.{CallsForCheckpoint}
use Rattle.serving.specs.declared.checkpoints.CheckpointTrigger.{CheckpointTrigger}
use Rattle.serving.proofs.CheckpointSteps.{halts, stays, waits}
use Rattle.serving.proofs.Segments.{cut_is_quiet}
use Rattle.serving.proofs.SessionInvariant.{holds_of, on_machine}
use Rattle.serving.proofs.TimelyCheckpoints.{begins_for_reason}
use Rattle.serving.proofs.session.Session.begin_checkpoint.Goals as goal

-- a trigger that starts anew
restarts : (old new : CheckpointTrigger) → (new.every ≡ old.every) × (new.answered_since ≡ 0) → new ≡ record old { answered_since = 0 }
restarts old new h i = record { every = h.0 i; answered_since = h.1 i }

pub invariant_of-self : goal.invariant_of-self
invariant_of-self g c =
    let old = c.self.inside.core in
    let new = c.cut.new.self in
    let quiet = cut_is_quiet g.D.Disk.keeps old new c.cut.ensures.geometry c.self.inside.trigger c.cut.ensures.any_moment c.cut.result
    (begins_for_reason c.self.inside.trigger old (subst CallsForCheckpoint (sym c.self.view_is) c.requires.reason) (core_state_of new) _ c.cut.result c.cut.ensures.state_after)
    (cut_called old.geometry (core_state_of old) (core_state_of new) c.cut.result c.cut.ensures.state_after) c.cut.ensures.counts c.cut.ensures.untouched in
    record {
      run = rw (restarts c.self.inside.trigger c.restart.new.self c.restart.ensures)
          (rw c.in-Ok.is at (on_machine g.D.Disk.keeps _ _ c.self.invariant.run _ _ (quiet _ (holds_of g.D.Disk.keeps _ _ c.self.invariant.run)) refl refl));
      bench = c.self.invariant.bench;
    }

pub invariant_of-self-in-Err : goal.invariant_of-self-in-Err
invariant_of-self-in-Err g c =
    let old = c.self.inside.core in
    let new = c.cut.new.self in
    let quiet = cut_is_quiet g.D.Disk.keeps old new c.cut.ensures.geometry c.self.inside.trigger c.cut.ensures.any_moment c.cut.result
    (begins_for_reason c.self.inside.trigger old (subst CallsForCheckpoint (sym c.self.view_is) c.requires.reason) (core_state_of new) _ c.cut.result c.cut.ensures.state_after)
    (cut_called old.geometry (core_state_of old) (core_state_of new) c.cut.result c.cut.ensures.state_after) c.cut.ensures.counts c.cut.ensures.untouched in
    record { run = rw c.in-Err.is at (on_machine g.D.Disk.keeps _ _ c.self.invariant.run _ _ (quiet _ (holds_of g.D.Disk.keeps _ _ c.self.invariant.run)) refl refl); bench = c.self.invariant.bench }

pub returns-in-Err-clause-session_step : goal.returns-in-Err-clause-session_step
returns-in-Err-clause-session_step g c =
    let old = c.self.inside.core in
    let pieces_left = ap (λ (p : SessionView). p.core.pieces_left) c.self.view_is ∙ c.requires.none in (
      ap (λ (p : SessionView). p.read_end) c.self.view_is,
      halts (core_state_of old) pieces_left (core_state_of c.cut.new.self) (Unit {0}) (c.self.inside.output_failed ≡ false) c.in-Err.why c.wait_or_halt.result
          c.in-Err.ensures.state_after c.wait_or_halt.ensures (ap (λ (p : SessionView). p.output_failed) c.self.view_is),
    )

pub returns-in-Err-clause-begun : goal.returns-in-Err-clause-begun
returns-in-Err-clause-begun g c =
    let old = c.self.inside.core in
    let pieces_left = ap (λ (p : SessionView). p.core.pieces_left) c.self.view_is ∙ c.requires.none in
    waits (core_state_of old) pieces_left (core_state_of c.cut.new.self) (Unit {0}) _ c.in-Err.why c.wait_or_halt.result c.in-Err.ensures.state_after c.wait_or_halt.ensures

pub returns-in-Err-clause-stays : goal.returns-in-Err-clause-stays
returns-in-Err-clause-stays g c =
    let old = c.self.inside.core in
    let pieces_left = ap (λ (p : SessionView). p.core.pieces_left) c.self.view_is ∙ c.requires.none in
    stays (core_state_of old) pieces_left (core_state_of c.cut.new.self) (Unit {0}) c.in-Err.why c.wait_or_halt.result c.in-Err.ensures.state_after c.wait_or_halt.ensures
    (λ same. (
      (
        c.cut.ensures.geometry ∙ ap (λ (p : SessionView). p.core.geometry) c.self.view_is,
        same ∙ ap (λ (p : SessionView). core_state_of p.core) c.self.view_is,
        ap (λ (p : SessionView). p.dispatch_seat) c.self.view_is,
      ),
      ap (λ (p : SessionView). p.trigger) c.self.view_is,
    ))
