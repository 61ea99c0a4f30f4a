-- The session keeps its invariant; its reorder buffer is still empty when the last checkpoint is made, which fails only where the device
-- fails.
use Rattle.std.proofs.Common.{◌≡◌, Some, ap, refl, sym, ◌∙◌}
use Rattle.std.proofs.lemmas.Bool.{true≢false}
use Rattle.reorder_buffer.specs.ReorderBuffer.{ReorderBufferView}
use Rattle.scheduler.proofs.IsCallEvent.{point_called}
use Rattle.scheduler.specs.CoreView.{CoreView, core_state_of}
use Rattle.serving.proofs.SessionEnds.{ended_by_device}
use Rattle.serving.proofs.Segments.{point_is_quiet}
use Rattle.serving.proofs.CheckpointSteps.{halts_so, point_fails}
use Rattle.serving.proofs.SessionInvariant.{holds_of, idle_of, on_machine}
use Rattle.serving.specs.Session.{SessionView}
use Rattle.serving.specs.declared.session.ReadEnd.{ReadEnd}
use Rattle.serving.proofs.session.Session.finish.Goals as goal

pub invariant_of-self : goal.invariant_of-self
invariant_of-self g c =
    let old = c.self-2.inside.core in
    let new = c.point.new.self in
    let quiet = point_is_quiet g.D.Disk.keeps old new c.point.ensures.geometry c.self-2.inside.trigger c.point.ensures.any_moment c.point.result
    (point_called old.geometry (core_state_of old) (core_state_of new) c.point.result c.point.ensures.state_after) c.point.ensures.counts c.point.ensures.untouched in
    record { run = on_machine g.D.Disk.keeps _ _ c.self-2.invariant.run _ _ (quiet _ (holds_of g.D.Disk.keeps _ _ c.self-2.invariant.run)) refl refl; bench = c.self-2.invariant.bench }

pub returns-in-EndOfInput-clause-session_step : goal.returns-in-EndOfInput-clause-session_step
returns-in-EndOfInput-clause-session_step g c =
    let sent = c.in_ok-flush_replies.ensures in
    let all_retired = ap (λ (r : ReorderBufferView). r.lines) sent.same.1 ∙ c.requires.all_retired in
    let idle = idle_of g.D.Disk.keeps _ _ c.self-2.invariant.run (ap (λ (p : SessionView). p.reorder_buffer.lines) c.self-2.view_is ∙ all_retired) in
    let pieces_left = ap (λ (p : SessionView). p.core.pieces_left) c.self-2.view_is ∙ ap (λ (k : CoreView). k.pieces_left) sent.same.0 ∙ c.requires.none in
    let output_failed = ap (λ (p : SessionView). p.output_failed) c.self-2.view_is ∙ sent.step.0.1 in (
      ap (λ (p : SessionView). p.read_end) c.self-2.view_is ∙ sent.step.0.0,
      halts_so c.point.result c.or_halt.result _ _ _ c.or_halt.ensures output_failed
          (point_fails (core_state_of c.self-2.inside.core) pieces_left (core_state_of c.point.new.self)
          (core_state_of c.point.new.self ≡ record (core_state_of c.self-2.inside.core) { room = c.self-2.inside.core.geometry.half }) idle.none_held c.point.result
          c.point.ensures.state_after),
    )

-- reading doesn't end by a failure of the device while the device works
pub unreachable-requires : goal.unreachable-requires
unreachable-requires g c =
    let read_end = ap (λ (p : SessionView). p.read_end) c.self.view_is ∙ c.requires.read_end ∙ ap (λ (e : ReadEnd). Some e) c.in-DeviceFailed.is in
    true≢false (sym (ended_by_device g.D.Disk.keeps _ _ c.self.invariant.run read_end) ∙ sym c.failed.ensures ∙ c.if-failed.false)
