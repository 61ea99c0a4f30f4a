-- The session's invariant holds after the core's `flip`, and (`-2`) after its `piece`.
use Rattle.std.proofs.Common.{refl}
use Rattle.scheduler.proofs.IsCallEvent.{flip_called, piece_called}
use Rattle.scheduler.specs.CoreView.{core_state_of}
use Rattle.serving.proofs.Segments.{flip_is_quiet, piece_is_quiet}
use Rattle.serving.proofs.SessionInvariant.{holds_of, on_machine}
use Rattle.serving.proofs.session.Session.advance_checkpoint.Goals as goal

pub invariant_of-self : goal.invariant_of-self
invariant_of-self g c =
    let old = c.self.inside.core in
    let new = c.flip.new.self in
    let quiet = flip_is_quiet g.D.Disk.keeps old new c.flip.ensures.geometry c.self.inside.trigger c.flip.ensures.any_moment c.flip.result
    (flip_called old.geometry (core_state_of old) (core_state_of new) c.flip.result c.flip.ensures.state_after) c.flip.ensures.counts c.flip.ensures.untouched in
    record { run = on_machine g.D.Disk.keeps _ _ c.self.invariant.run _ _ (quiet _ (holds_of g.D.Disk.keeps _ _ c.self.invariant.run)) refl refl; bench = c.self.invariant.bench }

pub invariant_of-self-2 : goal.invariant_of-self-2
invariant_of-self-2 g c =
    let old = c.self.inside.core in
    let new = c.piece.new.self in
    let quiet = piece_is_quiet g.D.Disk.keeps old new c.piece.ensures.geometry c.self.inside.trigger c.piece.ensures.any_moment c.piece.result
    (piece_called old.geometry (core_state_of old) (core_state_of new) c.piece.result c.piece.ensures.state_after) c.piece.ensures.counts c.piece.ensures.untouched in
    record { run = on_machine g.D.Disk.keeps _ _ c.self.invariant.run _ _ (quiet _ (holds_of g.D.Disk.keeps _ _ c.self.invariant.run)) refl refl; bench = c.self.invariant.bench }
