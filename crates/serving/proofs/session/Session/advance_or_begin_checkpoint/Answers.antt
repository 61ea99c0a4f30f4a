-- Where no step was taken and none has begun, nothing has changed. One begins for a reason: it was asked for, or is due.
use Rattle.std.proofs.Common.{inl, subst, sym}
use Rattle.std.specs.Prelude.{IfOk, IsTrue}
use Rattle.serving.specs.Checkpoints.{IsDue}
use Rattle.serving.specs.SessionSteps.{CallsForCheckpoint, CheckpointStep, StandsStill}
use Rattle.serving.specs.Session.{SessionView}
use Rattle.serving.proofs.CheckpointSteps.{begins, stands_still}
use Rattle.serving.proofs.session.Session.advance_or_begin_checkpoint.Given.{Over}
use Rattle.serving.proofs.session.Session.advance_or_begin_checkpoint.Goals.{Joined-then-is_asked_for, then-is_asked_for-via-then-is_asked_for, then-is_asked_for-via-else-is_asked_for+then-is_due}
use Rattle.serving.proofs.session.Session.advance_or_begin_checkpoint.Goals as goal

reason : (g : Over) (c : Joined-then-is_asked_for g) → CallsForCheckpoint c.advance_checkpoint.new.self
reason g c =
    let same = c.in_ok-advance_checkpoint.ensures.none c.if-branch.false in
    elim c.then-is_asked_for.branch [
      | then-is_asked_for-via-then-is_asked_for w ↦ subst CallsForCheckpoint (sym same) (c.requires.reason w.if-is_asked_for.true)
      | then-is_asked_for-via-else-is_asked_for+then-is_due w ↦
          subst CallsForCheckpoint c.self.view_is (inl (subst (IsDue c.self.inside.trigger) w.pieces_left.ensures (w.is_due.ensures.0 w.if-is_due.true)))
    ]

pub begin_checkpoint-requires-clause-reason : goal.begin_checkpoint-requires-clause-reason
begin_checkpoint-requires-clause-reason g c = reason g (goal.at.begin_checkpoint-requires-clause-reason g c).Joined-then-is_asked_for

pub returns-then-is_asked_for-clause-stays : goal.returns-then-is_asked_for-clause-stays
returns-then-is_asked_for-clause-stays g c =
    let same = c.in_ok-advance_checkpoint.ensures.none c.if-branch.false in
    stands_still _ _ _ _ c.begin_checkpoint.result c.begin_checkpoint.ensures.begun c.begin_checkpoint.ensures.stays
    (λ still. subst (λ (p : SessionView). StandsStill p c.begin_checkpoint.new.self) same still)

pub returns-then-is_asked_for-clause-moved : goal.returns-then-is_asked_for-clause-moved
returns-then-is_asked_for-clause-moved g c =
    let same = c.in_ok-advance_checkpoint.ensures.none c.if-branch.false in
    let why = reason g (goal.at.returns-then-is_asked_for-clause-moved g c).Joined-then-is_asked_for in
    let none = (rw c.if-branch.false at c.in_ok-advance_checkpoint.ensures.step).0 in
    subst (λ (p : SessionView). IfOk c.begin_checkpoint.result (λ it. IsTrue it → CheckpointStep p c.begin_checkpoint.new.self)) same
    (begins _ c.advance_checkpoint.new.self c.begin_checkpoint.new.self why none c.begin_checkpoint.result c.begin_checkpoint.ensures.begun c.begin_checkpoint.ensures.fresh)
