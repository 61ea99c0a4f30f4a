-- What stays so while one message after the other is answered; and how many logged messages are left to answer.
use Rattle.std.proofs.Common.{◌≡◌, ◌≤◌, ◌+◌, [], false, length}
use Rattle.std.specs.Prelude.{IsFalse, cond}
use Rattle.serving.specs.SessionSteps.{KeepsCoreState, KeepsReadEndAndOutputFailed}
use Rattle.serving.specs.Session.{steps_ahead}
use Rattle.serving.proofs.session.Session.log_and_answer.Given as goal

abbrev pub invariant-loop-moved : goal.invariant-loop-moved
invariant-loop-moved g l = record {
  as_before : KeepsReadEndAndOutputFailed l.initial.self l.self;
  steps : steps_ahead l.self + cond l.moved 1 0 ≤ steps_ahead l.fn.self;
  none : IsFalse l.moved → (l.self.core.ran ≡ []) × (l.self.core.failed ≡ false) × KeepsCoreState l.fn.self l.self;
  trigger : IsFalse l.moved → l.self.trigger ≡ l.fn.self.trigger;
}

abbrev pub decreases-loop-moved : goal.decreases-loop-moved
decreases-loop-moved g l = length l.self.core.logged
