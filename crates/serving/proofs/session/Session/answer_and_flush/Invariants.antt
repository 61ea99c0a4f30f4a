-- What stays so while one message after the other is answered; and how many are still logged.
use Rattle.std.proofs.Common.{◌≡◌, length}
use Rattle.scheduler.specs.CoreView.{core_state_of}
use Rattle.serving.specs.SessionSteps.{HasReadNothing, KeepsReadEndAndOutputFailed}
use Rattle.serving.proofs.session.Session.answer_and_flush.Given as goal

abbrev pub invariant-loop : goal.invariant-loop
invariant-loop g l = record {
  as_before : KeepsReadEndAndOutputFailed l.initial.self l.self;
  unread : HasReadNothing l.initial.self l.self;
  dispatch_seat : l.self.dispatch_seat ≡ l.initial.self.dispatch_seat;
  state_after : core_state_of l.self.core ≡ record (core_state_of l.initial.self.core) { logged = l.self.core.logged };
}

abbrev pub decreases-loop : goal.decreases-loop
decreases-loop g l = length l.self.core.logged
