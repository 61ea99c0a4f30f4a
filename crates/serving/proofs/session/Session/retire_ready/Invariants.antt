-- Core and seat stay as they are while lines are retired; and how many lines are still in the reorder buffer.
use Rattle.std.proofs.Common.{◌≡◌, length}
use Rattle.serving.specs.SessionSteps.{HasReadNothing, KeepsReadEndAndOutputFailed}
use Rattle.serving.proofs.session.Session.retire_ready.Given as goal

abbrev pub invariant-loop : goal.invariant-loop
invariant-loop g l = record {
  as_before : KeepsReadEndAndOutputFailed l.initial.self l.self;
  unread : HasReadNothing l.initial.self l.self;
  same : (l.self.core ≡ l.initial.self.core) × (l.self.dispatch_seat ≡ l.initial.self.dispatch_seat);
  trigger : l.self.trigger ≡ l.initial.self.trigger;
}

abbrev pub decreases-loop : goal.decreases-loop
decreases-loop g l = length l.self.reorder_buffer.lines
