-- Meanwhile no line is read, and neither the output nor the device fails.
use Rattle.std.proofs.Common.{◌≡◌}
use Rattle.serving.specs.SessionSteps.{HasReadNothing, KeepsReadEndAndOutputFailed}
use Rattle.serving.proofs.session.Session.drain_workers.Given as goal

abbrev pub invariant-loop : goal.invariant-loop
invariant-loop g l = record {
  as_before : KeepsReadEndAndOutputFailed l.initial.self l.self;
  unread : HasReadNothing l.initial.self l.self;
  failed : l.self.core.failed ≡ l.initial.self.core.failed;
}
