-- What stays so of the session and the batch from place to place; and how many places are still to be polled.
use Rattle.std.proofs.Common.{◌≡◌, ◌<◌, ◌≤◌, ◌-◌, length}
use Rattle.std.specs.Prelude.{IsFalse, IsTrue}
use Rattle.serving.specs.SessionSteps.{HasMoved}
use Rattle.serving.specs.declared.collect.TheConstants.{BATCH}
use Rattle.serving.proofs.session.Session.collect_delivered.Given as goal

abbrev pub invariant-loop-k : goal.invariant-loop-k
invariant-loop-k g l = record {
  moves : HasMoved l.initial.self l.self;
  places : length l.self.dispatch_seat.lent ≡ length l.initial.self.dispatch_seat.lent;
  failed : l.self.core.failed ≡ l.initial.self.core.failed;
  as_many : l.initial.batch.collected ≤ l.batch.collected;
  more : IsTrue l.came → l.initial.batch.collected < l.batch.collected;
  few : l.initial.batch.collected ≤ BATCH → l.batch.collected ≤ BATCH;
  none : IsFalse l.came → l.self ≡ l.initial.self;
}

abbrev pub decreases-loop-k : goal.decreases-loop-k
decreases-loop-k g l = length l.self.dispatch_seat.lent - l.k
