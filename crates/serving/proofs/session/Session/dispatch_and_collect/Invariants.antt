-- The loop ends: each turn collects a message, of which the batch takes only so many, or is one more of at most `MAX_POLLS` polls in a row
-- without a result. After each collection messages are dispatched, so `why` is as true then as before the loop.
use Rattle.std.proofs.Common.{◌≤◌, ◌+◌, ◌-◌, ◌*◌}
use Rattle.std.specs.Prelude.{IfNone, IfSome}
use Rattle.serving.specs.Checkpoints.{IsDue}
use Rattle.serving.specs.SessionSteps.{HasMoved, IsBlockedIn}
use Rattle.serving.specs.declared.collect.TheConstants.{BATCH, MAX_POLLS}
use Rattle.serving.proofs.session.Session.dispatch_and_collect.Given as goal

abbrev pub invariant-loop-polls : goal.invariant-loop-polls
invariant-loop-polls g l = record {
  moves : HasMoved l.fn.self l.self;
  few : l.polls ≤ MAX_POLLS;
  within : l.batch.collected ≤ BATCH;
  ended : IfSome l.why (IsBlockedIn l.self);
  due : IfNone l.why (IsDue l.self.trigger l.self.core.pieces_left);
}

abbrev pub decreases-loop-polls : goal.decreases-loop-polls
decreases-loop-polls g l = (BATCH - l.batch.collected) * (MAX_POLLS + 1) + (MAX_POLLS - l.polls)
