-- Where the next turn is told that the last one was idle, nothing is left to do but to read.
use Rattle.std.proofs.Common.{◌≡◌}
use Rattle.serving.specs.SessionSteps.{IsResting}
use Rattle.serving.specs.declared.session.Activity.TheVariants as activities
use Rattle.serving.proofs.session.Session.run_loop.Given as goal

abbrev pub invariant-loop : goal.invariant-loop
invariant-loop g l = l.told.last ≡ activities.Idle → IsResting l.self
