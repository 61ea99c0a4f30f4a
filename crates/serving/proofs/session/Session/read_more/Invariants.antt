-- How many more lines may be outstanding.
use Rattle.std.proofs.Common.{◌≡◌, ◌-◌}
use Rattle.serving.specs.SessionSteps.{HasTakenLines}
use Rattle.serving.specs.declared.session.Activity.TheVariants as activities
use Rattle.serving.proofs.session.Session.read_more.Given as goal

-- while nothing was read, the session is as it was
abbrev pub invariant-loop-self : goal.invariant-loop-self
invariant-loop-self g l = (l.self.output_failed ≡ l.initial.self.output_failed)
    × (l.read ≡ activities.Idle → (l.initial.read ≡ activities.Idle) × (l.self ≡ l.initial.self)) × HasTakenLines l.fn.self l.self l.read

abbrev pub decreases-loop-self : goal.decreases-loop-self
decreases-loop-self g l = l.self.reorder_buffer.slots - l.self.outstanding
