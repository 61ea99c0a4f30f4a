-- The invariant of a core: what a crash leaves now, and nothing in `doubt` unless a call has failed.
use Rattle.std.proofs.Common.{◌≡◌, [], false, subst}
use Rattle.scheduler.specs.CoreView.{CoreView, RecoversNow}
use Rattle.scheduler.proofs.server_core.Core.know_recovery.Goals as goal

pub returns-clause-no_doubt : goal.returns-clause-no_doubt
returns-clause-no_doubt g c = subst (λ (o : CoreView). o.failed ≡ false → o.doubt ≡ []) c.self.view_is c.self.invariant.core.no_doubt

pub returns-clause-now : goal.returns-clause-now
returns-clause-now g c = λ keep. subst RecoversNow c.self.view_is (c.self.invariant.core.recovers keep)
