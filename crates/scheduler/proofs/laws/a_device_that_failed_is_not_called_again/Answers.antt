-- The lemmas on a device that has failed.
use Rattle.scheduler.proofs.FailStop.{fail_stop, fails_once}
use Rattle.scheduler.proofs.laws.a_device_that_failed_is_not_called_again.Goals as goal

pub returns-clause-fail_stop : goal.returns-clause-fail_stop
returns-clause-fail_stop c = fail_stop

pub returns-clause-counts : goal.returns-clause-counts
returns-clause-counts c = fails_once
