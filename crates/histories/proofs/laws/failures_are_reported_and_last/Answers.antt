-- The lemmas on failures.
use Rattle.histories.proofs.Failures.{failure_reported, failure_fails, failure_lasts}
use Rattle.histories.proofs.laws.failures_are_reported_and_last.Goals as goal

pub returns-clause-reported : goal.returns-clause-reported
returns-clause-reported c = failure_reported

pub returns-clause-failed : goal.returns-clause-failed
returns-clause-failed c = failure_fails

pub returns-clause-lasts : goal.returns-clause-lasts
returns-clause-lasts c = failure_lasts
