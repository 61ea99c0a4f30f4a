-- While a message is in flight the committed state at its place stays as it saw it. So its job stays its job, and its result its result.
use Rattle.scheduler.proofs.IsJobOf.{job_stays, ran_gives, result_stays}
use Rattle.scheduler.proofs.laws.jobs_stay.Goals as goal

pub returns-clause-ran : goal.returns-clause-ran
returns-clause-ran c = ran_gives

pub returns-clause-job : goal.returns-clause-job
returns-clause-job c = job_stays

pub returns-clause-result : goal.returns-clause-result
returns-clause-result c = result_stays
