-- The run is a serial step of the state that the job was lent from, and all else that is out is unrelated to it.
use Rattle.parcel.proofs.TreeHolds.{job_goes_back, job_reply, job_is_back}
use Rattle.parcel.proofs.laws.job_back_is_a_step.Goals as goal

pub returns-clause-ok : goal.returns-clause-ok
returns-clause-ok c = job_goes_back

pub returns-clause-reply : goal.returns-clause-reply
returns-clause-reply c = job_reply

pub returns-clause-holds : goal.returns-clause-holds
returns-clause-holds c = λ out job done n new x. job_is_back
