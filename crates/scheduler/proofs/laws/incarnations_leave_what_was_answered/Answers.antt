-- The lemmas on incarnations.
use Rattle.scheduler.proofs.DeviceIncarnations.{incarnations_agree, incarnations_open, incarnations_recover}
use Rattle.scheduler.proofs.laws.incarnations_leave_what_was_answered.Goals as goal

pub returns-clause-geometry : goal.returns-clause-geometry
returns-clause-geometry c = incarnations_agree

pub returns-clause-recovers : goal.returns-clause-recovers
returns-clause-recovers c = incarnations_recover

pub returns-clause-opens : goal.returns-clause-opens
returns-clause-opens c = incarnations_open
