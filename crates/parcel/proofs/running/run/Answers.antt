-- The ticket and the message are handed on, and the reply and the parcels are those of the run.
use Rattle.std.proofs.Common.{refl}
use Rattle.parcel.proofs.running.run.Goals as goal

pub returns : goal.returns
returns c = rw (← c.job.view_is) (record { ticket = refl; message = refl; runnable = c.run_on-reply.ensures.runnable; step = c.run_on-reply.ensures.step })
