-- The first slot of the seat is the one that was taken last, with the job in it.
use Rattle.workers.proofs.OfferAndCollect.{same_head}
use Rattle.workers.proofs.atomic_steps.take_job.Goals as goal

pub take_job-requires : goal.take_job-requires
take_job-requires c = let t = c.requires.1 in
    (t.0, same_head c.slot_mut-cell.ensures.value t.1)
