-- The slot that was claimed has the job; its result is laid into that slot, and is what the job's run gives.
use Rattle.std.proofs.Common.{arith, ap, subst}
use Rattle.std.proofs.lemmas.Grind.{common_steps}
use Rattle.parcel.specs.JobRun.{IsJobRun}
use Rattle.workers.specs.Steps.{SeatState}
use Rattle.workers.proofs.OfferAndCollect.{headed, same_head, one_job, answered}
use Rattle.workers.proofs.work.run_claimed.Goals as goal

pub take_job-job-requires : goal.take_job-job-requires
take_job-job-requires g c = let t = c.requires.claimed in
    (c.requires.bench.0, (t.0, headed (ap (λ (m : SeatState). m.1) t.1)))

pub lay_result-requires : goal.lay_result-requires
lay_result-requires g c = grind (arith, common_steps)

pub deliver-requires-clause-result : goal.deliver-requires-clause-result
deliver-requires-clause-result g c = let t = c.requires.claimed in let k = c.args.k in
    let found = same_head c.take_job-job.ensures.job (ap (λ (m : SeatState). m.1) t.1) in
    let same = one_job c.take_job-job.result t.0 found in (
      t.0,
      c.run-done.result,
      answered t.1 c.take_job-job.ensures.slot c.lay_result.ensures.slot,
      subst (λ job. IsJobRun job c.run-done.result) same c.run-done.ensures,
    )
