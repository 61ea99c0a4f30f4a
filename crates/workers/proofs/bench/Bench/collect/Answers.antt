-- The result that is collected is the one that was won, of the job that was lent at that place.
use Rattle.std.proofs.Common.{arith, ◌≡◌, ap, sym, ◌∙◌, subst, set, None, Some}
use Rattle.std.proofs.lemmas.Grind.{common_steps}
use Rattle.parcel.specs.JobRun.{JobView, IsJobRun}
use Rattle.workers.specs.Rule.{LentJobs, lent_at}
use Rattle.workers.specs.Steps.{SeatState}
use Rattle.workers.specs.Seats.{DispatchSeatView, lent_of}
use Rattle.workers.proofs.OfferAndCollect.{same_head, one_result}
use Rattle.workers.proofs.bench.Bench.collect.Goals as goal

pub take_delivered-requires-clause-won : goal.take_delivered-requires-clause-won
take_delivered-requires-clause-won c = grind (arith, common_steps)

pub returns-clause-some : goal.returns-clause-some
returns-clause-some c = let won = c.try_collect.ensures.won c.if-not-try_collect.false in let done = c.take_delivered.result in
    let same = one_result done won.done (same_head
    c.take_delivered.ensures.result (ap (λ (n : SeatState). n.1) won.seat)) in
    subst (λ (jobs : LentJobs). (job : JobView) × (lent_at jobs c.args.k ≡ Some job) × IsJobRun job done
    × (lent_of c.take_delivered.new.seat.me.0 ≡ set jobs c.args.k None)) (ap (λ (d : DispatchSeatView). d.lent) c.seat.view_is)
    (won.job, won.was_lent, subst (λ d. IsJobRun won.job d) (sym same) won.run, c.take_delivered.ensures.lent ∙ ap (λ (n : SeatState). lent_of n.0) won.seat)
