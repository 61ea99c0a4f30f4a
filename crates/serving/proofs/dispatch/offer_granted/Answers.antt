-- Nothing is lent at place k, which is the first free one, so that the offer there isn't refused.
use Rattle.std.proofs.Common.{◌≡◌, Err, Ok, Some, subst, sym, ◌∙◌}
use Rattle.std.specs.Prelude.{slice_set}
use Rattle.std.proofs.lemmas.Option.{MatchOption-at_none}
use Rattle.scheduler.specs.Calls.{IsGranted}
use Rattle.serving.proofs.DispatchesTo.{nothing_there}
use Rattle.workers.specs.Rule.{lent_at}
use Rattle.serving.proofs.dispatch.offer_granted.Goals as goal

pub unreachable-requires : goal.unreachable-requires
unreachable-requires c =
    let lent = c.args.dispatch_seat.now.lent in
    let consumed = MatchOption-at_none {o = lent_at lent c.args.k}
    ((c.offer.result ≡ Ok tt) × (c.offer.new.seat.lent ≡ slice_set lent c.args.k (Some c.in-Job.job)))
    (λ _. (c.offer.result ≡ Err c.in-Job.job) × (c.offer.new.seat ≡ c.args.dispatch_seat.now))
    (nothing_there lent c.args.k c.requires.first) c.offer.ensures.answer in
    cc (sym consumed.0 ∙ c.in-Err.is)

pub returns-in-Ok-clause-dispatches : goal.returns-in-Ok-clause-dispatches
returns-in-Ok-clause-dispatches c g old new is =
    let lent = c.args.dispatch_seat.now.lent in
    let consumed = MatchOption-at_none {o = lent_at lent c.args.k}
    ((c.offer.result ≡ Ok tt) × (c.offer.new.seat.lent ≡ slice_set lent c.args.k (Some c.in-Job.job)))
    (λ _. (c.offer.result ≡ Err c.in-Job.job) × (c.offer.new.seat ≡ c.args.dispatch_seat.now))
    (nothing_there lent c.args.k c.requires.first) c.offer.ensures.answer in
    (c.in-Job.job, subst (IsGranted g old new) c.in-Job.is is, consumed.1)
