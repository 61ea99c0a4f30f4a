-- A claim that succeeds gives the seat the slot with the job that is run then.
use Rattle.workers.proofs.work.try_place.Goals as goal

pub run_claimed-requires-clause-claimed : goal.run_claimed-requires-clause-claimed
run_claimed-requires-clause-claimed g c = c.claim.ensures.won c.if-not-claim.false
