-- The store keeps the rule of the bench: nothing is lent at the place, and the slot that was taken last has the job.
use Rattle.std.proofs.Common.{rules, arith}
use Rattle.workers.proofs.KeepsRule.{offers}
use Rattle.workers.proofs.atomic_steps.offer.Goals as goal

pub store-requires : goal.store-requires
store-requires c = let t = c.requires.job in let w = c.requires.bench.1.0 in
    (search rules, omega arith, offers _ t.3 c.requires.place t.4)
