-- One exchange of delivered for empty: it wins the slot with the result of the lent job, or else changes nothing.
use Rattle.std.proofs.Common.{rules, arith, refl, eqb-true}
use Rattle.std.proofs.lemmas.Bool.{eqb-false}
use Rattle.workers.proofs.KeepsRule.{collects}
use Rattle.workers.proofs.atomic_steps.collect.Goals as goal

pub compare_exchange-requires : goal.compare_exchange-requires
compare_exchange-requires c = let t = c.requires.dispatch_seat in let w = c.requires.bench.1.0 in
    (search rules, omega arith, collects _ t.2 c.requires.place)

pub returns-clause-won : goal.returns-clause-won
returns-clause-won c = λ yes. (c.compare_exchange.ensures.2 c.args.k refl).0 (eqb-true _ _ yes)

pub returns-clause-lost : goal.returns-clause-lost
returns-clause-lost c = λ no. (c.compare_exchange.ensures.2 c.args.k refl).1 (eqb-false _ _ no)
