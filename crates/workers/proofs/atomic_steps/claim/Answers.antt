-- One exchange of offered for claimed: it wins the slot with the job, or else changes nothing.
use Rattle.std.proofs.lemmas.Grind.{common_steps}
use Rattle.std.proofs.Common.{arith, refl, ap, ◌∙◌, eqb-true, ◌∷◌, Some}
use Rattle.std.proofs.lemmas.Bool.{eqb-false}
use Rattle.workers.specs.Steps.{SeatState}
use Rattle.workers.specs.declared.job_cell.CellContent.TheVariants.{Offered}
use Rattle.workers.specs.declared.seats.SeatRole.TheVariants.{Claimed}
use Rattle.workers.proofs.KeepsRule.{claims}
use Rattle.workers.proofs.atomic_steps.claim.Goals as goal

pub compare_exchange-requires : goal.compare_exchange-requires
compare_exchange-requires c = grind (arith, common_steps, claims)

pub returns-clause-won : goal.returns-clause-won
returns-clause-won c = λ yes. let t = (c.compare_exchange.ensures.2 c.args.k refl).0 (eqb-true _ _ yes) in
    (t.0, t.1 ∙ ap (λ (m : SeatState). (Claimed c.args.k t.0, (c.args.k, Some (Offered t.0)) ∷ m.1)) c.requires.idle)

pub returns-clause-lost : goal.returns-clause-lost
returns-clause-lost c = λ no. (c.compare_exchange.ensures.2 c.args.k refl).1 (eqb-false _ _ no)
