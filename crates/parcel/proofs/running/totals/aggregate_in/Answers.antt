-- The totals of the aggregate where it is in, and zeros where it is not.
use Rattle.std.proofs.Common.{ap, sym, ◌∙◌}
use Rattle.parcel.specs.Shown.{aggregate_facts, child_facts}
use Rattle.parcel.specs.Totals.{sum_totals, totals_of}
use Rattle.parcel.proofs.StripeTotals.{no_totals_at_all}
use Rattle.parcel.proofs.running.totals.aggregate_in.Goals as goal

pub returns-in-Some : goal.returns-in-Some
returns-in-Some c = let g = c.args.g.now in c.aggregate_totals.ensures ∙ ap (λ o. sum_totals g.volumes (λ v. totals_of g (child_facts (λ r. aggregate_facts g r v) o))) (sym c.in-Some.is)

pub returns-in-None : goal.returns-in-None
returns-in-None c = let g = c.args.g.now in no_totals_at_all g g.volumes ∙ ap (λ o. sum_totals g.volumes (λ v. totals_of g (child_facts (λ r. aggregate_facts g r v) o))) (sym c.in-None.is)
