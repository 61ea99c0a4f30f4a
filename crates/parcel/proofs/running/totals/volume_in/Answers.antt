-- A volume that is out counts as zeros.
use Rattle.std.proofs.Common.{ap, sym, ◌∙◌}
use Rattle.parcel.specs.Shown.{child_facts, volume_facts}
use Rattle.parcel.specs.Totals.{totals_of}
use Rattle.parcel.proofs.StripeTotals.{no_totals}
use Rattle.parcel.proofs.running.totals.volume_in.Goals as goal

pub returns-in-None : goal.returns-in-None
returns-in-None c = let g = c.args.g.now in no_totals g ∙ ap (λ o. totals_of g (child_facts (volume_facts g) o)) (sym c.in-None.is)
