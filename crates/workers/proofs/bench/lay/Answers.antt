-- Words of zeros and empty slots keep the rule of the bench while no slot is taken.
use Rattle.std.proofs.Common.{sym, subst, replicate, None}
use Rattle.atomic_table.specs.Table.{opening}
use Rattle.workers.specs.Rule.{BenchRule}
use Rattle.workers.specs.declared.seats.SeatRole.TheVariants.{Dispatcher}
use Rattle.workers.proofs.KeepsRule.{opens_empty}
use Rattle.workers.proofs.bench.lay.Goals as goal

pub new-requires : goal.new-requires
new-requires c = let n = c.args.places in
    subst (λ slots. BenchRule (opening c.args.words.now slots (Dispatcher n (replicate n None)))) (sym c.in_ok-cells.ensures) (opens_empty n _ c.requires.words)
