-- A seat that is split off is idle and has no slot, which keeps the rule of the bench.
use Rattle.std.proofs.Common.{rules, arith}
use Rattle.workers.proofs.KeepsRule.{splits}
use Rattle.workers.proofs.atomic_steps.split.Goals as goal

pub split_seat-requires : goal.split_seat-requires
split_seat-requires c = let w = c.requires.1.0 in (search rules, omega arith, splits _ _)
