-- A word that counts belongs to no place, so taking one from it keeps the rule of the bench.
use Rattle.std.proofs.Common.{rules, arith, ◌+◌, ◌-◌, ◌%◌, ◌^◌}
use Rattle.workers.proofs.KeepsRule.{bookkeeping_keeps}
use Rattle.workers.proofs.atomic_steps.count_down.Goals as goal

pub fetch_sub-requires : goal.fetch_sub-requires
fetch_sub-requires c = let w = c.requires.bench.1.0 in let low = c.requires.counter in
    (search rules, omega arith, bookkeeping_keeps _ _ c.args.seat.now.me c.args.counter (λ n. (n + (2 ^ 64 - 1)) % 2 ^ 64) low)
