-- A word that counts belongs to no place, so adding one to it keeps the rule of the bench.
use Rattle.std.proofs.Common.{rules, arith, ◌+◌, ◌%◌, ◌^◌}
use Rattle.workers.proofs.KeepsRule.{bookkeeping_keeps}
use Rattle.workers.proofs.atomic_steps.count_up.Goals as goal

pub fetch_add-requires : goal.fetch_add-requires
fetch_add-requires c = let w = c.requires.bench.1.0 in let low = c.requires.counter in
    (search rules, omega arith, bookkeeping_keeps _ _ c.args.seat.now.me c.args.counter (λ n. (n + 1) % 2 ^ 64) low)
