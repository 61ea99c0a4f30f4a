-- The word in which a number is recorded belongs to no place, so a store into it keeps the rule of the bench.
use Rattle.std.proofs.Common.{rules, arith}
use Rattle.workers.proofs.KeepsRule.{bookkeeping_keeps}
use Rattle.workers.proofs.atomic_steps.set_word.Goals as goal

pub store-requires : goal.store-requires
store-requires c = let w = c.requires.bench.1.0 in let low = c.requires.word in
    (search rules, omega arith, bookkeeping_keeps _ _ c.args.seat.now.me c.args.word (λ _. c.args.number) low)
