-- The store keeps the rule of the bench: nothing is lent at the last place whose slot isn't taken yet.
use Rattle.std.proofs.Common.{rules, arith}
use Rattle.workers.proofs.KeepsRule.{takes_slot}
use Rattle.workers.proofs.atomic_steps.take_slot.Goals as goal

pub store-requires : goal.store-requires
store-requires c = let t = c.requires.untaken in let w = c.requires.bench.1.0 in
    (search rules, omega arith, takes_slot _ t.2 c.requires.place t.3)
