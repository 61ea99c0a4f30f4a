-- The store keeps the rule, since the slot has the result of the claimed job; it goes back to the table, and the seat is idle.
use Rattle.std.proofs.Common.{rules, arith, refl, ap, ◌∙◌}
use Rattle.atomic_table.specs.Table.{rest}
use Rattle.workers.specs.Steps.{SeatState}
use Rattle.workers.specs.declared.seats.SeatRole.TheVariants.{Idle}
use Rattle.workers.proofs.KeepsRule.{delivers}
use Rattle.workers.proofs.atomic_steps.deliver.Goals as goal

pub store-requires : goal.store-requires
store-requires c = let t = c.requires.result in let w = c.requires.bench.1.0 in
    (search rules, omega arith, delivers _ t.2 c.requires.place t.3)

pub returns-clause-idle : goal.returns-clause-idle
returns-clause-idle c = c.store.ensures.2 c.args.k refl ∙ ap (λ (m : SeatState). (Idle, rest m.1)) c.requires.result.2
