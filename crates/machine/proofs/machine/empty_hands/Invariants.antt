-- So many hands are there, all empty.
use Rattle.std.proofs.Common.{◌≡◌}
use Rattle.std.specs.Prelude.{replicate}
use Rattle.scheduler.specs.declared.hands.HandContent.TheVariants.{Empty}
use Rattle.machine.proofs.machine.empty_hands.Given as goal

abbrev pub invariant-loop : goal.invariant-loop
invariant-loop l = l.hands.items ≡ replicate l.counter Empty
