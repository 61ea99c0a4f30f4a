-- A slot that holds no value is on no chain.
use Rattle.std.proofs.Common.{arith}
use Rattle.std.proofs.lemmas.Grind.{common_steps}
use Rattle.arena.proofs.KeepsView.{behind-empty}
use Rattle.arena.proofs.arena.Arena.next.Goals as goal

pub returns-else-holds-clause-slot : goal.returns-else-holds-clause-slot
returns-else-holds-clause-slot g c = grind (arith, common_steps, behind-empty)
