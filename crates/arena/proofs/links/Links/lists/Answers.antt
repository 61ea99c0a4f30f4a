-- Each node that is no slot is the end of a list.
use Rattle.std.proofs.lemmas.Grind.{common_steps}
use Rattle.std.proofs.Common.{arith}
use Rattle.arena.proofs.Ways.{length-table}
use Rattle.arena.proofs.Stored.{IsWellLinked-linked}
use Rattle.arena.proofs.links.Links.lists.Goals as goal

pub returns-clause-count : goal.returns-clause-count
returns-clause-count c = grind (arith, common_steps, length-table)

pub returns-clause-sound : goal.returns-clause-sound
returns-clause-sound c = rw (← c.self.view_is) (IsWellLinked-linked _ _ _ _ c.self.invariant.linked)
