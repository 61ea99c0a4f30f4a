-- The first slot of a list is the node behind its end, where that is a slot.
use Rattle.std.proofs.lemmas.Grind.{common_steps}
use Rattle.std.proofs.Common.{arith}
use Rattle.arena.proofs.Stored.{read_end, end-there, first-stored}
use Rattle.arena.proofs.Behind.{slot_or_none, slot_or_none-slot, slot_or_none-end}
use Rattle.arena.proofs.links.Links.first.Goals as goal

pub overflow_add-self-inside : goal.overflow_add-self-inside
overflow_add-self-inside c = grind (arith, common_steps, end-there)

pub index-first-requires : goal.index-first-requires
index-first-requires c = grind (arith, common_steps, end-there)

pub returns-then-first-self : goal.returns-then-first-self
returns-then-first-self c = grind (arith, common_steps, read_end, first-stored, slot_or_none, slot_or_none-slot)

pub returns-else-first-self : goal.returns-else-first-self
returns-else-first-self c = grind (arith, common_steps, read_end, first-stored, slot_or_none, slot_or_none-end)
