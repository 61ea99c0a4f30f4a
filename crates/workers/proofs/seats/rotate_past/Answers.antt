-- A place where something is lent has no slot in the list; any other's is first, and is moved to the end.
use Rattle.std.proofs.Common.{arith}
use Rattle.std.proofs.lemmas.Grind.{common_steps}
use Rattle.workers.proofs.SeatOrder.{passes, turns_empty}
use Rattle.workers.proofs.seats.rotate_past.Goals as goal

pub returns-then-is_lent-clause-slots : goal.returns-then-is_lent-clause-slots
returns-then-is_lent-clause-slots c = grind (arith, common_steps, passes)

pub returns-clause-slots : goal.returns-clause-slots
returns-clause-slots c = grind (arith, common_steps, turns_empty)
