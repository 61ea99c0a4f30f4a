-- The flags show where something is lent, so none is up exactly where nothing is lent.
use Rattle.std.proofs.Common.{arith}
use Rattle.std.proofs.lemmas.Grind.{common_steps}
use Rattle.workers.proofs.Places.{down_is_empty, empty_is_down}
use Rattle.workers.proofs.seats.DispatchSeat.any_lent.Goals as goal

pub returns : goal.returns
returns c = grind (arith, common_steps, down_is_empty, empty_is_down)
