-- The entry of a number has the message that is held there.
use Rattle.std.proofs.lemmas.Grind.{common_steps}
use Rattle.std.proofs.Common.{arith}
use Rattle.std.proofs.lemmas.Option.{slice_get_read, get_or_from_slice_get}
use Rattle.run_queue.proofs.HeldMessages.{found-at, found-past}
use Rattle.run_queue.proofs.holders.Holders.at.Goals as goal

pub returns : goal.returns
returns c = grind (arith, common_steps, slice_get_read, get_or_from_slice_get, found-at)

pub returns-in_err-get : goal.returns-in_err-get
returns-in_err-get c = grind (arith, common_steps, found-past)
