-- All slots are taken and all flags are down, so the dispatcher's seat holds each slot and has nothing lent.
use Rattle.std.proofs.Common.{arith}
use Rattle.std.proofs.lemmas.Grind.{common_steps}
use Rattle.std.proofs.lemmas.List.{length-replicate}
use Rattle.workers.proofs.OfferAndCollect.{no_flags, dispatch_seat_of}
use Rattle.workers.proofs.bench.Bench.open.Goals as goal

pub invariant_of-dispatch_seat : goal.invariant_of-dispatch_seat
invariant_of-dispatch_seat c = grind (arith, common_steps, dispatch_seat_of, no_flags, length-replicate)
