-- The result leaves its slot, the flag goes down, and the slots are rotated on into the order of the free places.
use Rattle.std.proofs.lemmas.Grind.{common_steps}
use Rattle.std.proofs.Common.{arith}
use Rattle.std.proofs.lemmas.List.{length-set}
use Rattle.workers.proofs.OfferAndCollect.{comes_back, flags_of, flag_set, rotated_to_end, counted, dispatch_seat_of}
use Rattle.workers.proofs.bench.take_delivered.Goals as goal

pub take_result-done-requires : goal.take_result-done-requires
take_result-done-requires c = grind (arith, common_steps)

pub rotate_to-requires-clause-flags : goal.rotate_to-requires-clause-flags
rotate_to-requires-clause-flags c = grind (arith, common_steps, counted, comes_back, flags_of, flag_set)

pub rotate_to-requires-clause-slots : goal.rotate_to-requires-clause-slots
rotate_to-requires-clause-slots c = grind (arith, common_steps)

pub returns-clause-dispatch_seat : goal.returns-clause-dispatch_seat
returns-clause-dispatch_seat c = grind (arith, common_steps, counted, comes_back, length-set, rotated_to_end, dispatch_seat_of, flag_set)

pub returns-clause-lent : goal.returns-clause-lent
returns-clause-lent c = grind (arith, common_steps)
