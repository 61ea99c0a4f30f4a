-- The dispatcher's seat stays at its bench from one wait to the next.
use Rattle.std.proofs.Common.{◌≡◌}
use Rattle.parts_tests.proofs.workers_hand_off.await_result.Given as goal

abbrev pub invariant-loop : goal.invariant-loop
invariant-loop g l = l.dispatch_seat.bench ≡ l.initial.dispatch_seat.bench
