-- The dispatcher's seat stays at its bench from one round to the next.
use Rattle.std.proofs.Common.{◌≡◌}
use Rattle.parts_tests.proofs.workers_hand_off.all_jobs.Given as goal

abbrev pub invariant-loop-round : goal.invariant-loop-round
invariant-loop-round g l = l.dispatch_seat.bench ≡ l.initial.dispatch_seat.bench
