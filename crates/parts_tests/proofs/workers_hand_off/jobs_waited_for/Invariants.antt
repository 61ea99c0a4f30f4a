-- The dispatcher's seat stays at its bench from one job to the next.
use Rattle.std.proofs.Common.{◌≡◌}
use Rattle.parts_tests.proofs.workers_hand_off.jobs_waited_for.Given as goal

abbrev pub invariant-loop-ticket : goal.invariant-loop-ticket
invariant-loop-ticket g l = l.dispatch_seat.bench ≡ l.initial.dispatch_seat.bench
