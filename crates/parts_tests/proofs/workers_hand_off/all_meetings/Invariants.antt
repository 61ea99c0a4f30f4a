-- The dispatcher's seat stays at its bench from one meeting to the next.
use Rattle.std.proofs.Common.{◌≡◌}
use Rattle.parts_tests.proofs.workers_hand_off.all_meetings.Given as goal

abbrev pub invariant-loop-meeting : goal.invariant-loop-meeting
invariant-loop-meeting l = l.dispatch_seat.bench ≡ l.initial.dispatch_seat.bench
