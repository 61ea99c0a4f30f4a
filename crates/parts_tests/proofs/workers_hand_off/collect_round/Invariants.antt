-- The dispatcher's seat stays at its bench from one place to the next, as results are collected.
use Rattle.std.proofs.Common.{◌≡◌}
use Rattle.parts_tests.proofs.workers_hand_off.collect_round.Given as goal

abbrev pub invariant-loop-k : goal.invariant-loop-k
invariant-loop-k g l = l.dispatch_seat.bench ≡ l.initial.dispatch_seat.bench
