-- The seats that are left are of this bench; their number falls with each round.
use Rattle.std.proofs.Common.{◌≡◌, All, vec_len}
use Rattle.workers.proofs.bench.Bench.start_all.Given as goal

abbrev pub invariant-loop-seat : goal.invariant-loop-seat
invariant-loop-seat g l = All (λ w. w ≡ l.self) l.seats.items

abbrev pub decreases-loop-seat : goal.decreases-loop-seat
decreases-loop-seat g l = vec_len l.seats
