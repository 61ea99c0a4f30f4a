-- Between two places the seat is idle, at the same bench.
use Rattle.std.proofs.Common.{◌≡◌}
use Rattle.workers.specs.Seats.{idle}
use Rattle.workers.proofs.work.try_places.Given as goal

abbrev pub invariant-loop-k : goal.invariant-loop-k
invariant-loop-k g l = (l.seat.table_id ≡ l.initial.seat.table_id) × (l.seat.me ≡ idle)
