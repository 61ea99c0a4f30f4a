-- Between two rounds the seat is idle, at the same bench.
use Rattle.std.proofs.Common.{◌≡◌}
use Rattle.workers.specs.Seats.{idle}
use Rattle.workers.proofs.bench.Bench.work.Given as goal

abbrev pub invariant-loop : goal.invariant-loop
invariant-loop g l = (l.worker_seat.table_id ≡ l.initial.worker_seat.table_id) × (l.worker_seat.me ≡ idle)
