-- The seat has taken the slot (the cell) of each place from k on, in order; those of the k places before are still in the table.
use Rattle.std.proofs.Common.{◌≡◌, ◌≤◌, ◌-◌, replicate, None}
use Rattle.workers.specs.Seats.{empty_slots}
use Rattle.workers.specs.declared.seats.SeatRole.TheVariants.{Dispatcher}
use Rattle.workers.proofs.bench.take_slots.Given as goal

abbrev pub invariant-loop-k : goal.invariant-loop-k
invariant-loop-k l = record {
  table : l.seat.table_id ≡ l.initial.seat.table_id;
  most : l.k ≤ l.places;
  seat : l.seat.me ≡ (Dispatcher l.k (replicate l.places None), empty_slots l.k (replicate (l.places - l.k) None));
}

abbrev pub decreases-loop-k : goal.decreases-loop-k
decreases-loop-k l = l.k
