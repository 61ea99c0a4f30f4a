-- The slots of the places so far were moved behind the others, and otherwise the seat is as it was.
use Rattle.std.proofs.Common.{◌≡◌}
use Rattle.workers.specs.Seats.{lent_of, empty_slots_from}
use Rattle.workers.proofs.seats.rotate_to.Given as goal

abbrev pub invariant-loop-k : goal.invariant-loop-k
invariant-loop-k l =
    (l.seat.table_id ≡ l.initial.seat.table_id)
    × (l.seat.me ≡ (l.initial.seat.me.0, empty_slots_from l.k (lent_of l.initial.seat.me.0)))
