-- So many seats of this bench so far, and the dispatcher's is as it was.
use Rattle.std.proofs.Common.{◌≡◌, All, vec_len}
use Rattle.workers.proofs.bench.seat_workers.Given as goal

abbrev pub invariant-loop-number : goal.invariant-loop-number
invariant-loop-number l =
    (l.seat.table_id ≡ l.initial.seat.table_id)
    × (l.seat.me ≡ l.initial.seat.me)
    × (vec_len l.seats ≡ l._number)
    × All (λ w. w ≡ l.initial.seat.table_id) l.seats.items
