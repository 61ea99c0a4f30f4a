-- The place's slot is next in order; it takes the job and is offered, and the others are rotated on.
use Rattle.std.proofs.lemmas.Grind.{common_steps}
use Rattle.std.proofs.Common.{Some, arith}
use Rattle.std.proofs.lemmas.List.{length-set}
use Rattle.workers.specs.Seats.{lent_of}
use Rattle.workers.proofs.SeatOrder.{others}
use Rattle.workers.proofs.OfferAndCollect.{within, turned_to, filled, lends, flags_of, flag_set, held_at, counted, dispatch_seat_of}
use Rattle.workers.proofs.bench.put_offer.Goals as goal

pub offer-requires-clause-job : goal.offer-requires-clause-job
offer-requires-clause-job c = let m = c.args.seat.now.me in let k = c.args.k in let ls = lent_of m.0 in let d = c.requires.dispatch_seat in
    let near = within k d c.requires.bench.1 in
    let full = filled (turned_to d.seat c.rotate_to.ensures.slots) c.lay_job.ensures.slot near c.requires.empty in
    (ls, c.args.job, others k ls, full, c.requires.empty)

pub rotate_to-requires-2-clause-flags : goal.rotate_to-requires-2-clause-flags
rotate_to-requires-2-clause-flags c = let m = c.args.seat.now.me in let k = c.args.k in let ls = lent_of m.0 in let d = c.requires.dispatch_seat in
    let near = within k d c.requires.bench.1 in
    let full = filled (turned_to d.seat c.rotate_to.ensures.slots) c.lay_job.ensures.slot near c.requires.empty in
    let lent = lends full c.offer.ensures.lent near in
    flags_of (flag_set c.args.lent.now k ls (Some c.args.job) d.flagged) lent

pub rotate_to-requires-2-clause-slots : goal.rotate_to-requires-2-clause-slots
rotate_to-requires-2-clause-slots c = grind (arith, common_steps, within, filled, turned_to, lends, held_at)

pub returns-clause-dispatch_seat : goal.returns-clause-dispatch_seat
returns-clause-dispatch_seat c = grind (arith, common_steps, within, filled, turned_to, lends, flag_set, counted, length-set, dispatch_seat_of)
