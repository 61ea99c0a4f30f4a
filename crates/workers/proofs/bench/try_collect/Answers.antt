-- With the place's slot next in order the exchange is tried; if it fails, the slots are rotated on into their old order.
use Rattle.std.proofs.Common.{arith}
use Rattle.std.proofs.lemmas.Grind.{common_steps}
use Rattle.std.proofs.Common.{ap, sym, ◌∙◌, set, ◌∷◌, None, Some}
use Rattle.workers.specs.Steps.{SeatState}
use Rattle.workers.specs.Rule.{lent_at}
use Rattle.workers.specs.Seats.{lent_of}
use Rattle.workers.specs.declared.job_cell.CellContent.TheVariants.{Delivered}
use Rattle.workers.specs.declared.seats.SeatRole.TheVariants.{Dispatcher}
use Rattle.workers.proofs.OfferAndCollect.{turned_to}
use Rattle.workers.proofs.bench.try_collect.Goals as goal

pub returns-then-collect-clause-won : goal.returns-then-collect-clause-won
returns-then-collect-clause-won c = λ _. let m = c.args.seat.now.me in let k = c.args.k in let ls = lent_of m.0 in let d = c.requires.dispatch_seat in
    let at = turned_to d.seat c.rotate_to.ensures.slots in
    let won = c.collect.ensures.won c.if-collect.true in
    record {
      job = won.0;
      done = won.1;
      was_lent = sym (ap (λ (y : SeatState). lent_at (lent_of y.0) k) at) ∙ won.2;
      run = won.3;
      seat = won.4 ∙ ap (λ (y : SeatState). (Dispatcher 0 (set (lent_of y.0) k None), (k, Some (Delivered won.1)) ∷ y.1)) at;
    }

pub returns-clause-lost : goal.returns-clause-lost
returns-clause-lost c = grind (arith, common_steps)
