-- The slot that is taken next comes before the others, so that they end up in order.
use Rattle.std.proofs.lemmas.Grind.{common_steps}
use Rattle.std.proofs.Common.{◌≡◌, ◌+◌, ◌-◌, ap, ◌∙◌, replicate, None, arith}
use Rattle.std.proofs.lemmas.List.{get_or-replicate}
use Rattle.workers.specs.Seats.{empty_slots}
use Rattle.workers.specs.declared.seats.SeatRole.TheVariants.{Dispatcher}
use Rattle.workers.proofs.bench.take_slots.Goals as goal

pub take_slot-requires-clause-untaken : goal.take_slot-requires-clause-untaken
take_slot-requires-clause-untaken c = let n = c.args.places in let k = c.loop-k.k in let up = c.loop-k.invariant.most in let more = c.loop-k-test.true in let e : k ≡ k - 1 + 1 = omega arith in (
  replicate n None,
  empty_slots k (replicate (n - k) None),
  c.loop-k.invariant.seat
      ∙ ap (λ j. (Dispatcher j (replicate n None), empty_slots k (replicate (n - k) None))) e,
  get_or-replicate n (k - 1) None None (omega arith),
)

pub loop-k-preserved : goal.loop-k-preserved
loop-k-preserved c = grind (arith, common_steps)
