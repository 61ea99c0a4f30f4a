-- Each chunk was looked at, or no ready message in it is earlier than the best one.
use Rattle.std.proofs.lemmas.Grind.{common_steps}
use Rattle.std.proofs.lemmas.List.{get_or_past}
use Rattle.std.proofs.Common.{◌≡◌, ◌∙◌, ◌+◌, ◌*◌, sym, ap, arith, min, Option}
use Rattle.run_queue.specs.RunQueue.{has_room}
use Rattle.run_queue.specs.ReadyTable.{earliest_from, rank_of, ready_in}
use Rattle.run_queue.specs.declared.queued_message.QueuedMessage.{QueuedMessage}
use Rattle.run_queue.specs.declared.ready_table.TheConstants.{CHUNK, LAST_RANK}
use Rattle.run_queue.proofs.Chunks.{below-from}
use Rattle.run_queue.proofs.Earliest.{first_below, below-start, below-all, all-passed}
use Rattle.run_queue.proofs.run_queue.RunQueue.next.Goals.{then-least-bound, else-least-bound}
use Rattle.run_queue.proofs.run_queue.RunQueue.next.Goals as goal

pub loop-chunk-init : goal.loop-chunk-init
loop-chunk-init c = grind (arith, common_steps, get_or_past, below-start)

pub loop-chunk-preserved : goal.loop-chunk-preserved
loop-chunk-preserved c =
    let room = c.args.log_has_room in
    let held = c.self.inside.messages.held in
    let waiting = c.self.inside.messages.waiting in
    let ready_table = c.self.inside.ready_table in
    let from = CHUNK * c.loop-chunk.chunk in
    let next : from + CHUNK ≡ CHUNK * (c.loop-chunk.chunk + 1) = omega arith in
    let step : earliest_from (has_room room) ready_table from CHUNK (ready_in ready_table c.loop-chunk.best) ≡ first_below room held waiting (CHUNK * (c.loop-chunk.chunk + 1)) =
    ap (λ (o : Option QueuedMessage). earliest_from (has_room room) ready_table from CHUNK o) c.loop-chunk.invariant.best
    ∙ below-from c.self.inside.messages.geometry room held waiting c.geometry.ensures.placed.waiting_placed c.geometry.ensures.placed.ascends ready_table c.self.invariant from CHUNK
    ∙ ap (λ n. first_below room held waiting n) next in
    elim c.if-least-bound.branch [
      | then-least-bound w ↦ record {
        best = ap (λ i. ready_in ready_table i) w.best-is ∙ w.best_in-best.ensures ∙ step;
        bound = w.bound-is ∙ w.bound-bound-then-least-bound.ensures ∙ ap (λ i. min (rank_of (ready_in ready_table i)) LAST_RANK) (sym w.best-is);
      }
      | else-least-bound w ↦ record {
        best = ap (λ i. ready_in ready_table i) w.best-is ∙ sym (all-passed (has_room room) ready_table from CHUNK (ready_in ready_table c.loop-chunk.best)
            (λ i below. let low = c.least.ensures i below in omega (arith, low, w.if-least-bound.false, c.loop-chunk.invariant.bound))) ∙ step;
        bound = w.bound-is ∙ c.loop-chunk.invariant.bound ∙ ap (λ i. min (rank_of (ready_in ready_table i)) LAST_RANK) (sym w.best-is);
      }
    ]

pub returns : goal.returns
returns c = grind (arith, common_steps, below-all)
