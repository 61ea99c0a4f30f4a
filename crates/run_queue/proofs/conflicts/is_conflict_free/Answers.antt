-- A related affinity is one of those below or one of those above.
use Rattle.std.proofs.Common.{◌∙◌, ℕ, sym, ap, subst, not, List}
use Rattle.run_queue.proofs.AffinitiesAbove.{AreAbove, are_above}
use Rattle.run_queue.proofs.ConflictsByNumber.{clear-by_above, clear-by_below}
use Rattle.run_queue.specs.RelatedNumbers.{numbers_above}
use Rattle.run_queue.proofs.conflicts.is_conflict_free.Goals as goal

pub returns-then-not-conflicts_below : goal.returns-then-not-conflicts_below
returns-then-not-conflicts_below c =
    let g = c.args.g.now in
    let t = c.args.queued.now in
    let p = c.requires.placed.0 in
    let is = c.numbers_above.ensures p c.requires.placed.1 in
    let are = subst (λ (ns : List ℕ). AreAbove g t.affinity ns) (sym is) (are_above g p t.affinity c.requires.placed.1) in
    clear-by_above g t c.numbers_above.result are c.args.held.now.messages c.args.waiting.now.messages c.requires.messages.held_placed c.requires.messages.waiting_placed
    c.requires.messages.ascends (c.conflicts_below.ensures.none c.if-not-conflicts_below.true) c.conflicts_at_any.result c.conflicts_at_any.ensures

pub returns-else-not-conflicts_below : goal.returns-else-not-conflicts_below
returns-else-not-conflicts_below c =
    let g = c.args.g.now in
    let t = c.args.queued.now in
    let p = c.requires.placed.0 in
    let are = are_above g p t.affinity c.requires.placed.1 in
    ap not c.if-not-conflicts_below.false
    ∙ sym (clear-by_below g t (numbers_above g p) are c.args.held.now.messages c.args.waiting.now.messages c.requires.messages.held_placed c.requires.messages.waiting_placed
    c.requires.messages.ascends (c.conflicts_below.ensures.some c.if-not-conflicts_below.false))
