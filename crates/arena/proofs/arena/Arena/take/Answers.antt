-- The slot leaves its list, becomes the first free one, and its value goes.
use Rattle.std.proofs.Common.{◌≡◌, true, is_some, None, sym, ◌∙◌, slice_index_or, arith}
use Rattle.std.proofs.lemmas.List.{length-set}
use Rattle.arena.proofs.KeepsView.{take-kept, take-arena, kept-fits}
use Rattle.arena.proofs.arena.Arena.take.Goals as goal

pub overflow_add-self : goal.overflow_add-self
overflow_add-self g c =
    let held : is_some (slice_index_or c.self.inside.values.items c.args.i None) ≡ true = rw (← c.self.view_is) at (sym c.holds.ensures.answer ∙ c.if-not-holds.false) in
    let fits = kept-fits _ _ _ (take-kept c.args.i c.self.invariant held) in
    omega (arith, length-set c.self.inside.values.items c.args.i None)

pub invariant_of-self : goal.invariant_of-self
invariant_of-self g c =
    let held : is_some (slice_index_or c.self.inside.values.items c.args.i None) ≡ true = rw (← c.self.view_is) at (sym c.holds.ensures.answer ∙ c.if-not-holds.false) in
    rw (c.take.ensures.after, c.move_first.ensures.lists)
    (take-kept c.args.i c.self.invariant held)

pub returns-clause-arena : goal.returns-clause-arena
returns-clause-arena g c =
    let held : is_some (slice_index_or c.self.inside.values.items c.args.i None) ≡ true = rw (← c.self.view_is) at (sym c.holds.ensures.answer ∙ c.if-not-holds.false) in
    rw (← c.self.view_is, c.take.ensures.after, c.move_first.ensures.lists)
    (take-arena c.args.i c.self.invariant held)

pub returns-clause-partitioned : goal.returns-clause-partitioned
returns-clause-partitioned g c = (invariant_of-self g c).partitioned
