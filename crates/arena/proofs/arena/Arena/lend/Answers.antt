-- The slot leaves its list, and its value goes.
use Rattle.std.proofs.Common.{◌≡◌, true, is_some, None, sym, ◌∙◌, slice_index_or}
use Rattle.arena.proofs.KeepsView.{lend-kept, lend-arena}
use Rattle.arena.proofs.arena.Arena.lend.Goals as goal

pub invariant_of-self : goal.invariant_of-self
invariant_of-self g c =
    let held : is_some (slice_index_or c.self.inside.values.items c.args.i None) ≡ true = rw (← c.self.view_is) at (sym c.holds.ensures.answer ∙ c.if-not-holds.false) in
    rw (c.take.ensures.after, c.unlink.ensures.lists)
    (lend-kept c.args.i c.self.invariant held)

pub returns-clause-arena : goal.returns-clause-arena
returns-clause-arena g c =
    let held : is_some (slice_index_or c.self.inside.values.items c.args.i None) ≡ true = rw (← c.self.view_is) at (sym c.holds.ensures.answer ∙ c.if-not-holds.false) in
    rw (← c.self.view_is, c.take.ensures.after, c.unlink.ensures.lists)
    (lend-arena c.args.i c.self.invariant held)

pub returns-clause-partitioned : goal.returns-clause-partitioned
returns-clause-partitioned g c = (invariant_of-self g c).partitioned
