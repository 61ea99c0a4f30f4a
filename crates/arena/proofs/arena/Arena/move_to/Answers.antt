-- The slot leaves its list, and becomes the last of the chain.
use Rattle.std.proofs.Common.{◌≡◌, ◌<◌, true, is_some, None, sym, ◌∙◌, slice_index_or, arith, length}
use Rattle.arena.specs.ArenaRule.{chains_in}
use Rattle.arena.proofs.KeepsView.{move-kept, move-arena}
use Rattle.arena.proofs.arena.Arena.move_to.Goals as goal

pub invariant_of-self : goal.invariant_of-self
invariant_of-self g c =
    let held : is_some (slice_index_or c.self.inside.values.items c.args.i None) ≡ true = rw (← c.self.view_is) at (sym c.holds.ensures.answer ∙ c.if-not-holds.false) in
    let count : c.chains.result ≡ length (chains_in c.self.inside.links.lists) = rw (← c.self.view_is) at c.chains.ensures in
    let within : c.args.c < length (chains_in c.self.inside.links.lists) = omega arith in
    rw (c.append.ensures.lists, c.unlink.ensures.lists)
    (move-kept c.args.i c.args.c c.self.invariant held within)

pub returns-clause-arena : goal.returns-clause-arena
returns-clause-arena g c =
    let held : is_some (slice_index_or c.self.inside.values.items c.args.i None) ≡ true = rw (← c.self.view_is) at (sym c.holds.ensures.answer ∙ c.if-not-holds.false) in
    let count : c.chains.result ≡ length (chains_in c.self.inside.links.lists) = rw (← c.self.view_is) at c.chains.ensures in
    let within : c.args.c < length (chains_in c.self.inside.links.lists) = omega arith in
    rw (← c.self.view_is, c.append.ensures.lists, c.unlink.ensures.lists)
    (move-arena c.args.i c.args.c c.self.invariant held within)

pub returns-clause-partitioned : goal.returns-clause-partitioned
returns-clause-partitioned g c = (invariant_of-self g c).partitioned
