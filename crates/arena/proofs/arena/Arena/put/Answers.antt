-- The first free slot takes the value.
use Rattle.std.proofs.Common.{sym, ◌∙◌, arith}
use Rattle.arena.proofs.KeepsView.{put-within, put-kept, put-made}
use Rattle.arena.proofs.arena.Arena.put.Goals as goal

pub unlink-requires : goal.unlink-requires
unlink-requires g c =
    let within = put-within c.self.invariant (sym c.first.ensures ∙ c.in-Some.is) in
    omega (arith, c.self.invariant.slots)

pub fill-requires-clause-is_there : goal.fill-requires-clause-is_there
fill-requires-clause-is_there g c =
    let within = put-within c.self.invariant (sym c.first.ensures ∙ c.in-Some.is) in
    omega arith

pub invariant_of-self : goal.invariant_of-self
invariant_of-self g c =
    rw (c.fill.ensures, c.unlink.ensures.lists)
    (put-kept c.args.value c.self.invariant (sym c.first.ensures ∙ c.in-Some.is))

pub returns-clause-arena : goal.returns-clause-arena
returns-clause-arena g c =
    put-made c.args.value c.self.invariant (sym c.first.ensures ∙ c.in-Some.is) c.fill.ensures c.unlink.ensures.lists c.self.view_is

pub returns-clause-partitioned : goal.returns-clause-partitioned
returns-clause-partitioned g c = (invariant_of-self g c).partitioned
