-- All slots are free, and in order.
use Rattle.std.proofs.Common.{◌≡◌, ◌∙◌, ◌++◌, ◌∷◌, [], arith, ap, length, None, Option}
use Rattle.std.proofs.lemmas.List.{length-replicate, replicate_more}
use Rattle.arena.proofs.KeepsView.{start-kept}
use Rattle.arena.proofs.arena.Arena.with_capacity.Goals as goal

pub push_reserved-requires : goal.push_reserved-requires
push_reserved-requires g c = omega (arith, c.loop.invariant.room, c.loop-test.true, ap length c.loop.invariant.empty, length-replicate {A = Option g.row.T.Denot} c.loop.counter None)

pub loop-preserved : goal.loop-preserved
loop-preserved g c = record {
  empty = c.push_reserved.ensures.items ∙ ap (λ row. row ++ None ∷ []) c.loop.invariant.empty ∙ replicate_more c.loop.counter None;
  room = omega (arith, c.loop.invariant.room, c.push_reserved.ensures.capacity);
}

pub invariant_of-result : goal.invariant_of-result
invariant_of-result g c =
    let all : c.loop.counter ≡ c.args.slots = omega arith in
    rw (c.loop.invariant.empty, all, c.in_ok-links.ensures.lists) (start-kept c.args.slots c.args.chains)

pub returns-clause-partitioned : goal.returns-clause-partitioned
returns-clause-partitioned g c = (invariant_of-result g c).partitioned
