-- The entries ascend, so the search finds the point between those before and those behind.
use Rattle.std.proofs.Common.{rules}
use Rattle.std.proofs.lemmas.List.Sorted.{IsPartitionPoint-from_clause}
use Rattle.stripe.proofs.IndexLemmas.{is_before, is_before-partitioned, split-from_point, length-stored}
use Rattle.stripe.proofs.blocks.StripeParcel.count_before.Goals as goal

pub returns-clause-parts : goal.returns-clause-parts
returns-clause-parts c =
    let index = c.self.inside.index.items in
    let parted = is_before-partitioned c.self.inside.blocks.values index c.args.f c.args.b c.self.invariant.stored.ascending in
    let point = IsPartitionPoint-from_clause (λ p. is_before p c.args.f c.args.b) index c.partition_point.result
    (rw c.deref.ensures.value at c.partition_point.ensures.partitioned) parted (λ a r q k. search rules) in
    rw (← c.self.view_is) (split-from_point c.self.inside.blocks.values index c.args.f c.args.b c.partition_point.result (rw c.deref.ensures.value at c.partition_point.ensures.bound) point)

pub returns-clause-most : goal.returns-clause-most
returns-clause-most c = rw (← c.self.view_is) (length-stored c.self.inside.blocks c.self.inside.index.items c.self.invariant.stored)
