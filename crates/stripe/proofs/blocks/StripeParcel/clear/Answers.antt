-- The block at its index is cut out, and where it isn't there nothing changes.
use Rattle.std.proofs.Common.{◌+◌, ◌≤◌, length, arith}
use Rattle.stripe.proofs.EntryLemmas.{content-cleared, content-gap, ascending-removed, length-removed}
use Rattle.stripe.proofs.blocks.StripeParcel.clear.Goals as goal

pub overflow_add-n : goal.overflow_add-n
overflow_add-n c = omega (arith, c.in-Ok.ensures.found.within, c.in-Ok.ensures.most)

pub returns-in-Ok-clause-holds : goal.returns-in-Ok-clause-holds
returns-in-Ok-clause-holds c = grind (arith, content-cleared)

pub returns-in-Ok-clause-kept : goal.returns-in-Ok-clause-kept
returns-in-Ok-clause-kept c =
    let fewer = length-removed c.args.self.now.entries c.in-Ok.n (c.in-Ok.n + 1) (omega arith) in
    let fits : length c.args.self.now.entries ≤ c.args.self.now.quota = c.in-Ok.ensures.kept.within in
    rw c.remove_blocks.ensures (record {
      ascending = ascending-removed c.args.self.now.entries c.in-Ok.n (c.in-Ok.n + 1) (omega arith) c.in-Ok.ensures.kept.ascending;
      within = omega arith;
    })

pub returns-in_default-clause-holds : goal.returns-in_default-clause-holds
returns-in_default-clause-holds c = grind (arith, content-gap)
