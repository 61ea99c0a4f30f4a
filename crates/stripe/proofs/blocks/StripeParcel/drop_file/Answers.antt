-- The blocks of a file are next to each other in the index; they are cut out, and no other block.
use Rattle.std.proofs.Common.{◌+◌, ◌≤◌, length, arith}
use Rattle.stripe.specs.Index.{IsSplit}
use Rattle.stripe.proofs.EntryLemmas.{run-order, content-file, ascending-removed, length-removed}
use Rattle.stripe.proofs.blocks.StripeParcel.drop_file.Goals as goal

pub remove_blocks-requires-clause-order : goal.remove_blocks-requires-clause-order
remove_blocks-requires-clause-order c =
    let low : IsSplit c.args.self.now.entries c.args.f 0 c.count_before-first.result = rw c.from.ensures at c.count_before-first.ensures.parts in
    let high : IsSplit c.args.self.now.entries (c.args.f + 1) 0 c.count_before-end.result = rw c.from-2.ensures at c.count_before-end.ensures.parts in
    run-order c.args.self.now.entries c.args.f c.count_before-first.result c.count_before-end.result low.within low.before high.behind

pub returns-clause-holds : goal.returns-clause-holds
returns-clause-holds c = grind (arith, content-file)

pub returns-clause-kept : goal.returns-clause-kept
returns-clause-kept c =
    let low : IsSplit c.args.self.now.entries c.args.f 0 c.count_before-first.result = rw c.from.ensures at c.count_before-first.ensures.parts in
    let high : IsSplit c.args.self.now.entries (c.args.f + 1) 0 c.count_before-end.result = rw c.from-2.ensures at c.count_before-end.ensures.parts in
    let order = run-order c.args.self.now.entries c.args.f c.count_before-first.result c.count_before-end.result low.within low.before high.behind in
    let fewer = length-removed c.args.self.now.entries c.count_before-first.result c.count_before-end.result order in
    let fits : length c.args.self.now.entries ≤ c.args.self.now.quota = c.count_before-first.ensures.kept.within in
    rw c.remove_blocks.ensures (record {
      ascending = ascending-removed c.args.self.now.entries c.count_before-first.result c.count_before-end.result order c.count_before-first.ensures.kept.ascending;
      within = omega arith;
    })
