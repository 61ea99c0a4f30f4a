-- The block at its index gets the content, or a block is made at its gap.
use Rattle.std.proofs.Common.{◌≤◌, ◌<◌, length, arith}
use Rattle.stripe.specs.Stripe.{content_at}
use Rattle.stripe.proofs.EntryLemmas.{content-rewritten, content-inserted, content-gap, ascending-rewritten, ascending-inserted, length-rewritten, length-inserted, room-missing}
use Rattle.stripe.proofs.blocks.StripeParcel.set.Goals as goal

pub insert-requires-clause-room : goal.insert-requires-clause-room
insert-requires-clause-room c = grind (arith, content-gap)

pub returns-in-Ok-clause-holds : goal.returns-in-Ok-clause-holds
returns-in-Ok-clause-holds c = grind (arith, content-rewritten c.args.content.now c.in-Ok.ensures.kept.ascending c.in-Ok.ensures.found)

pub returns-in-Ok-clause-kept : goal.returns-in-Ok-clause-kept
returns-in-Ok-clause-kept c =
    let long = length-rewritten c.args.self.now.entries c.in-Ok.n c.args.content.now in
    let fits : length c.args.self.now.entries ≤ c.args.self.now.quota = c.in-Ok.ensures.kept.within in
    rw c.write.ensures (record {
      ascending = ascending-rewritten c.args.self.now.entries c.in-Ok.n c.args.content.now c.in-Ok.ensures.found.within c.in-Ok.ensures.kept.ascending;
      within = omega arith;
    })

pub returns-in-Err-clause-holds : goal.returns-in-Err-clause-holds
returns-in-Err-clause-holds c = grind (arith, content-inserted)

pub returns-in-Err-clause-kept : goal.returns-in-Err-clause-kept
returns-in-Err-clause-kept c =
    let gap = c.in-Err.ensures.found in
    let long = length-inserted c.args.self.now.entries c.in-Err.n (record { file = c.args.f; block = c.args.b; content = c.args.content.now }) in
    let room : length c.args.self.now.entries < c.args.self.now.quota =
    room-missing (content_at c.args.self.now.entries c.args.f c.args.b) (length c.args.self.now.entries) c.args.self.now.quota
    (content-gap c.args.self.now.entries c.args.f c.args.b c.in-Err.n gap.before gap.behind) c.requires.room in
    rw c.insert.ensures (record {
      ascending = ascending-inserted c.args.self.now.entries c.in-Err.n (record { file = c.args.f; block = c.args.b; content = c.args.content.now })
          gap.before gap.behind c.in-Err.ensures.kept.ascending;
      within = omega arith;
    })
