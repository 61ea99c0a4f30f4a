-- The first free slot gets the content, and the index an entry for it.
use Rattle.std.proofs.Common.{◌≡◌, ◌≤◌, ap, sym, arith, length, vec_capacity, Ok}
use Rattle.arena.specs.ArenaView.{put_answer}
use Rattle.stripe.specs.Stripe.{StripePart}
use Rattle.stripe.specs.Index.{IsGap, entries_of}
use Rattle.stripe.proofs.IndexLemmas.{slot-small, length-put, entries-put, stored-put, part_same}
use Rattle.stripe.proofs.blocks.StripeParcel.insert.Goals as goal

pub overflow_cast-index_entry : goal.overflow_cast-index_entry
overflow_cast-index_entry c =
    let answer : put_answer c.self.inside.blocks c.args.content.now ≡ Ok c.in-Ok.slot = sym c.in-Ok.ensures.answer in
    omega (arith, slot-small c.self.inside.blocks c.self.inside.index.items c.in-Ok.slot c.args.content.now c.self.invariant.stored answer)

pub invariant_of-self : goal.invariant_of-self
invariant_of-self c =
    let answer : put_answer c.self.inside.blocks c.args.content.now ≡ Ok c.in-Ok.slot = sym c.in-Ok.ensures.answer in
    let same : entries_of c.self.inside.blocks.values c.self.inside.index.items ≡ c.args.self.now.entries = ap (λ (s : StripePart). s.entries) c.self.view_is in
    let gap : IsGap (entries_of c.self.inside.blocks.values c.self.inside.index.items) c.args.f c.args.b c.args.n = rw same c.requires.gap in
    let long = length-put c.self.inside.blocks c.self.inside.index.items c.in-Ok.slot c.args.content.now c.self.invariant.stored answer in
    let room : length c.self.inside.blocks.values ≤ vec_capacity c.self.inside.index = c.self.invariant.room in
    let more = c.in-Ok-insert.ensures.capacity in
    record {
      stored = rw (c.in-Ok-insert.ensures.items, c.in-Ok.ensures.arena)
          (stored-put c.self.inside.blocks c.self.inside.index.items c.in-Ok.slot c.args.content.now c.self.invariant.stored answer c.args.n c.args.f c.args.b gap
          (rw c.in-Ok.ensures.arena at c.in-Ok.ensures.partitioned));
      room = rw c.in-Ok.ensures.arena (omega arith);
    }

pub returns : goal.returns
returns c =
    let answer : put_answer c.self.inside.blocks c.args.content.now ≡ Ok c.in-Ok.slot = sym c.in-Ok.ensures.answer in
    rw (← c.self.view_is, c.in-Ok-insert.ensures.items, c.in-Ok.ensures.arena)
    (part_same _ _ _ _ (length-put c.self.inside.blocks c.self.inside.index.items c.in-Ok.slot c.args.content.now c.self.invariant.stored answer)
    (entries-put c.self.inside.blocks c.self.inside.index.items c.in-Ok.slot c.args.content.now c.self.invariant.stored answer c.args.n c.args.f c.args.b))
