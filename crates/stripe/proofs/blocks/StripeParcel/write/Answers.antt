-- The slot of the block gets the content, and the other slots stay.
use Rattle.std.proofs.Common.{◌<◌, length, ap, Some, arith}
use Rattle.std.proofs.lemmas.List.{length-set}
use Rattle.stripe.specs.Stripe.{StripePart}
use Rattle.stripe.proofs.IndexLemmas.{held-content, entries-written, stored-written, slot-within, length-entries, part_same}
use Rattle.stripe.proofs.blocks.StripeParcel.write.Goals as goal

pub unreachable-requires : goal.unreachable-requires
unreachable-requires c = grind (arith, length-entries c.self.inside.blocks.values c.self.inside.index.items, held-content)

pub invariant_of-self : goal.invariant_of-self
invariant_of-self c =
    let same = ap (λ (s : StripePart). s.entries) c.self.view_is in
    let within : c.args.n < length c.self.inside.index.items =
    (let full = rw (← same) at c.requires in let long = length-entries c.self.inside.blocks.values c.self.inside.index.items in omega arith) in
    rw c.from-slot.ensures (record {
      stored = stored-written c.self.inside.blocks c.self.inside.index.items c.args.n c.index.result.now c.args.content.now c.self.invariant.stored within c.index.ensures;
      room = rw (length-set c.self.inside.blocks.values c.index.result.now.slot (Some c.args.content.now)) c.self.invariant.room;
    })

pub returns : goal.returns
returns c =
    let same = ap (λ (s : StripePart). s.entries) c.self.view_is in
    let within : c.args.n < length c.self.inside.index.items =
    (let full = rw (← same) at c.requires in let long = length-entries c.self.inside.blocks.values c.self.inside.index.items in omega arith) in
    rw (← c.self.view_is, c.from-slot.ensures)
    (part_same _ _ _ _ (length-set c.self.inside.blocks.values c.index.result.now.slot (Some c.args.content.now))
    (entries-written c.self.inside.blocks.values c.self.inside.index.items c.args.n c.args.content.now c.self.invariant.stored.once within c.index.ensures
    (slot-within c.self.inside.blocks c.self.inside.index.items c.args.n c.index.result.now c.self.invariant.stored within c.index.ensures)))
