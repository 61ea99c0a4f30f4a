-- The search (`count_before`) ends at the block, or at the gap where it would be inserted.
use Rattle.std.proofs.Common.{◌≡◌, ap, sym, ◌∙◌, slice_index_or}
use Rattle.stripe.specs.Stripe.{StripePart, BlockEntry}
use Rattle.stripe.specs.Index.{IsSplit, entries_of}
use Rattle.stripe.proofs.EntryLemmas.{gap-from_split}
use Rattle.stripe.proofs.IndexLemmas.{index_entry-entry}
use Rattle.stripe.proofs.blocks.StripeParcel.find.Goals as goal

pub returns-in_default-clause-found : goal.returns-in_default-clause-found
returns-in_default-clause-found c =
    let index = c.self.inside.index.items in
    let same : entries_of _ index ≡ c.args.self.now.entries = ap (λ (s : StripePart). s.entries) c.self.view_is in
    let split : IsSplit c.args.self.now.entries c.args.f c.args.b c.count_before-n.result = rw (c.from.ensures, c.from-2.ensures) at c.count_before-n.ensures.parts in
    let here : c.in-Some.index_entry.now ≡ slice_index_or index c.count_before-n.result c.in-Some.index_entry.now = rw c.deref.ensures.value at c.in-Some.ensures.lookup.1 in
    gap-from_split c.args.self.now.entries c.args.f c.args.b c.count_before-n.result c.count_before-n.ensures.kept.ascending split
    (λ within file block. c.if-index_entry-b.false
    (ap (λ (e : BlockEntry). e.block) (sym (index_entry-entry _ index c.count_before-n.result c.in-Some.index_entry.now (rw (← same) at within) here))
    ∙ rw (← same) at block))

pub returns-in_default-2-clause-found : goal.returns-in_default-2-clause-found
returns-in_default-2-clause-found c =
    let index = c.self.inside.index.items in
    let same : entries_of _ index ≡ c.args.self.now.entries = ap (λ (s : StripePart). s.entries) c.self.view_is in
    let split : IsSplit c.args.self.now.entries c.args.f c.args.b c.count_before-n.result = rw (c.from.ensures, c.from-2.ensures) at c.count_before-n.ensures.parts in
    let here : c.in-Some.index_entry.now ≡ slice_index_or index c.count_before-n.result c.in-Some.index_entry.now = rw c.deref.ensures.value at c.in-Some.ensures.lookup.1 in
    gap-from_split c.args.self.now.entries c.args.f c.args.b c.count_before-n.result c.count_before-n.ensures.kept.ascending split
    (λ within file block. c.if-index_entry-f.false
    (ap (λ (e : BlockEntry). e.file) (sym (index_entry-entry _ index c.count_before-n.result c.in-Some.index_entry.now (rw (← same) at within) here))
    ∙ rw (← same) at file))
