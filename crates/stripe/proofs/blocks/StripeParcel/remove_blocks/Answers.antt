-- The slots of the index entries in the range are freed, and the index loses these entries.
use Rattle.std.proofs.Common.{◌≡◌, ◌-◌, ◌≤◌, ap, ◌∙◌, arith, length}
use Rattle.stripe.specs.Stripe.{StripePart}
use Rattle.stripe.proofs.IndexLemmas.{IsTaken, run_of, taken-none, taken-next, entries-cut, stored-cut, part_same, length-entries, length-run}
use Rattle.stripe.proofs.blocks.StripeParcel.remove_blocks.Goals.{After-drain}
use Rattle.stripe.proofs.blocks.StripeParcel.remove_blocks.Goals as goal

pub loop-index_entry-init : goal.loop-index_entry-init
loop-index_entry-init c = taken-none c.self.inside.blocks _ c.self.invariant.stored.partitioned

pub loop-index_entry-preserved : goal.loop-index_entry-preserved
loop-index_entry-preserved c =
    rw (c.take.ensures.arena, c.from.ensures, c.deref.ensures.value)
    (taken-next c.args.from c.args.end (record { file = 0; block = 0; slot = 0 }) c.self.invariant.stored c.requires.order
    (rw c.deref.ensures.value at c.loop-index_entry.invariant)
    (rw c.deref.ensures.value at c.loop-index_entry-test.true)
    (rw (c.take.ensures.arena, c.from.ensures, c.deref.ensures.value) at c.take.ensures.partitioned))

-- the range lies in the index, and after the loop the slots of all its entries are free
module _ (c : After-drain) where
  within : c.args.end ≤ length c.self.inside.index.items
  within =
      let full = rw (← ap (λ (s : StripePart). s.entries) c.self.view_is) at c.requires.within in
      let long = length-entries c.self.inside.blocks.values c.self.inside.index.items in
      omega arith

  taken : IsTaken c.self.inside.blocks c.loop-index_entry.self-inside.1.0 (run_of c.self.inside.index.items c.args.from c.args.end) (c.args.end - c.args.from)
  taken =
      let run = length-run c.self.inside.index.items c.args.from c.args.end c.requires.order within in
      let all = rw c.deref.ensures.value at c.loop-index_entry-test.false in
      let most = rw c.deref.ensures.value at c.loop-index_entry.auto.index_entry-index-end in
      let count : c.loop-index_entry.index_entry-index ≡ c.args.end - c.args.from = omega arith in
      rw (c.deref.ensures.value, count) at c.loop-index_entry.invariant

pub invariant_of-self : goal.invariant_of-self
invariant_of-self c =
    let at = (goal.at.invariant_of-self c).After-drain in
    record {
      stored = rw (c.drop-drain.ensures.items, c.drain.ensures.kept)
          (stored-cut c.self.inside.blocks c.loop-index_entry.self-inside.1.0 c.self.inside.index.items c.args.from (c.args.end - c.args.from) c.args.end
          c.self.invariant.stored (let order = c.requires.order in omega arith) (within at) (taken at));
      room = rw (c.drop-drain.ensures.capacity ∙ c.drain.ensures.capacity, (taken at).long) c.self.invariant.room;
    }

pub returns : goal.returns
returns c =
    let at = (goal.at.returns c).After-drain in
    rw (← c.self.view_is, c.drop-drain.ensures.items, c.drain.ensures.kept)
    (part_same _ _ _ _ (taken at).long
    (entries-cut c.self.inside.blocks c.loop-index_entry.self-inside.1.0 c.self.inside.index.items c.args.from (c.args.end - c.args.from) c.args.end c.self.invariant.stored
    (let order = c.requires.order in omega arith) (within at) (taken at)))
