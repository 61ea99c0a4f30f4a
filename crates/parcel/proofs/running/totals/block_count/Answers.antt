-- A stripe has as many entries as the state counts blocks in it, and all stripes make up the volume.
use Rattle.std.proofs.Common.{◌≡◌, ap, sym, ◌∙◌, slice_index_or, arith}
use Rattle.std.specs.Prelude.{None, IfSome}
use Rattle.std.proofs.lemmas.List.{get_or_read}
use Rattle.meaning.specs.State.{sum_below, blocks_in_stripe}
use Rattle.meaning.proofs.Counts.{block_count-by_stripe}
use Rattle.parcel.specs.Fits.{FitsStripe}
use Rattle.parcel.specs.Shown.{blocks_of}
use Rattle.parcel.proofs.StripeTotals.{holding, count_at, few_entries, quota_of}
use Rattle.parcel.proofs.ChildRows.{fits_in_place}
use Rattle.parcel.proofs.Totals.{sum_step}
use Rattle.parcel.proofs.running.totals.block_count.Goals as goal
use Rattle.parcel.proofs.running.totals.block_count.Goals.{After-index}

-- the stripe that index s finds, or that it is out
found : (c : After-index) → slice_index_or c.args.logical.now.stripes.items c.loop-s.s None ≡ c.index.result.now
found c =
    let row = c.args.logical.now.stripes in
    sym (get_or_read row.items _ _ (omega (arith, c.loop-s-test.true, c.len-s-end.ensures, row.ok.0)) c.index.ensures None)

fits : (c : After-index) → IfSome c.index.result.now (FitsStripe c.args.g.now c.loop-s.s)
fits c = fits_in_place (FitsStripe c.args.g.now) c.args.logical.now.stripes.items c.requires.stripes c.loop-s.s c.index.result.now (found c)

pub entry_count-total-requires : goal.entry_count-total-requires
entry_count-total-requires c = quota_of c.args.g.now c.loop-s.s c.index.result.now (fits c)

pub overflow_add-total : goal.overflow_add-total
overflow_add-total c =
    let few = few_entries c.args.g.now c.loop-s.s c.index.result.now c.entry_count-total.ensures.kept (fits (goal.at.overflow_add-total c).After-index) in
    let most = c.args.g.now.stripes_range.1 in
    omega (arith, few, c.loop-s.invariant.most, c.entry_count-total.ensures.count, c.requires.count)

pub loop-s-preserved : goal.loop-s-preserved
loop-s-preserved c =
    let g = c.args.g.now in
    let row = c.args.logical.now.stripes.items in
    let at = (goal.at.loop-s-preserved c).After-index in
    let few = few_entries g c.loop-s.s c.index.result.now c.entry_count-total.ensures.kept (fits at) in
    let here = count_at g row c.loop-s.s c.index.result.now (found at) c.entry_count-total.ensures.kept (fits at) in
    let step = sum_step c.loop-s.s (blocks_in_stripe g (holding (blocks_of g row)) 0 0) in
    record {
      total = omega (arith, step, here, c.loop-s.invariant.total, c.entry_count-total.ensures.count);
      most = omega (arith, few, c.loop-s.invariant.most, c.entry_count-total.ensures.count);
    }

pub returns : goal.returns
returns c =
    let g = c.args.g.now in
    let row = c.args.logical.now.stripes in
    let last : c.loop-s.s ≡ g.stripes = omega (arith, c.loop-s-test.false, c.len-s-end.ensures, row.ok.0, c.requires.count) in
    c.loop-s.invariant.total
    ∙ ap (λ n. sum_below n (blocks_in_stripe g (holding (blocks_of g row.items)) 0 0)) last
    ∙ sym (block_count-by_stripe g (holding (blocks_of g row.items)) 0 0)
