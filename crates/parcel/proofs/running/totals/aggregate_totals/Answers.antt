-- Each volume fits at its place, and the sums are small enough for 32 bits.
use Rattle.std.proofs.Common.{◌≡◌, ◌*◌, ◌<◌, sym, subst, length, slice_index_or, arith}
use Rattle.std.specs.Prelude.{None}
use Rattle.std.proofs.lemmas.List.{get_or_read}
use Rattle.parcel.specs.Fits.{FitsVolume}
use Rattle.parcel.specs.Shown.{aggregate_facts, child_facts, volume_facts}
use Rattle.parcel.specs.Totals.{totals_of}
use Rattle.parcel.proofs.ChildRows.{fits_in_place}
use Rattle.parcel.proofs.Totals.{IsFew, few_of_one, few_of_sum}
use Rattle.parcel.proofs.running.totals.aggregate_totals.Goals as goal

pub volume_in-requires : goal.volume_in-requires
volume_in-requires c =
    let row = c.args.aggregate.now.volumes in
    let below : c.loop-v.v < length row.items = omega (arith, row.ok.0) in
    let at : slice_index_or row.items c.loop-v.v None ≡ c.index.result.now = sym (get_or_read row.items _ _ below c.index.ensures None) in
    fits_in_place (λ v. FitsVolume c.args.g.now) row.items c.requires.volumes c.loop-v.v c.index.result.now at

pub plus-totals-requires : goal.plus-totals-requires
plus-totals-requires c =
    let g = c.args.g.now in
    let so_far : IsFew (c.loop-v.v * 8) c.loop-v.totals = subst (IsFew (c.loop-v.v * 8)) (sym c.loop-v.invariant)
    (few_of_sum c.loop-v.v 1 (λ v. totals_of g (aggregate_facts g c.args.aggregate.now v)) (omega arith)
    (λ v. few_of_one g (aggregate_facts g c.args.aggregate.now v))) in
    let here : IsFew 1 c.volume_in.result = subst (IsFew 1) (sym c.volume_in.ensures) (few_of_one g (child_facts (volume_facts g) c.index.result.now)) in
    let range = g.volumes_range.1 in
    let row = c.args.aggregate.now.volumes in (
      omega (arith, so_far.volumes, here.volumes, row.ok.0, c.requires.count),
      omega (arith, so_far.files, here.files, row.ok.0, c.requires.count),
      omega (arith, so_far.blocks, here.blocks, row.ok.0, c.requires.count),
    )
