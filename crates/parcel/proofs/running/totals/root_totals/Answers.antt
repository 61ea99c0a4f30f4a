-- Each aggregate adds its totals, and the sums are small enough for 32 bits.
use Rattle.std.proofs.Common.{◌≡◌, ℕ, ◌*◌, ◌<◌, ap, sym, ◌∙◌, subst, length, slice_index_or, arith}
use Rattle.std.specs.Prelude.{None}
use Rattle.std.proofs.lemmas.List.{get_or_read}
use Rattle.parcel.specs.Shown.{aggregate_facts, child_facts, root_facts}
use Rattle.parcel.specs.Totals.{sum_totals, totals_of}
use Rattle.parcel.specs.declared.running.totals.Totals.{Totals}
use Rattle.parcel.proofs.Totals.{IsFew, few_of_one, few_of_sum, few_of_aggregates, sum_totals_step}
use Rattle.parcel.proofs.running.totals.root_totals.Goals as goal

pub plus-totals-requires : goal.plus-totals-requires
plus-totals-requires c =
    let g = c.args.g.now in
    let so_far : IsFew (c.loop-a.a * 64) c.loop-a.totals = subst (IsFew (c.loop-a.a * 64)) (sym c.loop-a.invariant) (few_of_aggregates g c.loop-a.a (root_facts g c.args.root.now)) in
    let here : IsFew (g.volumes * 8) c.aggregate_in.result = subst (IsFew (g.volumes * 8)) (sym c.aggregate_in.ensures)
    (few_of_sum g.volumes 1 (λ v. totals_of g (child_facts (λ r. aggregate_facts g r v) c.index.result.now)) (omega arith)
    (λ v. few_of_one g (child_facts (λ r. aggregate_facts g r v) c.index.result.now))) in
    let few = g.volumes_range.1 in
    let range = g.aggregates_range.1 in
    let row = c.args.root.now.aggregates in (
      omega (arith, so_far.volumes, here.volumes, row.ok.0, c.requires.count),
      omega (arith, so_far.files, here.files, row.ok.0, c.requires.count),
      omega (arith, so_far.blocks, here.blocks, row.ok.0, c.requires.count),
    )

pub loop-a-preserved : goal.loop-a-preserved
loop-a-preserved c =
    let g = c.args.g.now in
    let row = c.args.root.now.aggregates in
    let below : c.loop-a.a < length row.items = omega (arith, row.ok.0) in
    let at : slice_index_or row.items c.loop-a.a None ≡ c.index.result.now = sym (get_or_read row.items _ _ below c.index.ensures None) in
    let each : ℕ → Totals = λ a. sum_totals g.volumes (λ v. totals_of g (root_facts g c.args.root.now a v)) in
    sum_totals_step c.loop-a.a each _ _ _ c.loop-a.invariant (c.aggregate_in.ensures
    ∙ ap (λ o. sum_totals g.volumes (λ v. totals_of g (child_facts (λ r. aggregate_facts g r v) o))) (sym at)) c.plus-totals.ensures
