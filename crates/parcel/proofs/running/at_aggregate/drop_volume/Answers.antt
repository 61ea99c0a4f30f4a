-- The one volume of the row that is cleared loses all it has; the others stay, and the row still fits.
use Rattle.std.proofs.Common.{refl, ◌∙◌}
use Rattle.std.specs.Prelude.{None}
use Rattle.std.proofs.lemmas.Result.{err_from_is_err_and}
use Rattle.protocol.specs.declared.messages.Msg.TheVariants.{DropVol}
use Rattle.parcel.specs.VolumeStep.{guard_open}
use Rattle.parcel.specs.Volume.{no_facts}
use Rattle.parcel.proofs.OneVolume.{passed, refused}
use Rattle.parcel.proofs.VolumeRows.{at_aggregate, drop_tests, effect_drop, it_changes, it_shows, still_fits}
use Rattle.parcel.proofs.running.at_aggregate.drop_volume.Goals as goal

pub returns-clause-fits : goal.returns-clause-fits
returns-clause-fits c =
    still_fits c.args.g.now c.args.aggregate.now c.requires.fits c.from-index.ensures c.requires.volume c.index_mut.ensures.value c.clear.new.node (c.clear.ensures.fits c.args.g.now)

pub returns-clause-step : goal.returns-clause-step
returns-clause-step c =
    let g = c.args.g.now in
    let r = c.args.aggregate.now in
    let made = it_shows g r c.requires.fits c.from-index.ensures c.requires.volume c.index.ensures (λ h. h.made) (c.marks-made.ensures.made g) in
    let sealed = it_shows g r c.requires.fits c.from-index.ensures c.requires.volume c.index.ensures (λ h. h.sealed) (c.marks-made.ensures.sealed g) in
    λ a t range. passed g (at_aggregate g a r) (DropVol a c.args.v) _ _ (drop_tests g a c.args.v r range ∙ (λ i. guard_open (made i) (sealed i) None) ∙ c.in_ok-guard_open.ensures None) refl
    (effect_drop a c.args.v _ _ (it_changes g r c.requires.fits c.from-index.ensures c.requires.volume c.index_mut.ensures.value c.clear.new.node (λ h. no_facts) (c.clear.ensures.facts g)))

pub returns-in_err-guard_open-clause-step : goal.returns-in_err-guard_open-clause-step
returns-in_err-guard_open-clause-step c =
    let g = c.args.g.now in
    let r = c.args.aggregate.now in
    let made = it_shows g r c.requires.fits c.from-index.ensures c.requires.volume c.index.ensures (λ h. h.made) (c.marks-made.ensures.made g) in
    let sealed = it_shows g r c.requires.fits c.from-index.ensures c.requires.volume c.index.ensures (λ h. h.sealed) (c.marks-made.ensures.sealed g) in
    let p = err_from_is_err_and c.from_residual.result c.from_residual.ensures.1 in
    rw (p.1, p.2)
    (λ a t range. refused g (at_aggregate g a r) (DropVol a c.args.v) _
    (drop_tests g a c.args.v r range ∙ (λ i. guard_open (made i) (sealed i) None) ∙ c.in_err-guard_open.ensures None))
