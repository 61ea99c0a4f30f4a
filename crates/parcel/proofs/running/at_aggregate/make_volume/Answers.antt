-- The one volume of the row that is made has its effect; the others stay, and the row still fits.
use Rattle.std.proofs.Common.{refl, ◌∙◌}
use Rattle.std.specs.Prelude.{None, not}
use Rattle.std.proofs.lemmas.Result.{err_from_is_err_and}
use Rattle.protocol.specs.declared.messages.Msg.TheVariants.{MakeVol}
use Rattle.protocol.specs.declared.replies.Refusal.TheVariants.{Exists}
use Rattle.parcel.specs.VolumeStep.{guard}
use Rattle.parcel.specs.Volume.{with_made}
use Rattle.parcel.proofs.OneVolume.{passed, refused}
use Rattle.parcel.proofs.VolumeRows.{at_aggregate, make_tests, effect_make, it_changes, it_shows, still_fits}
use Rattle.parcel.proofs.running.at_aggregate.make_volume.Goals as goal

pub returns-clause-fits : goal.returns-clause-fits
returns-clause-fits c =
    still_fits c.args.g.now c.args.aggregate.now c.requires.fits c.from-index.ensures c.requires.volume c.index_mut.ensures.value c.make.new.node (c.make.ensures.fits c.args.g.now)

pub returns-clause-step : goal.returns-clause-step
returns-clause-step c =
    let g = c.args.g.now in
    let r = c.args.aggregate.now in
    let made = it_shows g r c.requires.fits c.from-index.ensures c.requires.volume c.index.ensures (λ h. h.made) (c.marks-made.ensures.made g) in
    λ a t range. passed g (at_aggregate g a r) (MakeVol a c.args.v) _ _ (make_tests g a c.args.v r range ∙ (λ i. guard (not (made i)) Exists None) ∙ c.in_ok-guard.ensures None) refl
    (effect_make a c.args.v _ _ (it_changes g r c.requires.fits c.from-index.ensures c.requires.volume c.index_mut.ensures.value c.make.new.node with_made (c.make.ensures.facts g)))

pub returns-in_err-guard-clause-step : goal.returns-in_err-guard-clause-step
returns-in_err-guard-clause-step c =
    let g = c.args.g.now in
    let r = c.args.aggregate.now in
    let made = it_shows g r c.requires.fits c.from-index.ensures c.requires.volume c.index.ensures (λ h. h.made) (c.marks-made.ensures.made g) in
    let p = err_from_is_err_and c.from_residual.result c.from_residual.ensures.1 in
    rw (p.1, p.2)
    (λ a t range. refused g (at_aggregate g a r) (MakeVol a c.args.v) _ (make_tests g a c.args.v r range ∙ (λ i. guard (not (made i)) Exists None) ∙ c.in_err-guard.ensures None))
