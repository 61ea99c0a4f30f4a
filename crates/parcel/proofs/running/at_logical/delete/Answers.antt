-- The bit of the file goes, and each stripe drops its blocks: the effect of a delete, and all still fits.
use Rattle.std.proofs.Common.{◌≡◌, ◌<◌, None, Some, refl, ◌∙◌, length, arith}
use Rattle.affinity.specs.Geometry.{stripe_of}
use Rattle.affinity.proofs.PlaceLemmas.{group_below}
use Rattle.protocol.specs.declared.messages.Msg.TheVariants.{Delete}
use Rattle.parcel.specs.Removes.{is_removed}
use Rattle.parcel.specs.Shown.{logical_facts, blocks_of, has_file}
use Rattle.parcel.specs.Volume.{one_volume}
use Rattle.meaning.proofs.FileBits.{few_bits, without_bit, without_bit_has, without_bit_below}
use Rattle.parcel.proofs.OneVolume.{passed, delete_tests, effect_delete}
use Rattle.parcel.proofs.StripeRows.{blocks_left, row_fits, row_whole}
use Rattle.parcel.proofs.running.at_logical.delete.Goals as goal

pub returns-clause-step : goal.returns-clause-step
returns-clause-step c =
    let g = c.args.g.now in
    let old = c.args.logical.now.stripes in
    let new = c.remove_blocks.new.stripes in
    let h = logical_facts g c.args.standing c.args.logical.now in
    let most = g.files_range.1 in
    let below : c.args.f < 64 = omega (arith, most, c.requires.file) in
    λ a v range. passed g (one_volume a v h) (Delete a v c.args.f) _ _ (delete_tests g a v c.args.f h range ∙ c.in_ok-guard_file.ensures None) refl
    (effect_delete h a v (has_file (without_bit c.args.logical.now.files c.args.f)) (blocks_of g new.items) c.args.f
    (without_bit_has c.args.logical.now.files c.args.f below (few_bits g.files c.args.logical.now.files c.requires.fits.files most))
    (λ i j. blocks_left (is_removed (Some c.args.f)) _ _ (c.remove_blocks.ensures.each (stripe_of g i j) (omega (arith, group_below g i j, c.requires.fits.count, old.ok.0))) i j))

pub returns-in_err-guard_file-clause-step : goal.returns-in_err-guard_file-clause-step
returns-in_err-guard_file-clause-step c = grind arith

pub returns-clause-fits : goal.returns-clause-fits
returns-clause-fits c =
    let old = c.args.logical.now.stripes in
    let new = c.remove_blocks.new.stripes in
    let same : length new.items ≡ length old.items = omega (arith, c.remove_blocks.ensures.count, old.ok.0, new.ok.0) in
    record {
      files = without_bit_below c.args.g.now.files c.args.logical.now.files c.args.f c.requires.fits.files;
      count = same ∙ c.requires.fits.count;
      stripes = row_fits (is_removed (Some c.args.f)) c.args.g.now 0 old.items new.items same (λ s lt. c.remove_blocks.ensures.each s (omega (arith, lt, old.ok.0))) c.requires.fits.stripes;
    }

pub returns-clause-whole : goal.returns-clause-whole
returns-clause-whole c =
    let old = c.args.logical.now.stripes in
    let new = c.remove_blocks.new.stripes in
    let same : length new.items ≡ length old.items = omega (arith, c.remove_blocks.ensures.count, old.ok.0, new.ok.0) in
    row_whole (is_removed (Some c.args.f)) old.items new.items same (λ s lt. c.remove_blocks.ensures.each s (omega (arith, lt, old.ok.0))) c.requires.whole
