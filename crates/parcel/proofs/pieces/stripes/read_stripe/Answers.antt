-- The stripe that is read is one of the volume's list, and the others stay.
use Rattle.std.proofs.Common.{◌≡◌, ◌<◌, length, slice_index_or, sym, arith}
use Rattle.std.specs.Prelude.{None}
use Rattle.std.proofs.lemmas.List.{get_or_read}
use Rattle.parcel.specs.Fits.{FitsStripe}
use Rattle.parcel.proofs.ChildRows.{fits_in_place}
use Rattle.parcel.proofs.Slots.{stripe_child}
use Rattle.parcel.proofs.pieces.stripes.read_stripe.Goals as goal

pub read_at-requires-clause-fits : goal.read_at-requires-clause-fits
read_at-requires-clause-fits c =
    let row = c.args.logical.now.stripes in
    let below : c.args.s < length row.items = omega (arith, c.requires.stripe, c.requires.fits.count) in
    let at : slice_index_or row.items c.args.s None ≡ c.index_mut.result.now = sym (get_or_read row.items _ _ below c.index_mut.ensures.value None) in
    fits_in_place (FitsStripe c.args.g.now) row.items c.requires.fits.stripes c.args.s c.index_mut.result.now at

pub returns-clause-fits : goal.returns-clause-fits
returns-clause-fits c = (stripe_child c.args.g.now c.args.s).put_fits c.args.logical.now c.read_at.new.node c.requires.fits c.read_at.ensures.fits
