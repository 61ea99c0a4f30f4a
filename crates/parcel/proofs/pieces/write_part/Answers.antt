-- The part is the volume itself or one of its stripes.
use Rattle.std.proofs.Common.{◌≡◌, ℕ, suc, ◌-◌, slice_index_or, ◌∙◌, ap, subst, arith}
use Rattle.std.specs.Prelude.{None, IfSome}
use Rattle.std.proofs.lemmas.List.{get_or_read}
use Rattle.meaning.specs.Facts.{OfBlock}
use Rattle.image.specs.Pieces.{part_piece}
use Rattle.image.specs.declared.layout.TheConstants.{VERSION}
use Rattle.parcel.specs.Fits.{FitsLogical, FitsStripe}
use Rattle.parcel.specs.Shown.{blocks_in, blocks_below}
use Rattle.parcel.proofs.ChildRows.{fits_in_place}
use Rattle.parcel.proofs.VolumePieces.{volume_written}
use Rattle.parcel.proofs.pieces.write_part.Goals as goal
use Rattle.parcel.proofs.pieces.write_part.Goals.{After-index}

pub returns-then-part-eq0 : goal.returns-then-part-eq0
returns-then-part-eq0 c = grind (arith, volume_written)

-- the stripe that was found
found : (c : After-index) → slice_index_or c.in-Some.logical.stripes.items (c.args.part - 1) None ≡ c.index.result.now
found c = grind (arith, get_or_read)

pub write_stripe-requires-clause-fits : goal.write_stripe-requires-clause-fits
write_stripe-requires-clause-fits c =
    let g = c.args.g.now in
    let fits : FitsLogical g c.in-Some.logical = subst (λ o. IfSome o (FitsLogical g)) c.in-Some.is c.requires.fits.logical in
    subst (λ o. IfSome o (FitsStripe g (c.args.part - 1))) c.in-Some-index.is
    (fits_in_place (FitsStripe g) c.in-Some.logical.stripes.items fits.stripes (c.args.part - 1) c.index.result.now (found (goal.at.write_stripe-requires-clause-fits c).After-index))

pub returns : goal.returns
returns c x a v is has =
    let g = c.args.g.now in
    let row = c.in-Some.logical.stripes.items in
    let later : suc (c.args.part - 1) ≡ c.args.part = omega (arith, c.if-part-eq0.false) in
    c.write_stripe.ensures x a v is (λ f b on.
    has (OfBlock f b) ∙ ap (λ o. blocks_below g o f b) c.in-Some.is ∙ ap (λ (s : ℕ). blocks_in (slice_index_or row s None) f b) on
    ∙ ap (λ o. blocks_in o f b) (found (goal.at.returns c).After-index ∙ c.in-Some-index.is))
    ∙ ap (λ (k : ℕ). part_piece VERSION g x a v k) later
