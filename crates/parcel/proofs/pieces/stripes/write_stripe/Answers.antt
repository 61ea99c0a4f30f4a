-- The blocks of the stripe are those that the state has there.
use Rattle.std.proofs.Common.{◌∙◌}
use Rattle.stripe.specs.Entries.{stripe_bytes}
use Rattle.parcel.proofs.StripePieces.{files_small, entries_spelled}
use Rattle.parcel.proofs.pieces.stripes.write_stripe.Goals as goal

pub write_piece-requires-clause-files : goal.write_piece-requires-clause-files
write_piece-requires-clause-files c = files_small c.args.g.now c.args.s c.args.stripe.now.entries c.requires.fits.lies

pub returns : goal.returns
returns c =
    let g = c.args.g.now in
    let p = c.args.stripe.now in
    λ x a v is same.
    let entries = entries_spelled is a v c.len.ensures.kept.ascending c.requires.fits same in
    c.write_piece.ensures ∙ (λ i. stripe_bytes (c.requires.fits.quota i) (entries i))
