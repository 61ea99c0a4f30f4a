-- What a stripe's piece decodes to fits the stripe.
use Rattle.std.proofs.Common.{refl, ◌∙◌, ap, subst}
use Rattle.std.specs.Prelude.{IfSome}
use Rattle.stripe.specs.Stripe.{StripePart, content_at}
use Rattle.parcel.specs.Fits.{FitsStripe}
use Rattle.parcel.proofs.StripePieces.{entries_fit}
use Rattle.parcel.proofs.pieces.stripes.read_at.Goals as goal

pub returns-then-read_piece : goal.returns-then-read_piece
returns-then-read_piece c =
    let g = c.args.g.now in
    let good = c.if-read_piece.ensures.good refl in
    let fits : FitsStripe g c.args.s c.in-Some.stripe = subst (λ o. IfSome o (FitsStripe g c.args.s)) c.in-Some.is c.requires.fits in
    let quota = ap (λ (p : StripePart). p.quota) good.1 ∙ ap (λ (p : StripePart). p.quota) c.drop_all.ensures ∙ fits.quota in
    let entries = ap (λ (p : StripePart). p.entries) good.1 in
    record {
      fits = entries_fit c.requires.files good.0 quota entries;
      whole = tt;
      piece = (λ on. good.0, λ is. refl);
      blocks = λ on f b. ap (λ es. content_at es f b) entries;
    }
