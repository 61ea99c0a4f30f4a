-- The list (row) of a volume's stripes, before and after a call that removes blocks from each of them.
use Rattle.std.proofs.Common.{◌≡◌, ℕ, suc, ◌<◌, Bool, true, false, List, [], ◌∷◌, Some, None, refl, ap, sym, ◌∙◌, length, slice_index_or, arith}
use Rattle.std.specs.Prelude.{if◌then◌else◌, Option, is_some, IfSome}
use Rattle.std.specs.List.{AllByRecursion}
use Rattle.affinity.specs.declared.geometry.Geometry.{Geometry}
use Rattle.protocol.specs.declared.messages.Block.{Block}
use Rattle.parcel.specs.Removes.{Removes}
use Rattle.parcel.specs.Fits.{FitsStripe, EachFits}
use Rattle.parcel.specs.Whole.{IsWholeChild}
use Rattle.parcel.specs.Shown.{blocks_in}
use Rattle.stripe.specs.Stripe.{StripePart, content_at}

fewer : (t : Bool) (o : Option Block) → is_some (if t then None else o) ≡ true → is_some o ≡ true
fewer t o h = grind arith

module _ (is_gone : ℕ → ℕ → Bool) where
  -- ---- one stripe

  fits_still : (g : Geometry) (s : ℕ) (x y : Option StripePart) → Removes is_gone x y → IfSome x (FitsStripe g s) → IfSome y (FitsStripe g s)
  fits_still g s None None h fits = fits
  fits_still g s None (Some q) h fits = absurd h
  fits_still g s (Some p) None h fits = absurd h
  fits_still g s (Some p) (Some q) h fits = record {
    quota = h.quota ∙ fits.quota;
    lies = λ i j there. fits.lies i j (fewer (is_gone i j) (content_at p.entries i j) (sym (ap is_some (h.content i j)) ∙ there));
  }

  whole_still : (x y : Option StripePart) → Removes is_gone x y → IsWholeChild (λ p. Unit {0}) x → IsWholeChild (λ p. Unit {0}) y
  whole_still None y h whole = absurd whole
  whole_still (Some p) None h whole = absurd h
  whole_still (Some p) (Some q) h whole = tt

  pub blocks_left : (x y : Option StripePart) → Removes is_gone x y → (i j : ℕ) → blocks_in y i j ≡ (if is_gone i j then None else blocks_in x i j)
  blocks_left None None h i j = no_block (is_gone i j)
    where
      no_block : (t : Bool) → blocks_in None i j ≡ (if t then None else blocks_in None i j)
      no_block true = refl
      no_block false = refl
  blocks_left None (Some q) h i j = absurd h
  blocks_left (Some p) None h i j = absurd h
  blocks_left (Some p) (Some q) h i j = h.content i j

  -- ---- each of a row

  abbrev pub RemovesEach : List (Option StripePart) → List (Option StripePart) → Type 0
  RemovesEach xs ys = (s : ℕ) → s < length xs → Removes is_gone (slice_index_or xs s None) (slice_index_or ys s None)

  pub row_fits : (g : Geometry) (i : ℕ) (xs ys : List (Option StripePart)) → length ys ≡ length xs → RemovesEach xs ys → EachFits (FitsStripe g) i xs → EachFits (FitsStripe g) i ys
  row_fits g i xs [] same each h = tt
  row_fits g i [] (y ∷ ys) same each h = absurd (omega (arith, same))
  row_fits g i (x ∷ xs) (y ∷ ys) same each h =
      (fits_still g i x y (each 0 (omega arith)) h.0, row_fits g (suc i) xs ys (omega (arith, same)) (λ s lt. each (suc s) (omega (arith, lt))) h.1)

  pub row_whole : (xs ys : List (Option StripePart)) → length ys ≡ length xs → RemovesEach xs ys
      → AllByRecursion (IsWholeChild (λ (p : StripePart). Unit {0})) xs → AllByRecursion (IsWholeChild (λ (p : StripePart). Unit {0})) ys
  row_whole xs [] same each h = tt
  row_whole [] (y ∷ ys) same each h = absurd (omega (arith, same))
  row_whole (x ∷ xs) (y ∷ ys) same each h =
      (whole_still x y (each 0 (omega arith)) h.0, row_whole xs ys (omega (arith, same)) (λ s lt. each (suc s) (omega (arith, lt))) h.1)
