-- Lists read by `get_elem?`: a list after one element was set, and a list of equal elements.
use Rattle.std.proofs.Common.{◌≡◌, ℕ, zero, suc, ◌<◌, List, [], ◌∷◌, length, set, replicate, refl, sym, arith}
use mathlib.Core.Option.{some, some-ne-none}
use lib.ListN.{get_elem?}

module _ {A : Type 0} where
  pub set_at : (l : List A) (i : ℕ) (a b : A) → get_elem? l i ≡ some a → get_elem? (set l i b) i ≡ some b
  set_at [] i a b e = absurd (some-ne-none a (sym e))
  set_at (x ∷ xs) zero a b e = refl
  set_at (x ∷ xs) (suc i) a b e = set_at xs i a b e

  pub there : (l : List A) (i : ℕ) → i < length l → (a : A) × (get_elem? l i ≡ some a)
  there [] i h = absurd (omega arith)
  there (x ∷ xs) zero h = (x, refl)
  there (x ∷ xs) (suc i) h = there xs i (omega arith)

  pub is_there : (l : List A) (i : ℕ) (a : A) → get_elem? l i ≡ some a → i < length l
  is_there [] i a e = absurd (some-ne-none a (sym e))
  is_there (x ∷ xs) zero a e = omega arith
  is_there (x ∷ xs) (suc i) a e = let h = is_there xs i a e in omega arith

  pub at_replicate : (n i : ℕ) (a b : A) → get_elem? (replicate n a) i ≡ some b → b ≡ a
  at_replicate zero i a b e = absurd (some-ne-none b (sym e))
  at_replicate (suc n) zero a b e = sym (mathlib.Core.Option.some-injective a b e)
  at_replicate (suc n) (suc i) a b e = at_replicate n i a b e
