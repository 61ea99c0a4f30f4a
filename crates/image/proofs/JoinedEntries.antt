-- What entries hold that were joined: of each block what the one of them holds that has it.
use Rattle.std.proofs.Common.{◌≡◌, ◌≢◌, ℕ, zero, suc, ◌<◌, ◌≤◌, Bool, true, false, ◌&&◌, List, [], ◌∷◌, ◌++◌, Option, Some, None, refl, sym, ◌∙◌, ap, arith, ⊎_elim}
use Rattle.std.proofs.lemmas.Bool.{cases_lt, eq-eqb, and_from}
use Rattle.std.specs.Prelude.{◌==◌, if◌then◌else◌}
use Rattle.protocol.specs.declared.messages.Block.{Block}
use Rattle.stripe.specs.Stripe.{BlockEntry, content_at}
use Rattle.image.specs.Pieces.{entry_if, joined_below}

or_else : Option Block → Option Block → Option Block
or_else None other = other
or_else (Some content) other = Some content

content-append : (f b : ℕ) (xs ys : List BlockEntry) → content_at (xs ++ ys) f b ≡ or_else (content_at xs f b) (content_at ys f b)
unfolding or_else
content-append f b [] ys = refl
content-append f b (e ∷ xs) ys = grind (arith, content-append f b xs ys)

none_or : (o : Option Block) → or_else o None ≡ o
unfolding or_else
none_or None = refl
none_or (Some content) = refl

or_none : (o : Option Block) → or_else None o ≡ o
unfolding or_else
or_none o = refl

module _ (f b : ℕ) where
  pub none_joined : (n : ℕ) (h : ℕ → List BlockEntry) → ((i : ℕ) → i < n → content_at (h i) f b ≡ None) → content_at (joined_below n h) f b ≡ None
  none_joined zero h each = refl
  none_joined (suc n) h each =
      content-append f b (joined_below n h) (h n) ∙ (λ i. or_else (none_joined n h (λ k few. each k (omega (arith, few))) i) (each n (omega arith) i)) ∙ or_none None

  pub one_joined : (n k : ℕ) (h : ℕ → List BlockEntry) → ((i : ℕ) → i ≢ k → content_at (h i) f b ≡ None) → k < n → content_at (joined_below n h) f b ≡ content_at (h k) f b
  one_joined zero k h others below = absurd (omega (arith, below))
  one_joined (suc n) k h others below =
      content-append f b (joined_below n h) (h n)
      ∙ ⊎_elim
      (λ (less : k < n). (λ i. or_else (one_joined n k h others less i) (others n (λ is. omega (arith, is, less)) i)) ∙ none_or (content_at (h k) f b))
      (λ (no_less : n ≤ k).
      let last : k ≡ n = omega (arith, below, no_less) in
      (λ i. or_else (none_joined n h (λ j few. others j (λ is. omega (arith, is, few, last))) i) (content_at (h n) f b))
      ∙ or_none (content_at (h n) f b) ∙ ap (λ (j : ℕ). content_at (h j) f b) (sym last))
      (cases_lt k n)

  -- an entry of another block
  pub elsewhere : (p : Bool) (i j : ℕ) (o : Option Block) → ((f == i) && (b == j)) ≡ false → content_at (entry_if p i j o) f b ≡ None
  elsewhere true i j (Some content) other = ap (λ (t : Bool). if t then Some content else None) other
  elsewhere true i j None other = refl
  elsewhere false i j o other = refl

  pub here : (p : Bool) (o : Option Block) → content_at (entry_if p f b o) f b ≡ (if p then o else None)
  here true (Some content) = ap (λ (t : Bool). if t then Some content else None) (and_from (f == f) (b == b) (eq-eqb f f refl) (eq-eqb b b refl))
  here true None = refl
  here false o = refl
