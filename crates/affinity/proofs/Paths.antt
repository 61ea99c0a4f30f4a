-- Prefixes of paths, and related paths.
use Rattle.std.proofs.Common.{arith, ◌≡◌, ℕ, true, false, [], ◌∷◌, ◌++◌, refl, sym, ap, ◌∙◌}
use Rattle.std.specs.Prelude.{◌==◌}
use Rattle.std.proofs.lemmas.Grind.{common_steps}
use Rattle.std.proofs.lemmas.Bool.{and_from, and_parts, or_cases, or_left, eq-eqb, eqb-true, true≢false, false_from_ne_true}
use Rattle.affinity.specs.Path.{Path, is_prefix, are_related}

pub is_prefix-refl : (p : Path) → is_prefix p p ≡ true
is_prefix-refl [] = refl
is_prefix-refl (x ∷ p) = and_from _ _ (eq-eqb x x refl) (is_prefix-refl p)

pub begins : (p q : Path) → is_prefix p (p ++ q) ≡ true
begins [] q = refl
begins (x ∷ p) q = and_from _ _ (eq-eqb x x refl) (begins p q)

-- what begins with a path is that path and the rest
pub begins_split : (p q : Path) → is_prefix p q ≡ true → (r : Path) × (q ≡ p ++ r)
begins_split [] q h = (q, refl)
begins_split (x ∷ p) [] h = absurd (true≢false (sym h))
begins_split (x ∷ p) (y ∷ q) h =
    let both = and_parts (x == y) (is_prefix p q) h in
    let rest = begins_split p q both.1 in
    (rest.0, sym (ap (λ z. z ∷ q) (eqb-true x y both.0)) ∙ ap (λ r. x ∷ r) rest.1)

pub is_prefix-trans : (p q r : Path) → is_prefix p q ≡ true → is_prefix q r ≡ true → is_prefix p r ≡ true
is_prefix-trans [] q r a b = refl
is_prefix-trans (x ∷ p) [] r a b = absurd (true≢false (sym a))
is_prefix-trans (x ∷ p) (y ∷ q) [] a b = absurd (true≢false (sym b))
is_prefix-trans (x ∷ p) (y ∷ q) (z ∷ r) a b = grind (arith, common_steps, is_prefix-trans p q r)

pub are_related-refl : (p : Path) → are_related p p ≡ true
are_related-refl p = or_left (is_prefix p p) (is_prefix p p) (is_prefix-refl p)

pub related_turned : (p q : Path) → are_related p q ≡ true → are_related q p ≡ true
related_turned p q h = grind (arith, common_steps)

pub unrelated_turned : (p q : Path) → are_related p q ≡ false → are_related q p ≡ false
unrelated_turned p q h = false_from_ne_true _ (λ e. true≢false (sym (related_turned q p e) ∙ h))

pub related_first : (i j : ℕ) (p q : Path) → are_related (i ∷ p) (j ∷ q) ≡ true → i ≡ j
related_first i j p q h = grind (arith, common_steps)

pub related_rest : (i j : ℕ) (p q : Path) → are_related (i ∷ p) (j ∷ q) ≡ true → are_related p q ≡ true
related_rest i j p q h = grind (arith, common_steps)

-- Two beginnings of one path are related.
pub beginnings_related : (p q r : Path) → is_prefix p r ≡ true → is_prefix q r ≡ true → are_related p q ≡ true
beginnings_related [] q r a b = refl
beginnings_related (x ∷ p) [] r a b = refl
beginnings_related (x ∷ p) (y ∷ q) [] a b = absurd (true≢false (sym a))
beginnings_related (x ∷ p) (y ∷ q) (z ∷ r) a b = grind (arith, common_steps, beginnings_related p q r)

-- If p is unrelated to q, then so is each path at or below p.
pub unrelated_below : (p q r : Path) → are_related p q ≡ false → is_prefix p r ≡ true → are_related r q ≡ false
unrelated_below p q r h under = grind (arith, common_steps, false_from_ne_true, or_left, is_prefix-trans, beginnings_related, or_cases)
