-- The affinities above one, by their numbers.
use Rattle.std.proofs.lemmas.Grind.{common_steps}
use Rattle.std.proofs.Common.{◌≡◌, ◌∙◌, ℕ, zero, suc, ◌<◌, Bool, true, false, [], ◌∷◌, take, refl, ap, sym, arith, length, ◌⊎◌, List, ◌||◌}
use Rattle.std.specs.Prelude.{◌==◌}
use Rattle.std.specs.List.{list_any}
use Rattle.std.proofs.lemmas.Bool.{eq-eqb, eqb-true, and_from, true≢false}
use Rattle.affinity.specs.Path.{Path, is_prefix, IsPath}
use Rattle.affinity.specs.Interval.{Interval, IsAffinity, IsAffinityOf, contains, preorder_number, affinity_count}
use Rattle.affinity.specs.declared.geometry.Geometry.{Geometry}
use Rattle.affinity.proofs.Paths.{is_prefix-refl}
use Rattle.affinity.proofs.Preorder.{is_prefix-contains, path_at, path_at-number}
use Rattle.run_queue.specs.RunQueue.{are_related_intervals}
use Rattle.run_queue.specs.RelatedNumbers.{numbers_above}

-- Related to affinity a are exactly a itself, the affinities below it, and those with the numbers `above`.
abbrev pub AreAbove : Geometry → Interval → List ℕ → Type 0
AreAbove g a above = (b : Interval) → IsAffinity g b
    → are_related_intervals a b ≡ (contains a b.number || list_any (λ n. n == b.number) above)

-- ---- prefixes of a path

is_prefix-is : (q p : Path) → is_prefix q p ≡ true → q ≡ take (length q) p
is_prefix-is [] p h = refl
is_prefix-is (x ∷ q) [] h = absurd (true≢false (sym h))
is_prefix-is (x ∷ q) (y ∷ p) h = grind (arith, common_steps, is_prefix-is q p)

is_prefix-take : (k : ℕ) (p : Path) → is_prefix (take k p) p ≡ true
is_prefix-take zero p = refl
is_prefix-take (suc k) [] = refl
is_prefix-take (suc k) (x ∷ p) = and_from (x == x) (is_prefix (take k p) p) (eq-eqb x x refl) (is_prefix-take k p)

-- the prefixes of an affinity's path are paths of affinities, too
prefix_is : (g : Geometry) (k : ℕ) (p : Path) → IsPath g p → IsPath g (take k p)
prefix_is g (suc (suc (suc (suc (suc k))))) (a ∷ v ∷ zero ∷ s ∷ r ∷ p) h = absurd h
prefix_is g k (a ∷ v ∷ zero ∷ s ∷ r ∷ p) h = absurd h
prefix_is g k (a ∷ v ∷ suc zero ∷ s ∷ p) h = absurd h
prefix_is g k (a ∷ v ∷ suc (suc n) ∷ p) h = absurd h
prefix_is g _ _ h = grind (arith, common_steps)

pub same_path : (g : Geometry) (p q : Path) → IsPath g p → IsPath g q → preorder_number g p ≡ preorder_number g q → p ≡ q
same_path g p q h k same = sym (path_at-number g p h) ∙ ap (path_at g) same ∙ path_at-number g q k

-- ---- their numbers

-- a prefix q of the path p is p itself, or its affinity's number is among `numbers_above`
found_at : (g : Geometry) (p q : Path) (k : ℕ) → IsPath g p → q ≡ take k p
    → (q ≡ p) ⊎ (list_any (λ n. n == preorder_number g q) (numbers_above g p) ≡ true)
found_at g p q (suc (suc (suc (suc k)))) h is = grind (arith, common_steps)
found_at g p q _ h is = grind (arith, common_steps)

above-found : (g : Geometry) (p q : Path) → IsPath g p → is_prefix q p ≡ true
    → (q ≡ p) ⊎ (list_any (λ n. n == preorder_number g q) (numbers_above g p) ≡ true)
above-found g p q h first = found_at g p q (length q) h (is_prefix-is q p first)

at_begins : (g : Geometry) (p q : Path) (k : ℕ) → IsPath g (take k p) → IsPath g q → (preorder_number g (take k p) == preorder_number g q) ≡ true → is_prefix q p ≡ true
at_begins g p q k there h same = grind (arith, common_steps, same_path, eqb-true, is_prefix-take)

above-is_prefix : (g : Geometry) (p q : Path) → IsPath g p → IsPath g q → list_any (λ n. n == preorder_number g q) (numbers_above g p) ≡ true → is_prefix q p ≡ true
above-is_prefix g p q h k found = grind (
  arith,
  at_begins g p q 0 tt k,
  at_begins g p q 1 (prefix_is g 1 p h) k,
  at_begins g p q 2 (prefix_is g 2 p h) k,
  at_begins g p q 3 (prefix_is g 3 p h) k,
)

same_truth : (b c : Bool) → (b ≡ true → c ≡ true) → (c ≡ true → b ≡ true) → b ≡ c
same_truth true c f g = sym (f refl)
same_truth false true f g = g refl
same_truth false false f g = refl

-- ---- what is related

pub are_above : (g : Geometry) (p : Path) (a : Interval) → IsAffinityOf g p a → AreAbove g a (numbers_above g p)
are_above g p a h b k = grind (arith, common_steps, is_prefix-contains, same_truth, above-found, is_prefix-refl, above-is_prefix)

pub contains-own : (g : Geometry) (a : Interval) → IsAffinity g a → contains a a.number ≡ true
contains-own g a h = rw h.1.interval (sym (is_prefix-contains g h.0 h.0 h.1.path h.1.path) ∙ is_prefix-refl h.0)

pub number-below : (g : Geometry) (a : Interval) → IsAffinity g a → a.number < affinity_count g
number-below g a h = grind (arith, common_steps, is_prefix-contains g [] h.0 tt h.1.path)
