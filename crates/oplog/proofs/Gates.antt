-- Gates that are opened in a row: whichever of them a crash leaves open, the front grows.
use Rattle.std.proofs.Common.{◌≡◌, ℕ, zero, suc, ◌+◌, ◌-◌, ◌≤◌, Bool, true, false, cond, eqb, List, [], ◌∷◌, ◌++◌, length, take, drop, replicate, refl, sym, ◌∙◌, ap, subst, arith}
use Rattle.std.proofs.lemmas.Bool.{eqb-true}
use Rattle.std.proofs.lemmas.List.{take-append-drop, drop-drop, drop-replicate, length-take}
use Rattle.disk.specs.Device.{SameOutside}
use Rattle.oplog.specs.HalfContent.{count_open}

opened_first : (gate : ℕ) (gates : List ℕ) (t : Bool) → eqb gate 1 ≡ t → take (count_open gates) gates ≡ replicate (count_open gates) 1
    → take (cond t (1 + count_open gates) 0) (gate ∷ gates) ≡ replicate (cond t (1 + count_open gates) 0) 1
opened_first gate gates true is rest =
    let one : gate ≡ 1 = eqb-true gate 1 is in
    let more : 1 + count_open gates ≡ suc (count_open gates) = omega arith in
    rw more (λ i. one i ∷ rest i)
opened_first gate gates false is rest = refl

-- The gates before the first that isn't 1 are 1.
opened : (gates : List ℕ) → take (count_open gates) gates ≡ replicate (count_open gates) 1
opened [] = refl
opened (gate ∷ gates) = opened_first gate gates (eqb gate 1) refl (opened gates)

open_ones : (k : ℕ) (gates : List ℕ) → count_open (replicate k 1 ++ gates) ≡ k + count_open gates
open_ones zero gates = omega arith
open_ones (suc k) gates = omega (arith, open_ones k gates)

pub open_none : (m : ℕ) → count_open (replicate m 0) ≡ 0
open_none zero = refl
open_none (suc m) = refl

pub open_within : (gates : List ℕ) (m : ℕ) → count_open (gates ++ replicate m 0) ≤ length gates
open_within [] m = omega (arith, open_none m)
open_within (gate ∷ gates) m =
    elim (eqb gate 1) as (λ (t : Bool). cond t (1 + count_open (gates ++ replicate m 0)) 0 ≤ suc (length gates)) [
      | true ↦ omega (arith, open_within gates m)
      | false ↦ omega arith
    ]

pub open_at_most : (gates : List ℕ) → count_open gates ≤ length gates
open_at_most [] = omega arith
open_at_most (gate ∷ gates) =
    elim (eqb gate 1) as (λ (t : Bool). cond t (1 + count_open gates) 0 ≤ suc (length gates)) [
      | true ↦ omega (arith, open_at_most gates)
      | false ↦ omega arith
    ]

-- Behind k open gates there are only shut ones, and n of those are written.
module _ (k n m : ℕ) (old c : List ℕ) (used : count_open old ≡ k) (shut : drop k old ≡ replicate m 0) (same : SameOutside k n old c) where
  before : take k c ≡ replicate k 1
  before = same.before ∙ subst (λ (k : ℕ). take k old ≡ replicate k 1) used (opened old)

  pub still_shut : drop (k + n) c ≡ replicate (m - n) 0
  still_shut = same.after ∙ sym (drop-drop n k old) ∙ ap (λ (l : List ℕ). drop n l) shut ∙ drop-replicate n m 0

  parted : c ≡ replicate k 1 ++ (take n (drop k c) ++ replicate (m - n) 0)
  parted =
      sym (take-append-drop k c) ∙ ap (λ (l : List ℕ). l ++ drop k c) before
      ∙ ap (λ (l : List ℕ). replicate k 1 ++ l) (sym (take-append-drop n (drop k c)) ∙ ap (λ (l : List ℕ). take n (drop k c) ++ l) (drop-drop n k c ∙ still_shut))

  -- whatever these n gates hold then, k + j gates are open before the first shut one, for some j up to n
  pub torn_gates : (j : ℕ) × (j ≤ n) × (count_open c ≡ k + j)
  torn_gates =
      let more = take n (drop k c) in
      let few : count_open (more ++ replicate (m - n) 0) ≤ n = omega (arith, open_within more (m - n), length-take n (drop k c)) in
      (count_open (more ++ replicate (m - n) 0), few, ap count_open parted ∙ open_ones k (more ++ replicate (m - n) 0))

  -- if all n are opened
  pub full_gates : take n (drop k c) ≡ replicate n 1 → count_open c ≡ k + n
  full_gates ones =
      let all : c ≡ replicate k 1 ++ (replicate n 1 ++ replicate (m - n) 0) = parted ∙ ap (λ (l : List ℕ). replicate k 1 ++ (l ++ replicate (m - n) 0)) ones in
      omega (arith, ap count_open all ∙ open_ones k _, open_ones n (replicate (m - n) 0), open_none (m - n))
