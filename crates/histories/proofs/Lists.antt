-- Lists: what holds of all, what holds between each and those behind it, and what `pick` finds.
use Rattle.std.proofs.Common.{◌≡◌, ℕ, zero, suc, ◌+◌, ◌≤◌, Bool, true, false, List, [], ◌∷◌, ◌++◌, Option, Some, None, refl, ap, sym, ◌∙◌, subst, length, take, arith}
use Rattle.std.specs.Prelude.{◌||◌, if◌then◌else◌, option_map, is_some, IsPermutation, sum_by}
use Rattle.std.specs.List.{AllByRecursion, list_any}
use Rattle.std.proofs.lemmas.Bool.{or_parts, true≢false, false_from_ne_true}
use Rattle.std.proofs.lemmas.List.Elements.{All-from_recursion, recursion_from_All}
use Rattle.std.proofs.lemmas.List.Sorted.{All-permutation}
use Rattle.std.proofs.lemmas.List.Sums.{sum_by-append, sum_by-cons}
use Rattle.std.proofs.lemmas.List.{length-append}
use Rattle.affinity.proofs.Elements.{all_join, all_weaker}
use Rattle.histories.specs.Eligible.{pick}
use Rattle.histories.specs.CoreState.{EachBefore}

-- ---- what holds of all

module _ {A : Type 0} (P : A → Type 0) where
  pub all_front : (xs ys : List A) → AllByRecursion P (xs ++ ys) → AllByRecursion P xs
  all_front [] ys h = tt
  all_front (x ∷ xs) ys h = (h.0, all_front xs ys h.1)

  pub all_back : (xs ys : List A) → AllByRecursion P (xs ++ ys) → AllByRecursion P ys
  all_back [] ys h = h
  all_back (x ∷ xs) ys h = all_back xs ys h.1

  pub all_moved : (us : List A) (e : A) (vs : List A) → AllByRecursion P (us ++ e ∷ vs) → AllByRecursion P (e ∷ (us ++ vs))
  all_moved [] e vs h = h
  all_moved (u ∷ us) e vs h = let k = all_moved us e vs h.1 in (k.0, (h.0, k.1))

  pub all_without : (us : List A) (e : A) (vs : List A) → AllByRecursion P (us ++ e ∷ vs) → AllByRecursion P (us ++ vs)
  all_without us e vs h = (all_moved us e vs h).1

pub all_none : {A : Type 0} (p : A → Bool) (xs : List A) → list_any p xs ≡ false → AllByRecursion (λ x. p x ≡ false) xs
all_none p [] h = tt
all_none p (x ∷ xs) h = let k = or_parts (p x) (list_any p xs) h in (k.0, all_none p xs k.1)

pub any_none : {A : Type 0} (p : A → Bool) (xs : List A) → AllByRecursion (λ x. p x ≡ false) xs → list_any p xs ≡ false
any_none p [] h = refl
any_none p (x ∷ xs) h = λ i. h.0 i || any_none p xs h.1 i

-- What holds of all elements of a list holds of all of a permutation of it.
pub all_permuted : {A : Type 0} (P : A → Type 0) (xs ys : List A) → IsPermutation xs ys → AllByRecursion P xs → AllByRecursion P ys
all_permuted P xs ys same h = recursion_from_All P ys (All-permutation P xs ys same (All-from_recursion P xs h))

-- ---- the first of a list

-- the first n elements are the first k, for some k that is at most the length of the list
pub first_few : {A : Type 0} (n : ℕ) (xs : List A) → (k : ℕ) × (k ≤ length xs) × (take k xs ≡ take n xs)
first_few zero xs = (0, omega arith, refl)
first_few (suc n) [] = (0, omega arith, refl)
first_few (suc n) (x ∷ xs) = let k = first_few n xs in (suc k.0, omega (arith, k.1), ap (λ l. x ∷ l) k.2)

-- ---- what holds between each one and those behind it

module _ {A : Type 0} (R : A → A → Type 0) where
  pub before_push : (xs : List A) (y : A) → EachBefore R xs → AllByRecursion (λ x. R x y) xs → EachBefore R (xs ++ y ∷ [])
  before_push [] y h j = (tt, tt)
  before_push (x ∷ xs) y h j = (all_join (R x) xs (y ∷ []) h.0 (j.0, tt), before_push xs y h.1 j.1)

  pub before_back : (xs ys : List A) → EachBefore R (xs ++ ys) → EachBefore R ys
  before_back [] ys h = h
  before_back (x ∷ xs) ys h = before_back xs ys h.1

  pub before_front : (xs ys : List A) → EachBefore R (xs ++ ys) → EachBefore R xs
  before_front [] ys h = tt
  before_front (x ∷ xs) ys h = (all_front (R x) xs ys h.0, before_front xs ys h.1)

  pub before_without : (us : List A) (e : A) (vs : List A) → EachBefore R (us ++ e ∷ vs) → EachBefore R (us ++ vs)
  before_without [] e vs h = h.1
  before_without (u ∷ us) e vs h = (all_without (R u) us e vs h.0, before_without us e vs h.1)

  -- R holds between each element before e and e
  pub before_one : (us : List A) (e : A) (vs : List A) → EachBefore R (us ++ e ∷ vs) → AllByRecursion (λ u. R u e) us
  before_one [] e vs h = tt
  before_one (u ∷ us) e vs h = ((all_back (R u) us (e ∷ vs) h.0).0, before_one us e vs h.1)

  pub before_join : (xs ys : List A) → EachBefore R xs → EachBefore R ys → AllByRecursion (λ x. AllByRecursion (R x) ys) xs
      → EachBefore R (xs ++ ys)
  before_join [] ys h j k = j
  before_join (x ∷ xs) ys h j k = (all_join (R x) xs ys h.0 k.0, before_join xs ys h.1 j k.1)

  -- R holds between each element of the first part and each of the second
  pub before_across : (xs ys : List A) → EachBefore R (xs ++ ys) → AllByRecursion (λ x. AllByRecursion (R x) ys) xs
  before_across [] ys h = tt
  before_across (x ∷ xs) ys h = (all_back (R x) xs ys h.0, before_across xs ys h.1)

  -- element e moves before the elements us, if R holds between it and each of them
  pub before_past : (xs us : List A) (e : A) (vs : List A) → AllByRecursion (R e) us → EachBefore R (xs ++ (us ++ e ∷ vs))
      → EachBefore R (xs ++ e ∷ (us ++ vs))
  before_past [] [] e vs free h = h
  before_past [] (u ∷ us) e vs free h =
      let k = before_past [] us e vs free.1 h.1 in
      let j = all_moved (R u) us e vs h.0 in
      ((free.0, k.0), (j.1, k.1))
  before_past (x ∷ xs) us e vs free h = (
    all_join (R x) xs (e ∷ (us ++ vs)) (all_front (R x) xs (us ++ e
        ∷ vs) h.0) (all_moved (R x) us e vs (all_back (R x) xs (us ++ e ∷ vs) h.0)),
    before_past xs us e vs free h.1,
  )

  -- if R holds either way round, e may move before us
  pub before_moved : ((x y : A) → R x y → R y x) → (xs us : List A) (e : A) (vs : List A) → EachBefore R (xs ++ (us ++ e ∷ vs))
      → EachBefore R (xs ++ e ∷ (us ++ vs))
  before_moved turned xs us e vs h =
      before_past xs us e vs (all_weaker (λ u. R u e) (R e) (λ u. turned u e) us (before_one us e vs (before_back xs (us ++ e ∷ vs) h))) h

  pub before_first : ((x y : A) → R x y → R y x) → (us : List A) (e : A) (vs : List A) → EachBefore R (us ++ e ∷ vs)
      → EachBefore R (e ∷ (us ++ vs))
  before_first turned us e vs h = before_moved turned [] us e vs h

-- ---- what `pick` finds

-- The element that was found stood between `before` and `behind`, which are what is left.
pub record Picked {A : Type 0} (p : A → Bool) (xs : List A) (found : A × List A) : Type 0 where
  pub before : List A
  pub behind : List A
  pub whole : xs ≡ before ++ found.0 ∷ behind
  pub rest : found.1 ≡ before ++ behind
  pub passes : p found.0 ≡ true

pub picked : {A : Type 0} (p : A → Bool) (xs : List A) (found : A × List A) → pick p xs ≡ Some found → Picked p xs found
picked p [] found h = absurd (true≢false (sym (ap is_some h)))
picked {A} p (x ∷ xs) found h =
    elim (p x) as (λ b. p x ≡ b → (if b then Some (x, xs) else option_map (λ (f : A × List A). (f.0, x ∷ f.1)) (pick p xs)) ≡ Some found
    → Picked p (x ∷ xs) found) [
      | true ↦ λ e h. let same : (x, xs) ≡ found = cc in
          record {
            before = [];
            behind = xs;
            whole = ap (λ f. f.0 ∷ xs) same;
            rest = sym (ap (λ f. f.1) same);
            passes = subst (λ f. p f.0 ≡ true) same e;
          }
      | false ↦ λ e h. deeper (pick p xs) (λ f. picked p xs f) h
    ] refl h
  where
    deeper : (o : Option (A × List A)) → ((f : A × List A) → o ≡ Some f → Picked p xs f)
        → option_map (λ (f : A × List A). (f.0, x ∷ f.1)) o ≡ Some found → Picked p (x ∷ xs) found
    deeper None k h = absurd (true≢false (sym (ap is_some h)))
    deeper (Some f) ind h =
        let k = ind f refl in
        let same : (f.0, x ∷ f.1) ≡ found = cc in
        subst (Picked p (x ∷ xs)) same (record {
          before = x ∷ k.before;
          behind = k.behind;
          whole = ap (λ l. x ∷ l) k.whole;
          rest = ap (λ l. x ∷ l) k.rest;
          passes = k.passes;
        })

-- A sum over a list is the term of the element that was found, and the sum over what is left.
pub sum_by-picked : {A : Type 0} (f : A → ℕ) (p : A → Bool) (xs : List A) (found : A × List A) → pick p xs ≡ Some found
    → sum_by f xs ≡ f found.0 + sum_by f found.1
sum_by-picked f p xs found e =
    let k = picked p xs found e in
    let was = ap (sum_by f) k.whole ∙ sum_by-append f k.before (found.0 ∷ k.behind) in
    let one = sum_by-cons f found.0 k.behind in
    let now = ap (sum_by f) k.rest ∙ sum_by-append f k.before k.behind in
    omega (arith, was, one, now)

-- Where each term is at most another one, so is the sum.
pub sum_by-each : {A : Type 0} (f k : A → ℕ) → ((x : A) → f x ≤ k x) → (xs : List A) → sum_by f xs ≤ sum_by k xs
sum_by-each f k h [] = omega arith
sum_by-each f k h (x ∷ xs) =
    let rest = sum_by-each f k h xs in
    let less = sum_by-cons f x xs in
    let more = sum_by-cons k x xs in
    let here = h x in
    omega (arith, rest, less, more, here)

-- The list that `pick` leaves is shorter by one.
pub length-picked : {A : Type 0} (p : A → Bool) (xs : List A) (found : A × List A) → pick p xs ≡ Some found
    → length xs ≡ length found.1 + 1
length-picked p xs found e =
    let k = picked p xs found e in
    let whole = ap length k.whole ∙ length-append k.before (found.0 ∷ k.behind) in
    let rest = ap length k.rest ∙ length-append k.before k.behind in
    omega (arith, whole, rest)

-- what `pick` finds if the first element passes, and if it finds nothing
pub pick_first : {A : Type 0} (p : A → Bool) (x : A) (xs : List A) → p x ≡ true → pick p (x ∷ xs) ≡ Some (x, xs)
pick_first p x xs h = rw h refl

pub pick_none : {A : Type 0} (p : A → Bool) (x : A) (xs : List A) → pick p (x ∷ xs) ≡ None → p x ≡ false
pick_none p x xs h = false_from_ne_true (p x) (λ e. true≢false (ap is_some (sym (pick_first p x xs e) ∙ h)))
