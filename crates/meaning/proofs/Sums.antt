-- Sums over the numbers below a bound.
use Rattle.std.proofs.Common.{◌≡◌, ℕ, zero, suc, ◌+◌, ◌*◌, ◌<◌, ◌≤◌, Bool, true, false, refl, ap, sym, ◌∙◌, ⊎_elim, arith}
use Rattle.std.specs.Prelude.{◌==◌, ◌&&◌, if◌then◌else◌}
use Rattle.std.proofs.lemmas.Bool.{cases_eq, eq-eqb, eqb-true, false_from_ne_true}
use Rattle.meaning.specs.State.{sum_below, count_below}

-- 1 where it is so, else 0
abbrev pub one_if : Bool → ℕ
one_if is_so = if is_so then 1 else 0

pub sum_below-le : (n : ℕ) (f h : ℕ → ℕ) → ((i : ℕ) → i < n → f i ≤ h i) → sum_below n f ≤ sum_below n h
sum_below-le zero f h each = omega arith
sum_below-le (suc n) f h each = omega (arith, sum_below-le n f h (λ i lt. each i (omega arith)), each n (omega arith))

-- where one summand grows by one at most, and no other does
pub sum_below_one_more : (n j : ℕ) (f h : ℕ → ℕ) → ((i : ℕ) → (i ≡ j → ⊥) → h i ≤ f i) → h j ≤ f j + 1 → sum_below n h ≤ sum_below n f + 1
sum_below_one_more zero j f h others here = omega arith
sum_below_one_more (suc n) j f h others here = grind (arith, sum_below_one_more n j f h others here, sum_below-le)

pub sum_below-zero : (n : ℕ) (f : ℕ → ℕ) → ((i : ℕ) → f i ≡ 0) → sum_below n f ≡ 0
sum_below-zero zero f z = refl
sum_below-zero (suc n) f z = λ i. sum_below-zero n f z i + z n i

pub one_if-le : (b : Bool) → one_if b ≤ 1
one_if-le true = omega arith
one_if-le false = omega arith

pub one_if_from : (a b : Bool) → (a ≡ true → b ≡ true) → one_if a ≤ one_if b
one_if_from true b h = rw (h refl) (omega arith)
one_if_from false b h = omega arith

-- ---- sums with bounds

pub sum_below-le_times : (n c : ℕ) (f : ℕ → ℕ) → ((i : ℕ) → i < n → f i ≤ c) → sum_below n f ≤ n * c
sum_below-le_times zero c f each = omega arith
sum_below-le_times (suc n) c f each = grind (arith, sum_below-le_times n c f (λ i lt. each i (omega arith)), each n (omega arith))

pub count_below-le : (n : ℕ) (p : ℕ → Bool) → count_below n p ≤ n
count_below-le zero p = omega arith
count_below-le (suc n) p = let rest = count_below-le n p in let here = one_if-le (p n) in omega (arith, rest, here)

-- ---- sums that are the same

pub sum_below-same : (n : ℕ) (f h : ℕ → ℕ) → ((i : ℕ) → i < n → f i ≡ h i) → sum_below n f ≡ sum_below n h
sum_below-same zero f h each = refl
sum_below-same (suc n) f h each =
    let rest : sum_below n f ≡ sum_below n h = sum_below-same n f h (λ i lt. each i (omega arith)) in
    let here : f n ≡ h n = each n (omega arith) in
    λ i. rest i + here i

-- where one summand alone changes
pub sum_below_changed : (n j : ℕ) (f h : ℕ → ℕ) → j < n → ((i : ℕ) → (i ≡ j → ⊥) → h i ≡ f i) → sum_below n h + f j ≡ sum_below n f + h j
sum_below_changed zero j f h below others = absurd (omega (arith, below))
sum_below_changed (suc n) j f h below others =
    ⊎_elim
    (λ e.
    let rest : sum_below n h ≡ sum_below n f = sum_below-same n h f (λ i lt. others i (λ is. omega (arith, is, e, lt))) in
    let new : h n ≡ h j = ap h e in
    let old : f n ≡ f j = ap f e in
    omega (arith, rest, new, old))
    (λ ne.
    let rest : sum_below n h + f j ≡ sum_below n f + h j = sum_below_changed n j f h (omega (arith, ne, below)) others in
    let same : h n ≡ f n = others n ne in
    omega (arith, rest, same))
    (cases_eq n j)

pub sum_below-add : (n : ℕ) (f h : ℕ → ℕ) → sum_below n (λ i. f i + h i) ≡ sum_below n f + sum_below n h
sum_below-add zero f h = refl
sum_below-add (suc n) f h = let rest = sum_below-add n f h in omega (arith, rest)

pub sum_below-swap : (n m : ℕ) (f : ℕ → ℕ → ℕ) → sum_below n (λ i. sum_below m (λ j. f i j)) ≡ sum_below m (λ j. sum_below n (λ i. f i j))
sum_below-swap zero m f = sym (sum_below-zero m (λ j. 0) (λ j. refl))
sum_below-swap (suc n) m f = ap (λ s. s + sum_below m (λ j. f n j)) (sum_below-swap n m f) ∙ sym (sum_below-add m (λ j. sum_below n (λ i. f i j)) (λ j. f n j))

-- what lies at one number counts there alone
pub sum_below_at : (n t : ℕ) (b : Bool) → t < n → sum_below n (λ s. one_if ((t == s) && b)) ≡ one_if b
sum_below_at n t b below =
    let changed = sum_below_changed n t (λ s. 0) (λ s. one_if ((t == s) && b)) below (λ s ne. ap (λ c. one_if (c && b)) (false_from_ne_true (t == s) (λ e. ne (sym (eqb-true t s e))))) in
    let nothing = sum_below-zero n (λ s. 0) (λ s. refl) in
    let here : one_if ((t == t) && b) ≡ one_if b = ap (λ c. one_if (c && b)) (eq-eqb t t refl) in
    omega (arith, changed, nothing, here)

pub sum_same : (n : ℕ) (f h : ℕ → ℕ) → ((i : ℕ) → f i ≡ h i) → sum_below n f ≡ sum_below n h
sum_same n f h e i = sum_below n (λ k. e k i)

pub sum_zero : (n : ℕ) → sum_below n (λ i. 0) ≡ 0
sum_zero n = sum_below-zero n (λ i. 0) (λ i. refl)

-- where one summand is greater by one, and all others are the same
pub sum_one_more : (n j : ℕ) (f h : ℕ → ℕ) → j < n → ((i : ℕ) → (i ≡ j → ⊥) → h i ≡ f i) → h j ≡ f j + 1 → sum_below n h ≡ sum_below n f + 1
sum_one_more n j f h below others here = let changed = sum_below_changed n j f h below others in omega (arith, changed, here)

-- one number below n is j
pub sum_pick : (n j : ℕ) → j < n → (p : Bool) → sum_below n (λ i. one_if (p && (i == j))) ≡ one_if p
sum_pick n j below p = grind (arith, sum_below_at n j p below)
