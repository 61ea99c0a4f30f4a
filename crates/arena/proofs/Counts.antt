-- How often a number is in lists that were joined, or that lost a number.
use Rattle.std.proofs.lemmas.Grind.{common_steps}
use Rattle.std.proofs.Common.{◌≡◌, ◌≢◌, ℕ, zero, suc, ◌+◌, ◌<◌, ◌≤◌, true, false, List, [], ◌∷◌, ◌++◌, map, length, eqb, refl, ◌∙◌, arith, slice_set, slice_index_or, Bool, filter, replicate}
use Rattle.std.proofs.lemmas.Bool.{eq-eqb, ne_eqb}
use Rattle.std.proofs.lemmas.Map.Steps.{length-le_from_distinct_below}
use Rattle.std.specs.List.{concat, AllByRecursion, IsDistinct, list_any}
use Rattle.arena.specs.Lists.{count_of, without, numbers_from}

-- n consecutive numbers
pub length-numbers : (first count : ℕ) → length (numbers_from first count) ≡ count
length-numbers first zero = refl
length-numbers first (suc count) = omega (arith, length-numbers (suc first) count)

-- a number in two lists that were joined
pub count_of-append : (i : ℕ) (xs ys : List ℕ) → count_of i (xs ++ ys) ≡ count_of i xs + count_of i ys
count_of-append i [] ys = omega arith
count_of-append i (x ∷ xs) ys = grind (arith, common_steps, count_of-append i xs ys)

pub count_of-cons_same : (i : ℕ) (xs : List ℕ) → count_of i (i ∷ xs) ≡ suc (count_of i xs)
count_of-cons_same i xs = rw (eq-eqb i i refl) refl

pub count_of-cons_is : (i x : ℕ) (xs : List ℕ) → x ≡ i → count_of i (x ∷ xs) ≡ suc (count_of i xs)
count_of-cons_is i x xs same = rw (eq-eqb x i same) refl

pub count_of-cons_other : (i x : ℕ) (xs : List ℕ) → x ≢ i → count_of i (x ∷ xs) ≡ count_of i xs
count_of-cons_other i x xs other = rw (ne_eqb x i other) refl

-- it does not matter at which end a number is added
pub count_of-last : (i slot : ℕ) (xs : List ℕ) → count_of i (xs ++ slot ∷ []) ≡ count_of i (slot ∷ xs)
count_of-last i slot xs = grind (arith, common_steps, count_of-append, count_of-cons_other)

-- a number that was taken out of a list
pub count_of-without_same : (i : ℕ) (xs : List ℕ) → count_of i (without i xs) ≡ 0
count_of-without_same i [] = refl
count_of-without_same i (x ∷ xs) = grind (arith, common_steps, count_of-without_same i xs)

-- another number was taken out of a list
pub count_of-without_other : (i j : ℕ) (xs : List ℕ) → i ≢ j → count_of i (without j xs) ≡ count_of i xs
count_of-without_other i j [] other = refl
count_of-without_other i j (x ∷ xs) other = grind (arith, common_steps, count_of-without_other i j xs other)

-- taking a number out of a list that doesn't have it changes nothing
pub without-absent : (i : ℕ) (xs : List ℕ) → count_of i xs ≡ 0 → without i xs ≡ xs
without-absent i [] none = refl
without-absent i (x ∷ xs) none = grind (arith, common_steps, without-absent i xs)

pub length-without : (i : ℕ) (xs : List ℕ) → length (without i xs) ≤ length xs
length-without i [] = omega arith
length-without i (x ∷ xs) = grind (arith, common_steps, length-without i xs)

-- the same for all lists together
pub count_of-without_all_same : (i : ℕ) (lists : List (List ℕ)) → count_of i (concat (map (without i) lists)) ≡ 0
count_of-without_all_same i [] = refl
count_of-without_all_same i (xs ∷ lists) = grind (arith, common_steps, count_of-without_all_same i lists, count_of-append, count_of-without_same)

pub count_of-without_all_other : (i j : ℕ) (lists : List (List ℕ)) → i ≢ j → count_of i (concat (map (without j) lists)) ≡ count_of i (concat lists)
count_of-without_all_other i j [] other = refl
count_of-without_all_other i j (xs ∷ lists) other =
    grind (arith, common_steps, count_of-without_all_other i j lists other, count_of-append, count_of-without_other)

pub without_all-absent : (i : ℕ) (lists : List (List ℕ)) → count_of i (concat lists) ≡ 0 → map (without i) lists ≡ lists
without_all-absent i [] none = refl
without_all-absent i (xs ∷ lists) none = grind (arith, common_steps, without_all-absent i lists, count_of-append, without-absent)

-- a list is replaced by one that has a number more
pub count_of-set : (i : ℕ) (lists : List (List ℕ)) (k : ℕ) (xs : List ℕ) → k < length lists →
    count_of i (concat (slice_set lists k xs)) + count_of i (slice_index_or lists k []) ≡ count_of i (concat lists) + count_of i xs
count_of-set i [] k xs within = absurd (omega arith)
count_of-set i (ys ∷ lists) zero xs within = omega (arith, count_of-append i xs (concat lists), count_of-append i ys (concat lists))
count_of-set i (ys ∷ lists) (suc k) xs within = grind (arith, common_steps, count_of-set i lists k xs, count_of-append)

-- a list has a number no more often than all of them together
pub count_of-at : (i : ℕ) (lists : List (List ℕ)) (k : ℕ) → count_of i (slice_index_or lists k []) ≤ count_of i (concat lists)
count_of-at i [] k = omega arith
count_of-at i (ys ∷ lists) zero = omega (arith, count_of-append i ys (concat lists))
count_of-at i (ys ∷ lists) (suc k) = omega (arith, count_of-append i ys (concat lists), count_of-at i lists k)

-- a number from which each number of the list differs
pub count_of-nowhere : (i : ℕ) (xs : List ℕ) → AllByRecursion (λ x. x ≢ i) xs → count_of i xs ≡ 0
count_of-nowhere i [] apart = refl
count_of-nowhere i (x ∷ xs) apart = count_of-cons_other i x xs apart.0 ∙ count_of-nowhere i xs apart.1

apart-from_times : (i : ℕ) (xs : List ℕ) → count_of i xs ≡ 0 → AllByRecursion (λ y. eqb i y ≡ false) xs
apart-from_times i [] none = tt
apart-from_times i (x ∷ xs) none = grind (arith, common_steps, apart-from_times i xs)

-- numbers that are each once in a list are distinct
pub distinct-from_times : (xs : List ℕ) → ((i : ℕ) → count_of i xs ≤ 1) → IsDistinct eqb xs
unfolding IsDistinct
distinct-from_times [] once = tt
distinct-from_times (x ∷ xs) once = grind (arith, common_steps, distinct-from_times xs, apart-from_times, count_of-cons_same, count_of-cons_other)

below-from_member : (n q : ℕ) (xs : List ℕ) → AllByRecursion (λ x. x < n) xs → list_any (eqb q) xs ≡ true → q < n
below-from_member n q [] each found = absurd (cc)
below-from_member n q (x ∷ xs) each found = grind (arith, common_steps, below-from_member n q xs each.1)

-- numbers below n, each once, are at most n
pub length-once : (n : ℕ) (xs : List ℕ) → ((i : ℕ) → count_of i xs ≤ 1) → AllByRecursion (λ x. x < n) xs → length xs ≤ n
length-once n xs once each = length-le_from_distinct_below xs n (distinct-from_times xs once) (λ q. below-from_member n q xs each)

pub count_of-filter_yes : (p : ℕ → Bool) (i : ℕ) (xs : List ℕ) → p i ≡ true → count_of i (filter p xs) ≡ count_of i xs
count_of-filter_yes p i [] passes = refl
count_of-filter_yes p i (x ∷ xs) passes = grind (arith, common_steps, count_of-filter_yes p i xs passes)

pub count_of-filter_no : (p : ℕ → Bool) (i : ℕ) (xs : List ℕ) → p i ≡ false → count_of i (filter p xs) ≡ 0
count_of-filter_no p i [] fails = refl
count_of-filter_no p i (x ∷ xs) fails = grind (arith, common_steps, count_of-filter_no p i xs fails)

pub count_of-tail : (i x : ℕ) (xs : List ℕ) → count_of i xs ≤ count_of i (x ∷ xs)
count_of-tail i x xs = grind (arith, common_steps)

-- how often a number is among consecutive numbers
count_of-low : (i first count : ℕ) → i < first → count_of i (numbers_from first count) ≡ 0
count_of-low i first zero low = refl
count_of-low i first (suc count) low = grind (arith, common_steps, count_of-low i (suc first) count)

pub count_of-high : (i first count : ℕ) → first + count ≤ i → count_of i (numbers_from first count) ≡ 0
count_of-high i first zero high = refl
count_of-high i first (suc count) high = grind (arith, common_steps, count_of-high i (suc first) count)

pub count_of-numbers : (i first count : ℕ) → count_of i (numbers_from first count) ≤ 1
count_of-numbers i first zero = omega arith
count_of-numbers i first (suc count) = grind (arith, common_steps, count_of-numbers i (suc first) count, count_of-cons_is, count_of-low, count_of-cons_other)

pub count_of-numbers_in : (i first count : ℕ) → first ≤ i → i < first + count → 0 < count_of i (numbers_from first count)
count_of-numbers_in i first zero low high = absurd (omega arith)
count_of-numbers_in i first (suc count) low high = grind (arith, common_steps, count_of-numbers_in i (suc first) count)

pub count_of-empties : (i count : ℕ) → count_of i (concat (replicate count [])) ≡ 0
count_of-empties i zero = refl
count_of-empties i (suc count) = count_of-empties i count
