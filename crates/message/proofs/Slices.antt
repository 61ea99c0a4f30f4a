-- Parts of a list of bytes: split, put together, and of a list that has grown.
use Rattle.std.proofs.lemmas.Grind.{common_steps}
use Rattle.std.proofs.Common.{◌≡◌, ℕ, ◌+◌, ◌-◌, ◌<◌, ◌≤◌, List, [], ◌∷◌, ◌++◌, length, take, drop, get_or, sym, ap, ◌∙◌, arith, drop-drop}
use Rattle.std.proofs.lemmas.List.Edits.{between_none, between_more}
use Rattle.std.proofs.lemmas.Slice.{between_is}
use Rattle.std.proofs.Math.Seq.{take-add}
use Rattle.std.specs.List.{slice_range}

pub slice-none : (xs : List ℕ) (k j : ℕ) → j ≤ k → slice_range xs k j ≡ []
slice-none xs k j over = let none : j - k ≡ 0 = omega arith in ap (λ n. take n (drop k xs)) none

pub slice-split : (xs : List ℕ) (i k j : ℕ) → i ≤ k → k ≤ j → slice_range xs i j ≡ slice_range xs i k ++ slice_range xs k j
slice-split xs i k j low high =
    let whole : j - i ≡ (k - i) + (j - k) = omega arith in
    let there : i + (k - i) ≡ k = omega arith in
    ap (λ n. take n (drop i xs)) whole ∙ take-add (k - i) (j - k) (drop i xs) ∙ ap (λ l. slice_range xs i k ++ take (j - k) l) (drop-drop (k - i) i xs ∙ ap (λ n. drop n xs) there)

slice-one : (xs : List ℕ) (k : ℕ) → k < length xs → slice_range xs k (k + 1) ≡ get_or xs k 0 ∷ []
slice-one xs k low = between_more xs k k 0 (omega arith) low ∙ ap (λ l. l ++ get_or xs k 0 ∷ []) (between_none xs k)

pub slice-first : (xs : List ℕ) (k j : ℕ) → k < j → j ≤ length xs → slice_range xs k j ≡ get_or xs k 0 ∷ slice_range xs (k + 1) j
slice-first xs k j low high = slice-split xs k (k + 1) j (omega arith) (omega arith) ∙ ap (λ l. l ++ slice_range xs (k + 1) j) (slice-one xs k (omega arith))

-- a part with no bytes has none in another buffer of the same length
pub slice-still_none : (xs ys : List ℕ) (i j : ℕ) → length ys ≡ length xs → j ≤ length xs → slice_range xs i j ≡ [] → slice_range ys i j ≡ []
slice-still_none xs ys i j same within none = grind (arith, common_steps)

-- a part that lies before what was written is as it was
pub slice-front : (xs ys : List ℕ) (i j : ℕ) → take j ys ≡ take j xs → slice_range ys i j ≡ slice_range xs i j
slice-front xs ys i j same = between_is ys i j ∙ ap (drop i) same ∙ sym (between_is xs i j)

-- what is held and what came behind it
pub slice-grown : (xs ys : List ℕ) (i j n : ℕ) → i ≤ j → take j ys ≡ take j xs → slice_range ys i (j + n) ≡ slice_range xs i j ++ take n (drop j ys)
slice-grown xs ys i j n low same =
    let whole : (j + n) - j ≡ n = omega arith in
    slice-split ys i j (j + n) low (omega arith) ∙ ap (λ l. l ++ slice_range ys j (j + n)) (slice-front xs ys i j same) ∙ ap (λ m. slice_range xs i j ++ take m (drop j ys)) whole
