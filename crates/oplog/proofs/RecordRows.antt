-- Records as rows of `RECORD_SIZE` bytes.
use Rattle.std.proofs.Common.{◌≡◌, ℕ, zero, suc, ◌+◌, ◌*◌, ◌<◌, ◌≤◌, List, [], ◌∷◌, ◌++◌, length, take, drop, get_or, refl, sym, ◌∙◌, ap, subst, arith, length-append}
use Rattle.std.specs.List.{AllByRecursion, concat}
use Rattle.std.proofs.lemmas.List.{take-take, drop-drop, drop-take, take_at, drop_at, append_assoc}
use Rattle.protocol.specs.declared.sizes.TheConstants.{RECORD_SIZE}
use Rattle.oplog.specs.HalfContent.{rows}

-- each of them is a row
abbrev pub AreRows : List (List ℕ) → Type 0
AreRows rs = AllByRecursion (λ (r : List ℕ). length r ≡ RECORD_SIZE) rs

-- The first n rows depend on as many bytes alone.
pub rows_same : (n : ℕ) (xs ys : List ℕ) → take (n * RECORD_SIZE) ys ≡ take (n * RECORD_SIZE) xs → rows RECORD_SIZE n ys ≡ rows RECORD_SIZE n xs
rows_same zero xs ys same = refl
rows_same (suc n) xs ys same =
    let wide : suc n * RECORD_SIZE ≡ RECORD_SIZE + n * RECORD_SIZE = omega arith in
    let same' : take (RECORD_SIZE + n * RECORD_SIZE) ys ≡ take (RECORD_SIZE + n * RECORD_SIZE) xs = subst (λ (k : ℕ). take k ys ≡ take k xs) wide same in
    let head : take RECORD_SIZE ys ≡ take RECORD_SIZE xs =
    sym (take-take RECORD_SIZE (RECORD_SIZE + n * RECORD_SIZE) ys (omega arith)) ∙ ap (λ (l : List ℕ). take RECORD_SIZE l) same'
    ∙ take-take RECORD_SIZE (RECORD_SIZE + n * RECORD_SIZE) xs (omega arith) in
    let tail : take (n * RECORD_SIZE) (drop RECORD_SIZE ys) ≡ take (n * RECORD_SIZE) (drop RECORD_SIZE xs) =
    sym (drop-take RECORD_SIZE (n * RECORD_SIZE) ys) ∙ ap (λ (l : List ℕ). drop RECORD_SIZE l) same' ∙ drop-take RECORD_SIZE (n * RECORD_SIZE) xs in
    let rest : rows RECORD_SIZE n (drop RECORD_SIZE ys) ≡ rows RECORD_SIZE n (drop RECORD_SIZE xs) = rows_same n (drop RECORD_SIZE xs) (drop RECORD_SIZE ys) tail in
    (λ i. head i ∷ rest i)

pub rows-add : (m n : ℕ) (xs : List ℕ) → rows RECORD_SIZE (m + n) xs ≡ rows RECORD_SIZE m xs ++ rows RECORD_SIZE n (drop (m * RECORD_SIZE) xs)
rows-add zero n xs =
    let none : zero + n ≡ n = omega arith in
    let none' : zero * RECORD_SIZE ≡ 0 = omega arith in
    (λ i. rows RECORD_SIZE (none i) xs) ∙ sym (λ i. rows RECORD_SIZE n (drop (none' i) xs))
rows-add (suc m) n xs =
    let more : suc m + n ≡ suc (m + n) = omega arith in
    let wide : suc m * RECORD_SIZE ≡ RECORD_SIZE + m * RECORD_SIZE = omega arith in
    let rest : rows RECORD_SIZE (m + n) (drop RECORD_SIZE xs) ≡ rows RECORD_SIZE m (drop RECORD_SIZE xs) ++ rows RECORD_SIZE n (drop (suc m * RECORD_SIZE) xs) =
    rows-add m n (drop RECORD_SIZE xs) ∙ ap (λ (l : List ℕ). rows RECORD_SIZE m (drop RECORD_SIZE xs) ++ rows RECORD_SIZE n l)
    (drop-drop (m * RECORD_SIZE) RECORD_SIZE xs ∙ ap (λ (k : ℕ). drop k xs) (sym wide)) in
    ap (λ (k : ℕ). rows RECORD_SIZE k xs) more ∙ ap (λ (l : List (List ℕ)). take RECORD_SIZE xs ∷ l) rest

pub length-rows : (n : ℕ) (xs : List ℕ) → length (rows RECORD_SIZE n xs) ≡ n
length-rows zero xs = refl
length-rows (suc n) xs = ap (λ (k : ℕ). suc k) (length-rows n (drop RECORD_SIZE xs))

-- row i
pub get_or-rows : (n i : ℕ) (xs : List ℕ) → i < n → get_or (rows RECORD_SIZE n xs) i [] ≡ take RECORD_SIZE (drop (i * RECORD_SIZE) xs)
get_or-rows zero i xs few = absurd (omega (arith, few))
get_or-rows (suc n) zero xs few = let none : zero * RECORD_SIZE ≡ 0 = omega arith in ap (λ (k : ℕ). take RECORD_SIZE (drop k xs)) (sym none)
get_or-rows (suc n) (suc i) xs few =
    let wide : suc i * RECORD_SIZE ≡ RECORD_SIZE + i * RECORD_SIZE = omega arith in
    get_or-rows n i (drop RECORD_SIZE xs) (omega (arith, few)) ∙ ap (λ (l : List ℕ). take RECORD_SIZE l) (drop-drop (i * RECORD_SIZE) RECORD_SIZE xs ∙ ap (λ (k : ℕ). drop k xs) (sym wide))

-- records that are joined to one list of bytes, and cut into j rows again, give the first j records
pub rows_of : (rs : List (List ℕ)) (rest : List ℕ) (j : ℕ) → j ≤ length rs → AreRows rs → rows RECORD_SIZE j (concat rs ++ rest) ≡ take j rs
rows_of rs rest zero few sized = refl
rows_of [] rest (suc j) few sized = absurd (omega (arith, few))
rows_of (r ∷ rs) rest (suc j) few sized =
    let first : take RECORD_SIZE ((r ++ concat rs) ++ rest) ≡ r = ap (λ (l : List ℕ). take RECORD_SIZE l) (append_assoc r (concat rs) rest) ∙ take_at r (concat rs ++ rest) RECORD_SIZE (sized.0) in
    let others : drop RECORD_SIZE ((r ++ concat rs) ++ rest) ≡ concat rs ++ rest =
    ap (λ (l : List ℕ). drop RECORD_SIZE l) (append_assoc r (concat rs) rest) ∙ drop_at r (concat rs ++ rest) RECORD_SIZE (sized.0) in
    let more : rows RECORD_SIZE j (drop RECORD_SIZE ((r ++ concat rs) ++ rest)) ≡ take j rs = ap (λ (l : List ℕ). rows RECORD_SIZE j l) others ∙ rows_of rs rest j (omega (arith, few)) sized.1 in
    (λ i. first i ∷ more i)

pub length-concat : (rs : List (List ℕ)) → AreRows rs → length (concat rs) ≡ length rs * RECORD_SIZE
length-concat [] sized = refl
length-concat (r ∷ rs) sized = omega (arith, length-append r (concat rs), sized.0, length-concat rs sized.1)
