-- Statement for engineers: Definitions on lists of slot numbers.
use Rattle.std.specs.Prelude.{ℕ, zero, suc, Bool, not, List, [], ◌∷◌, filter, Option, Some, None, nat_lt, ◌==◌, if◌then◌else◌}

-- how often a number is in a list
abbrev pub count_of : ℕ → List ℕ → ℕ
count_of i [] = 0
count_of i (x ∷ xs) = if x == i then suc (count_of i xs) else count_of i xs

-- whether a number is in a list
abbrev pub is_on : ℕ → List ℕ → Bool
is_on i xs = nat_lt 0 (count_of i xs)

-- a list with a number taken out, wherever it occurs
abbrev pub without : ℕ → List ℕ → List ℕ
without i xs = filter (λ x. not (x == i)) xs

-- n numbers, each one more than the one before it
abbrev pub numbers_from : ℕ → ℕ → List ℕ
numbers_from first zero = []
numbers_from first (suc count) = first ∷ numbers_from (suc first) count

-- the first number of a list
abbrev pub first_of : List ℕ → Option ℕ
first_of [] = None
first_of (x ∷ xs) = Some x

-- the number after i in a list
abbrev pub behind : ℕ → List ℕ → Option ℕ
behind i [] = None
behind i (x ∷ xs) = if x == i then first_of xs else behind i xs

-- the number after i in the first of these lists that has i
abbrev pub behind_in : ℕ → List (List ℕ) → Option ℕ
behind_in i [] = None
behind_in i (xs ∷ lists) = if is_on i xs then behind i xs else behind_in i lists
