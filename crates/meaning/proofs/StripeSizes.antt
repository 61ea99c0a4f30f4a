-- How many blocks of a volume lie in one stripe, at most: each round over the stripes gives it `width` blocks of a file.
use Rattle.std.proofs.Common.{◌≡◌, ℕ, zero, suc, ◌+◌, ◌*◌, ◌/◌, ◌%◌, ◌<◌, ◌≤◌, false, ap, sym, ◌∙◌, ⊎_elim, arith}
use Rattle.std.specs.Prelude.{◌==◌, ◌-◌}
use Rattle.std.proofs.lemmas.Bool.{cases_eq, ne_eqb}
use Rattle.std.proofs.lemmas.Nat.{div-add-mod', div-mul-add, mod_below, mul-le}
use Rattle.affinity.specs.Geometry.{stripe_of}
use Rattle.affinity.specs.declared.geometry.Geometry.{Geometry}
use Rattle.meaning.specs.State.{sum_below, count_below}
use Rattle.meaning.specs.SendingAgain.{rounds, stripe_size}
use Rattle.meaning.proofs.Sums.{one_if, one_if-le, sum_below-le_times}

-- a sum in two parts
sum_below-plus : (n k : ℕ) (f : ℕ → ℕ) → sum_below (n + k) f ≡ sum_below n f + sum_below k (λ i. f (n + i))
sum_below-plus n zero f = let none : sum_below (n + 0) f ≡ sum_below n f = ap (λ m. sum_below m f) (omega arith) in omega (arith, none)
sum_below-plus n (suc k) f =
    let more : n + suc k ≡ suc (n + k) = omega arith in
    let next : sum_below (n + suc k) f ≡ sum_below (n + k) f + f (n + k) = ap (λ m. sum_below m f) more in
    let first = sum_below-plus n k f in
    omega (arith, next, first)

sum_below-longer : (n m : ℕ) (f : ℕ → ℕ) → n ≤ m → sum_below n f ≤ sum_below m f
sum_below-longer n m f le =
    let all : sum_below (n + (m - n)) f ≡ sum_below m f = ap (λ k. sum_below k f) (omega (arith, le)) in
    let parts = sum_below-plus n (m - n) f in
    omega (arith, all, parts)

-- ---- one round over the stripes

-- Numbers that are less than t apart have other remainders.
remainders_differ : (a d t : ℕ) → 0 < d → d < t → (a + d) % t ≡ a % t → ⊥
remainders_differ a d t pos below same =
    let one = div-add-mod' a t in
    let other = div-add-mod' (a + d) t in
    grind (arith, one, other, same, pos, below, mul-le)

at_most_once : (t s n j : ℕ) → j ≤ t → sum_below j (λ i. one_if ((n + i) % t == s)) ≤ 1
at_most_once t s n zero h = omega arith
at_most_once t s n (suc j) h =
    ⊎_elim
    (λ is.
    let before : sum_below j (λ i. one_if ((n + i) % t == s)) ≤ j * 0
    = sum_below-le_times j 0 (λ i. one_if ((n + i) % t == s)) (λ i lt.
    let no : ((n + i) % t == s) ≡ false = ne_eqb ((n + i) % t) s (λ also.
    remainders_differ (n + i) (j - i) t (omega (arith, lt)) (omega (arith, lt, h))
    (ap (λ m. m % t) (omega (arith, lt)) ∙ is ∙ sym also)) in
    let none : one_if ((n + i) % t == s) ≡ 0 = ap one_if no in omega (arith, none)) in
    let here = one_if-le ((n + j) % t == s) in
    omega (arith, before, here))
    (λ not.
    let before = at_most_once t s n j (omega (arith, h)) in
    let none : one_if ((n + j) % t == s) ≡ 0 = ap one_if (ne_eqb ((n + j) % t) s not) in
    omega (arith, before, none))
    (cases_eq ((n + j) % t) s)

-- in k rounds, k times
once_a_round : (t s f k : ℕ) → count_below (k * t) (λ q. (f + q) % t == s) ≤ k
once_a_round t s f zero =
    let none : 0 * t ≡ 0 = omega arith in
    let empty : sum_below (0 * t) (λ q. one_if ((f + q) % t == s)) ≡ 0 = ap (λ m. sum_below m (λ q. one_if ((f + q) % t == s))) none in
    omega (arith, empty)
once_a_round t s f (suc k) =
    let more : sum_below (suc k * t) (λ q. one_if ((f + q) % t == s)) ≡ sum_below (k * t + t) (λ q. one_if ((f + q) % t == s))
    = ap (λ m. sum_below m (λ q. one_if ((f + q) % t == s))) (grind arith) in
    let parts = sum_below-plus (k * t) t (λ q. one_if ((f + q) % t == s)) in
    let last : sum_below t (λ i. one_if ((f + (k * t + i)) % t == s)) ≤ 1
    = let shifted : sum_below t (λ i. one_if ((f + (k * t + i)) % t == s)) ≡ sum_below t (λ i. one_if ((f + k * t + i) % t == s))
    = λ i. sum_below t (λ m. one_if (at m i % t == s)) in
    let some = at_most_once t s (f + k * t) t (omega arith) in omega (arith, shifted, some) in
    let before = once_a_round t s f k in
    omega (arith, more, parts, last, before)
  where
    at : (m : ℕ) → f + (k * t + m) ≡ f + k * t + m
    at m = omega arith

-- ---- blocks in place of rounds

-- Each group of w numbers has one quotient.
quotients : (w m : ℕ) (h : ℕ → ℕ) → sum_below (m * w) (λ b. h (b / w)) ≤ w * sum_below m h
quotients w zero h =
    let none : 0 * w ≡ 0 = omega arith in
    let empty : sum_below (0 * w) (λ b. h (b / w)) ≡ 0 = ap (λ m. sum_below m (λ b. h (b / w))) none in
    omega (arith, empty)
quotients w (suc m) h =
    let more : sum_below (suc m * w) (λ b. h (b / w)) ≡ sum_below (m * w + w) (λ b. h (b / w)) = ap (λ k. sum_below k (λ b. h (b / w))) (grind arith) in
    let parts = sum_below-plus (m * w) w (λ b. h (b / w)) in
    let last : sum_below w (λ i. h ((m * w + i) / w)) ≤ w * h m
    = sum_below-le_times w (h m) (λ i. h ((m * w + i) / w)) (λ i lt. let same = ap h (div-mul-add m w i lt) in omega (arith, same)) in
    let before = quotients w m h in
    grind (arith, more, parts, last, before)

-- The rounds have room for all blocks of a file.
enough : (g : Geometry) → g.blocks ≤ rounds g * g.stripes * g.width
enough g =
    let round = g.width * g.stripes in
    let pos : 0 < round = mul-le 1 1 g.width g.stripes g.width_range.0 g.stripes_range.0 in
    let whole = div-add-mod' (g.blocks + round - 1) round in
    let rest = mod_below (g.blocks + round - 1) round pos in
    grind (arith, pos, whole, rest)

-- a file's blocks in one stripe
of_file : (g : Geometry) (f s : ℕ) → count_below g.blocks (λ b. stripe_of g f b == s) ≤ g.width * rounds g
of_file g f s =
    let h : ℕ → ℕ = λ q. one_if ((f + q) % g.stripes == s) in
    let all : sum_below g.blocks (λ b. h (b / g.width)) ≤ sum_below (rounds g * g.stripes * g.width) (λ b. h (b / g.width))
    = sum_below-longer g.blocks (rounds g * g.stripes * g.width) (λ b. h (b / g.width)) (enough g) in
    let by_width = quotients g.width (rounds g * g.stripes) h in
    let of_rounds = once_a_round g.stripes s f (rounds g) in
    let times = mul-le g.width (sum_below (rounds g * g.stripes) h) g.width (rounds g) (omega arith) of_rounds in
    omega (arith, all, by_width, times)

pub stripe_size_is_bounded : (g : Geometry) (s : ℕ) → stripe_size g s ≤ g.files * (g.width * rounds g)
stripe_size_is_bounded g s = sum_below-le_times g.files (g.width * rounds g) _ (λ f lt. of_file g f s)
