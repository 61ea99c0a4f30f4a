-- The files of a volume as the bits of a number, and back; and how many they are.
use Rattle.std.proofs.Common.{◌≡◌, ℕ, zero, suc, ◌+◌, ◌*◌, ◌%◌, ◌^◌, ◌<◌, ◌≤◌, Bool, true, false, refl, sym, ◌∙◌, ap, arith, ⊎_elim, mod-lt}
use Rattle.std.specs.Prelude.{◌==◌, if◌then◌else◌, count_ones}
use Rattle.std.specs.Int.{bit_at}
use Rattle.std.proofs.lemmas.Bool.{cases_lt, cases_eq, eq-eqb, ne_eqb, eqb-true, eqb-false}
use Rattle.std.proofs.lemmas.Nat.{mod-pow-add, ones_cat, ones_le_self, zero_from_ones}
use Rattle.std.proofs.lemmas.Nat.Bits.{bit_at_above, bit_at-lt, same_from_bits}
use Rattle.std.proofs.Math.Nat.{pow-succ', mod-eq_of_lt}
use Rattle.protocol.specs.Replies.{has_file}
use Rattle.meaning.specs.State.{sum_below, count_below}
use Rattle.meaning.proofs.Sums.{one_if}
use Rattle.meaning.proofs.FileBits.{none_below}

-- what stays of a number modulo the next power of two: one bit more
one_bit_more : (n m : ℕ) → m % 2 ^ suc n ≡ bit_at m n * 2 ^ n + m % 2 ^ n
one_bit_more n m = let next : suc n ≡ 1 + n = omega arith in ap (λ k. m % 2 ^ k) next ∙ mod-pow-add m 1 n

-- bit n is worth 2 ^ n where it is 1, and nothing where it is 0
worth_of_bit : (n b : ℕ) → b < 2 → (if b == 1 then 2 ^ n else 0) ≡ b * 2 ^ n
worth_of_bit n zero low = omega arith
worth_of_bit n (suc zero) low = omega arith
worth_of_bit n (suc (suc b)) low = absurd (omega (arith, low))

pub sum_bits : (n m : ℕ) → sum_below n (λ f. if has_file m f then 2 ^ f else 0) ≡ m % 2 ^ n
sum_bits zero m = omega arith
sum_bits (suc n) m =
    let worth : (if has_file m n then 2 ^ n else 0) ≡ bit_at m n * 2 ^ n = worth_of_bit n (bit_at m n) (bit_at-lt m n) in
    omega (arith, sum_bits n m, worth, one_bit_more n m)

-- a bit has as many ones as it is: 1 is not 0, so it has one, and it has no more than its value
one_bit : (b : ℕ) → b < 2 → one_if (b == 1) ≡ count_ones b
one_bit zero low = let few = ones_le_self 0 in omega (arith, few)
one_bit (suc zero) low =
    ⊎_elim
    (λ (none : count_ones 1 ≡ 0). let wrong = zero_from_ones 1 none in absurd (omega (arith, wrong)))
    (λ (some : count_ones 1 ≡ 0 → ⊥). let few = ones_le_self 1 in omega (arith, few, some))
    (cases_eq (count_ones 1) 0)
one_bit (suc (suc b)) low = absurd (omega (arith, low))

count_bits : (n m : ℕ) → count_below n (has_file m) ≡ count_ones (m % 2 ^ n)
count_bits zero m = let few = ones_le_self (m % 2 ^ 0) in omega (arith, few)
count_bits (suc n) m =
    let apart : count_ones (bit_at m n * 2 ^ n + m % 2 ^ n) ≡ count_ones (bit_at m n) + count_ones (m % 2 ^ n) = ones_cat n (bit_at m n) (m % 2 ^ n) (mod-lt m (none_below n)) in
    let bit : one_if (has_file m n) ≡ count_ones (bit_at m n) = one_bit (bit_at m n) (bit_at-lt m n) in
    omega (arith, count_bits n m, ap count_ones (one_bit_more n m), apart, bit)

-- a number below 2 ^ n is the sum of its bits
pub bits_back : (n m : ℕ) → m < 2 ^ n → sum_below n (λ f. if has_file m f then 2 ^ f else 0) ≡ m
bits_back n m below = sum_bits n m ∙ mod-eq_of_lt below

-- and has as many ones as files are counted below n
pub count_back : (n m : ℕ) → m < 2 ^ n → count_below n (has_file m) ≡ count_ones m
count_back n m below = count_bits n m ∙ ap count_ones (mod-eq_of_lt below)

-- the number whose bits below n are those that the test picks
abbrev pub number_of : ℕ → (ℕ → Bool) → ℕ
number_of n t = sum_below n (λ f. if t f then 2 ^ f else 0)

pub number_small : (n : ℕ) (t : ℕ → Bool) → number_of n t < 2 ^ n
number_small zero t = omega arith
number_small (suc n) t = omega (arith, number_small n t, bit_n (t n), pow-succ' 2 n)
  where
    bit_n : (b : Bool) → (if b then 2 ^ n else 0) ≤ 2 ^ n
    bit_n true = omega arith
    bit_n false = omega arith

-- equal numbers of n + 1 bits have the same bit n
one_same : (n : ℕ) (s t : ℕ → Bool) (b c : Bool) → number_of n s + (if b then 2 ^ n else 0) ≡ number_of n t + (if c then 2 ^ n else 0) → b ≡ c
one_same n s t true true same = refl
one_same n s t false false same = refl
one_same n s t true false same = absurd (omega (arith, same, number_small n s, number_small n t))
one_same n s t false true same = absurd (omega (arith, same, number_small n s, number_small n t))

rest_same : (n : ℕ) (s t : ℕ → Bool) (b c : Bool) → number_of n s + (if b then 2 ^ n else 0) ≡ number_of n t + (if c then 2 ^ n else 0) → number_of n s ≡ number_of n t
rest_same n s t true true same = omega (arith, same)
rest_same n s t false false same = omega (arith, same)
rest_same n s t true false same = absurd (omega (arith, same, number_small n s, number_small n t))
rest_same n s t false true same = absurd (omega (arith, same, number_small n s, number_small n t))

pub picks_same : (n : ℕ) (s t : ℕ → Bool) → number_of n s ≡ number_of n t → (f : ℕ) → f < n → s f ≡ t f
picks_same zero s t same f below = absurd (omega (arith, below))
picks_same (suc n) s t same f below =
    ⊎_elim
    (λ (less : f < n). picks_same n s t (rest_same n s t (s n) (t n) same) f less)
    (λ (no_less : n ≤ f).
    let last : f ≡ n = omega (arith, below, no_less) in
    ap s last ∙ one_same n s t (s n) (t n) same ∙ sym (ap t last))
    (cases_lt f n)

-- file f is there in the number exactly where it is picked
pub bits_there : (n : ℕ) (t : ℕ → Bool) → ((f : ℕ) → t f ≡ true → f < n) → (f : ℕ) → has_file (number_of n t) f ≡ t f
bits_there n t within f =
    let m : ℕ = number_of n t in
    ⊎_elim
    (λ (less : f < n). picks_same n (has_file m) t (bits_back n m (number_small n t)) f less)
    (λ (no_less : n ≤ f).
    let off : has_file m f ≡ false = ap (λ b. b == 1) (bit_at_above m n f (number_small n t) no_less) in
    off ∙ sym (none_behind (t f) (within f) no_less))
    (cases_lt f n)
  where
    none_behind : (b : Bool) → (b ≡ true → f < n) → n ≤ f → b ≡ false
    none_behind false within no_less = refl
    none_behind true within no_less = absurd (omega (arith, within refl, no_less))

-- ---- a number that has no bit from n on

module _ (n m : ℕ) (within : (f : ℕ) → has_file m f ≡ true → f < n) where
  -- its bits below n make it
  pub number_within : sum_below n (λ f. if has_file m f then 2 ^ f else 0) ≡ m
  number_within = same_from_bits _ m (λ f. same_bit _ _ (bit_at-lt _ f) (bit_at-lt m f) (bits_there n (has_file m) within f))
    where
      same_bit : (b c : ℕ) → b < 2 → c < 2 → (b == 1) ≡ (c == 1) → b ≡ c
      same_bit b c low high same =
          ⊎_elim
          (λ (one : b ≡ 1). one ∙ sym (eqb-true c 1 (sym same ∙ eq-eqb b 1 one)))
          (λ (other : b ≡ 1 → ⊥). let also = eqb-false c 1 (sym same ∙ ne_eqb b 1 other) in omega (arith, low, high, other, also))
          (cases_eq b 1)

  pub below_within : m < 2 ^ n
  below_within = let small = number_small n (has_file m) in omega (arith, small, number_within)

  -- as many are set as the number has ones
  pub count_within : count_below n (has_file m) ≡ count_ones m
  count_within = count_back n m below_within
