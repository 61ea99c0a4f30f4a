-- The files of a volume as the bits of a number: one file more, one less.
use Rattle.std.proofs.Common.{◌≡◌, ℕ, zero, suc, ◌*◌, ◌%◌, ◌^◌, ◌<◌, ◌≤◌, false, ap, sym, ◌∙◌, arith, ⊎_elim, bit_and, bit_or, w64}
use Rattle.std.specs.Prelude.{◌==◌, ◌&&◌, ◌||◌, not}
use Rattle.std.specs.Int.{bit_not}
use Rattle.std.proofs.lemmas.Bool.{eq-eqb, ne_eqb, cases_eq, cases_lt}
use Rattle.std.proofs.lemmas.Nat.{or_lt, and_le_l}
use Rattle.std.proofs.lemmas.Nat.Bits.{bit_at_above, bit_at_set_same, bit_at_set_other, bit_at_clear_same, bit_at_clear_other, bit_at-zero}
use Rattle.std.proofs.Math.Pow.{pow-lt}
use Rattle.std.proofs.Math.Nat.{pow-le-pow_right}
use Rattle.protocol.specs.Replies.{has_file}

pub has_none : (f : ℕ) → has_file 0 f ≡ false
has_none f = ap (λ n. n == 1) (bit_at-zero f)

-- ---- one file more, one less

-- the number with this bit
abbrev pub with_bit : ℕ → ℕ → ℕ
with_bit n f = bit_or n (1 * 2 ^ f % 2 ^ 64)

-- the number without this bit
abbrev pub without_bit : ℕ → ℕ → ℕ
without_bit n f = bit_and n (bit_not w64 (1 * 2 ^ f % 2 ^ 64))

pub with_bit_has : (n f : ℕ) → f < 64 → (i : ℕ) → has_file (with_bit n f) i ≡ ((f == i) || has_file n i)
with_bit_has n f lt i =
    ⊎_elim
    (λ e.
    ap (λ k. has_file (with_bit n f) k) e ∙ eq-eqb _ 1 (bit_at_set_same w64 n f lt) ∙ sym (ap (λ t. t || has_file n i) (eq-eqb f i (sym e))))
    (λ ne.
    ap (λ b. b == 1) (bit_at_set_other w64 n f lt i ne) ∙ sym (ap (λ t. t || has_file n i) (ne_eqb f i (λ e. ne (sym e)))))
    (cases_eq i f)

pub without_bit_has : (n f : ℕ) → f < 64 → n < 2 ^ 64 → (i : ℕ) → has_file (without_bit n f) i ≡ (not (f == i) && has_file n i)
without_bit_has n f lt fits i =
    ⊎_elim
    (λ e.
    ap (λ k. has_file (without_bit n f) k) e ∙ ap (λ b. b == 1) (bit_at_clear_same w64 n f lt) ∙ sym (ap (λ t. not t && has_file n i) (eq-eqb f i (sym e))))
    (λ ne.
    ap (λ b. b == 1) (⊎_elim
    (λ below. bit_at_clear_other w64 n f lt i below ne)
    (λ above.
    let left : without_bit n f ≤ n = and_le_l n (bit_not w64 (1 * 2 ^ f % 2 ^ 64)) in
    let small : without_bit n f < 2 ^ 64 = omega (arith, left, fits) in
    bit_at_above (without_bit n f) 64 i small above ∙ sym (bit_at_above n 64 i fits above))
    (cases_lt i 64)) ∙ sym (ap (λ t. not t && has_file n i) (ne_eqb f i (λ e. ne (sym e)))))
    (cases_eq i f)

pub with_bit_below : (k n f : ℕ) → n < 2 ^ k → f < k → k ≤ 64 → with_bit n f < 2 ^ k
with_bit_below k n f small lt most = grind (arith, pow-lt lt, or_lt)

pub without_bit_below : (k n f : ℕ) → n < 2 ^ k → without_bit n f < 2 ^ k
without_bit_below k n f small = omega (arith, and_le_l n (bit_not w64 (1 * 2 ^ f % 2 ^ 64)), small)

-- a number of at most 64 bits
pub few_bits : (k n : ℕ) → n < 2 ^ k → k ≤ 64 → n < 2 ^ 64
few_bits k n below most = let top : 2 ^ k ≤ 2 ^ 64 = pow-le-pow_right {n = 2} (omega arith) {i = k} {j = 64} most in omega (arith, below, top)

pub none_below : (k : ℕ) → 0 < 2 ^ k
none_below zero = omega arith
none_below (suc k) = let rest = none_below k in omega (arith, rest)
