-- What a word encodes as a number.
use Rattle.std.proofs.lemmas.Grind.{common_steps}
use Rattle.std.proofs.Common.{◌≡◌, ℕ, zero, suc, ◌+◌, ◌-◌, ◌*◌, ◌<◌, ◌≤◌, ◌^◌, true, false, List, [], ◌∷◌, length, get_or, take, Some, None, refl, ap, sym, ◌∙◌, inl, inr, arith}
use Rattle.std.specs.Prelude.{◌&&◌, ◌||◌, not, ◌==◌, nat_lt, nat_le}
use Rattle.std.specs.Char.{is_ascii_digit, digit_value}
use Rattle.std.specs.Int.{IsInRange}
use Rattle.std.specs.Str.{all_ascii_digits}
use Rattle.std.specs.Str.Parse.{digits_value}
use Rattle.std.specs.Fmt.{decimal}
use Rattle.std.proofs.lemmas.Bool.{and_parts, and_from, or_cases, or_left, or_right, not-true, not_from_false, eqb-true, eq-eqb, ne_eqb, ltb-true, lt-ltb, leb-true, true≢false, cond-true, cases_eq}
use Rattle.std.proofs.lemmas.Option.{cond_some}
use Rattle.std.proofs.lemmas.Str.Parse.{IsNumeralModel, numerals_by_value, tells_all_ascii_digits, digits_value-take-le}
use Rattle.std.proofs.lemmas.Int.Digits.{digits_value_more}
use Rattle.std.proofs.lemmas.Fmt.{decimal-digits_value, digits_decimal, digits_value-decimal, decimal_nonempty, first_decimal, decimal_digit}
use Rattle.protocol.specs.Words.{number_in_word, is_numeral}
use Rattle.message.proofs.Words.{HasNoSpace}

-- the kit's model of a numeral, for words that pass `all_ascii_digits`
pub own : IsNumeralModel (λ ds. all_ascii_digits ds ≡ true) (digits_value 10)
own = numerals_by_value (λ ds. all_ascii_digits ds ≡ true) tells_all_ascii_digits

-- word w encodes a number below 65536; `plain`: it has no leading zero
pub record IsNumber (w : List ℕ) : Type 0 where
  pub digits : all_ascii_digits w ≡ true
  pub some : 0 < length w
  pub plain : get_or w 0 0 ≡ 48 → length w ≡ 1
  pub fits : digits_value 10 w < 65536

-- what the test of a numeral says: digits, at least one, and no leading zero
numeral_parts : (w : List ℕ) → is_numeral w ≡ true → (all_ascii_digits w ≡ true) × (0 < length w) × (get_or w 0 0 ≡ 48 → length w ≡ 1)
numeral_parts w h =
    let p = and_parts (all_ascii_digits w && nat_lt 0 (length w)) (not (get_or w 0 0 == 48) || (length w == 1)) h in
    let q = and_parts (all_ascii_digits w) (nat_lt 0 (length w)) p.0 in (
      q.0,
      ltb-true 0 (length w) q.1,
      λ zero_first. elim (or_cases (not (get_or w 0 0 == 48)) (length w == 1) p.1) [
        | inl other ↦ absurd (true≢false (sym (eq-eqb (get_or w 0 0) 48 zero_first) ∙ not-true (get_or w 0 0 == 48) other))
        | inr one ↦ eqb-true (length w) 1 one
      ],
    )

is_numeral_from : (w : List ℕ) → IsNumber w → is_numeral w ≡ true
is_numeral_from w h =
    and_from _ _ (and_from _ _ h.digits (lt-ltb 0 (length w) h.some))
    (elim (cases_eq (get_or w 0 0) 48) [
      | inl zero_first ↦ or_right (not (get_or w 0 0 == 48)) (length w == 1) (eq-eqb (length w) 1 (h.plain zero_first))
      | inr other ↦ or_left (not (get_or w 0 0 == 48)) (length w == 1) (not_from_false (get_or w 0 0 == 48) (ne_eqb (get_or w 0 0) 48 other))
    ])

-- a word that encodes a number
pub number_parts : (w : List ℕ) (n : ℕ) → number_in_word w ≡ Some n → IsNumber w × (digits_value 10 w ≡ n)
unfolding number_in_word
number_parts w n h =
    let p = cond_some (is_numeral w && nat_lt (digits_value 10 w) 65536) (digits_value 10 w) n h in
    let q = and_parts (is_numeral w) (nat_lt (digits_value 10 w) 65536) p.0 in
    let r = numeral_parts w q.0 in
    (record { digits = r.0; some = r.1; plain = r.2; fits = ltb-true (digits_value 10 w) 65536 q.1 }, p.1)

pub number_from : (w : List ℕ) → IsNumber w → number_in_word w ≡ Some (digits_value 10 w)
unfolding number_in_word
number_from w h = cond-true _ _ _ (and_from _ _ (is_numeral_from w h) (lt-ltb (digits_value 10 w) 65536 h.fits))

-- a word that is no such number encodes none
pub no_number : (w : List ℕ) → (IsNumber w → ⊥) → number_in_word w ≡ None
no_number w h = elim (number_in_word w) as (λ o. number_in_word w ≡ o → o ≡ None) [ None ↦ λ e. refl | Some n ↦ λ e. absurd (h (number_parts w n e).0) ] refl

-- ---- and decimal text

-- the number's text is the word
pub decimal-number : (w : List ℕ) (n : ℕ) → number_in_word w ≡ Some n → (decimal n ≡ w) × (n < 65536)
decimal-number w n h =
    let p = number_parts w n h in
    let fits = p.0.fits in
    let wide : digits_value 10 w < 2 ^ 64 = omega arith in
    let e : decimal (digits_value 10 w) ≡ w = decimal-digits_value own w p.0.digits p.0.some p.0.plain wide in
    (ap decimal (sym p.1) ∙ e, rw p.1 at fits)

decimal_plain : (n : ℕ) → n < 65536 → get_or (decimal n) 0 0 ≡ 48 → length (decimal n) ≡ 1
decimal_plain n h e =
    elim (cases_eq n 0) [
      | inl none ↦ rw none (ap length (decimal_digit 0 (omega arith)))
      | inr more ↦ let first = first_decimal n (omega arith) (omega arith) in absurd (omega arith)
    ]

pub IsNumber-decimal : (n : ℕ) → n < 65536 → IsNumber (decimal n)
IsNumber-decimal n h =
    let wide : n < 2 ^ 64 = omega arith in
    let value : digits_value 10 (decimal n) ≡ n = digits_value-decimal own n wide in
    record { digits = digits_decimal own n wide; some = decimal_nonempty n wide; plain = decimal_plain n h; fits = omega arith }

pub number-decimal : (n : ℕ) → n < 65536 → number_in_word (decimal n) ≡ Some n
number-decimal n h =
    let wide : n < 2 ^ 64 = omega arith in
    number_from (decimal n) (IsNumber-decimal n h) ∙ ap Some (digits_value-decimal own n wide)

-- ---- digits one by one

digit_in_range : (c : ℕ) → is_ascii_digit c ≡ true → IsInRange 48 57 c
digit_in_range c h = let p = and_parts (nat_le 48 c) (nat_le c 57) h in (leb-true 48 c p.0, leb-true c 57 p.1)

pub not_a_space : (c : ℕ) → is_ascii_digit c ≡ true → (c == 32) ≡ false
not_a_space c h = let p = digit_in_range c h in ne_eqb c 32 (λ e. absurd (omega arith))

pub digits_no_space : (w : List ℕ) → all_ascii_digits w ≡ true → HasNoSpace w
digits_no_space [] h = tt
digits_no_space (c ∷ w) h = grind (arith, common_steps, digits_no_space w)

pub number_no_space : (w : List ℕ) (n : ℕ) → number_in_word w ≡ Some n → HasNoSpace w
number_no_space w n h = digits_no_space w (number_parts w n h).0.digits

-- each byte of a word of digits is a digit
pub digit_at : (w : List ℕ) (i : ℕ) → all_ascii_digits w ≡ true → i < length w → is_ascii_digit (get_or w i 0) ≡ true
digit_at [] i h lt = absurd (omega arith)
digit_at (c ∷ w) zero h lt = (and_parts (is_ascii_digit c) (all_ascii_digits w) h).0
digit_at (c ∷ w) (suc i) h lt = digit_at w i (and_parts (is_ascii_digit c) (all_ascii_digits w) h).1 (omega arith)

-- one digit more
pub digits_more : (w : List ℕ) (i : ℕ) → i < length w → all_ascii_digits (take i w) ≡ true → is_ascii_digit (get_or w i 0) ≡ true → all_ascii_digits (take (i + 1) w) ≡ true
digits_more [] i lt h d = absurd (omega arith)
digits_more (c ∷ w) zero lt h d = and_from (is_ascii_digit c) true d refl
digits_more (c ∷ w) (suc i) lt h d =
    let p = and_parts (is_ascii_digit c) (all_ascii_digits (take i w)) h in
    let next : suc i + 1 ≡ suc (i + 1) = omega arith in
    rw next (and_from (is_ascii_digit c) (all_ascii_digits (take (i + 1) w)) p.0 (digits_more w i (omega arith) p.1 d))

-- a digit's value
pub value_of_digit : (c : ℕ) → is_ascii_digit c ≡ true → digit_value c ≡ c - 48
value_of_digit c h = grind (arith, common_steps)

-- the value with one digit more
pub value_more : (w : List ℕ) (i v : ℕ) → i < length w → is_ascii_digit (get_or w i 0) ≡ true → v ≡ digits_value 10 (take i w)
    → 10 * v + (get_or w i 0 - 48) ≡ digits_value 10 (take (i + 1) w)
value_more w i v lt d e = grind (arith, common_steps, digits_value_more, value_of_digit)

-- a word whose first digits have a value of more than 16 bits encodes no number
pub too_large : (w : List ℕ) (i v : ℕ) → v ≡ digits_value 10 (take (i + 1) w) → 2 ^ 16 ≤ v → number_in_word w ≡ None
too_large w i v e h = no_number w (λ n. let less = digits_value-take-le 10 w (i + 1) (omega arith) in let fits = n.fits in absurd (omega arith))

-- ---- one digit, or two, in front of a line

one_digit : (c : ℕ) → is_ascii_digit c ≡ true → number_in_word (c ∷ []) ≡ Some (c - 48)
one_digit c digit = grind (arith, common_steps, digit_in_range, value_more, number_from, and_from)

pub digit_in_front : (line : List ℕ) → 0 < length line → is_ascii_digit (get_or line 0 0) ≡ true → number_in_word (take 1 line) ≡ Some (get_or line 0 0 - 48)
digit_in_front [] lt digit = absurd (omega (arith, lt))
digit_in_front (c ∷ line) lt digit = one_digit c digit

two_digits : (c d : ℕ) → is_ascii_digit c ≡ true → is_ascii_digit d ≡ true → (c ≡ 48 → ⊥) → number_in_word (c ∷ d ∷ []) ≡ Some (10 * (c - 48) + (d - 48))
two_digits c d first second plain = grind (arith, common_steps, digit_in_range, value_more, number_from, and_from)

pub two_in_front : (line : List ℕ) → 1 < length line → is_ascii_digit (get_or line 0 0) ≡ true → is_ascii_digit (get_or line 1 0) ≡ true → (get_or line 0 0 ≡ 48 → ⊥)
    → number_in_word (take 2 line) ≡ Some (10 * (get_or line 0 0 - 48) + (get_or line 1 0 - 48))
two_in_front [] lt first second plain = absurd (omega (arith, lt))
two_in_front (c ∷ []) lt first second plain = absurd (omega (arith, lt))
two_in_front (c ∷ d ∷ line) lt first second plain = two_digits c d first second plain
