-- Steps of loops that decode pairs of digits and look at the greatest value in the end. *Read*, of a digit or a byte, means decoded here.
use Rattle.std.proofs.lemmas.Grind.{common_steps}
use Rattle.std.proofs.Common.{◌≡◌, ℕ, zero, suc, max, ◌+◌, ◌*◌, ◌-◌, ◌%◌, ◌<◌, ◌≤◌, ◌⊎◌, ⊎_elim, true, false, List, length, take, drop, slice_index, slice_set, Ok, Err, refl, sym, ap, subst, ◌∙◌, arith}
use Rattle.std.specs.Prelude.{IsErr}
use Rattle.std.proofs.lemmas.Bool.{cases_lt, true≢false}
use Rattle.std.proofs.lemmas.List.{get_or-set_other, get_or-set_same, set-get_or}
use Rattle.std.proofs.lemmas.List.Elements.{All-get_or}
use Rattle.hex.specs.Hex.{decode_pairs, is_hex_digit, pair_value}
use Rattle.hex.proofs.HexLemmas.{decode_pairs-ok}
use Rattle.hex.proofs.Pairs.{decode_done, decode_start, decode_step, prepend}
use Rattle.message.specs.Digits.{AreDecoded, HasNonDigit, IsDecoded, value_of}

-- two digits are read
pub pair_read : (high low i : ℕ) → value_of high < 16 → value_of low < 16 → pair_value high low i ≡ Ok (value_of high * 16 + value_of low)
pair_read high low i h l = grind (arith, common_steps)

no_digit : (c : ℕ) → 16 ≤ value_of c → is_hex_digit c ≡ false
no_digit c h = grind arith

-- decoding fails where one of the bytes is no digit
other_refused : (s : List ℕ) (k : ℕ) → k < length s → 16 ≤ value_of (slice_index s k) → IsErr (decode_pairs 0 s)
other_refused s k h other =
    elim (decode_pairs 0 s) as (λ r. decode_pairs 0 s ≡ r → IsErr r) [
      | Err e ↦ λ was. refl
      | Ok bytes ↦ λ was. absurd (true≢false (sym (All-get_or (λ c. is_hex_digit c ≡ true) s k 0 h (decode_pairs-ok 0 s bytes was).0) ∙ no_digit (slice_index s k) other))
    ] refl

-- ---- the greatest of three values

pub greatest_small : (a b c : ℕ) → max (max a b) c < 16 → (a < 16) × (b < 16) × (c < 16)
greatest_small a b c h = grind (arith, common_steps)

pub greatest_other : (a b c : ℕ) → 16 ≤ max (max a b) c → (16 ≤ a) ⊎ (16 ≤ b) ⊎ (16 ≤ c)
greatest_other a b c h = grind arith

pub one_other : (a b : ℕ) → 16 ≤ max a b → (16 ≤ a) ⊎ (16 ≤ b)
one_other a b h = grind arith

-- ---- bytes that are read

-- The byte of two digits is put in its place.
pub byte_read : (digits out : List ℕ) (i : ℕ) → i < length out → value_of (slice_index digits (2 * i)) < 16
    → value_of (slice_index digits (2 * i + 1)) < 16
    → IsDecoded digits (slice_set out i ((value_of (slice_index digits (2 * i)) * 16 % 256 + value_of (slice_index digits (2 * i + 1))) % 256)) i
byte_read digits out i room h l = record { high = h; low = l; byte = get_or-set_same out i _ 0 room ∙ omega (arith, h, l) }

-- One byte more is read.
pub read_more : (digits out : List ℕ) (from i v : ℕ) → IsDecoded digits (slice_set out i v) i → AreDecoded digits out from i
    → AreDecoded digits (slice_set out i v) from (i + 1)
read_more digits out from i v here before j least less = ⊎_elim
    (λ (earlier : j < i).
    let r = before j least earlier in
    record { high = r.high; low = r.low; byte = get_or-set_other out i j v 0 (λ same. omega (arith, same, earlier)) ∙ r.byte })
    (λ (more : i ≤ j). let last : i ≡ j = omega (arith, less, more) in subst (IsDecoded digits (slice_set out i v)) last here)
    (cases_lt j i)

-- Bytes that are read stay so if they don't change.
pub read_still : (digits old new : List ℕ) (to : ℕ) → ((i : ℕ) → i < to → slice_index new i ≡ slice_index old i)
    → AreDecoded digits old 0 to → AreDecoded digits new 0 to
read_still digits old new to same before i least less = grind (arith, common_steps)

-- the bytes below `from` and those from `from` up to `to` are read, so all below `to` are
pub read_both : (digits out : List ℕ) (from to : ℕ) → AreDecoded digits out 0 from → AreDecoded digits out from to → AreDecoded digits out 0 to
read_both digits out from to first second i least less = ⊎_elim
    (λ (earlier : i < from). first i least earlier)
    (λ (later : from ≤ i). second i later less)
    (cases_lt i from)

-- A group of digits has these values, each of them a digit's. Their bytes are put in the places from `at` on, and those before `at` stay.
pub record IsGroup (digits old new values : List ℕ) (at : ℕ) : Type 0 where
  pub each : (k : ℕ) → k < 32 → slice_index values k ≡ value_of (slice_index digits (2 * at + k))
  pub small : (k : ℕ) → k < 32 → slice_index values k < 16
  pub pairs : (k : ℕ) → k < 16 → slice_index new (at + k) ≡ (slice_index values (2 * k) * 16 % 256 + slice_index values (2 * k + 1)) % 256
  pub before : (i : ℕ) → i < at → slice_index new i ≡ slice_index old i

group_at : (digits old new values : List ℕ) (at k : ℕ) → IsGroup digits old new values at → k < 16 → IsDecoded digits new (at + k)
group_at digits old new values at k g few =
    let h = sym (g.each (2 * k) (omega (arith, few))) in
    let l = sym (g.each (2 * k + 1) (omega (arith, few))) in
    let first : 2 * at + 2 * k ≡ 2 * (at + k) = omega arith in
    let second : 2 * at + (2 * k + 1) ≡ 2 * (at + k) + 1 = omega arith in
    let high : value_of (slice_index digits (2 * (at + k))) ≡ slice_index values (2 * k) = ap (λ i. value_of (slice_index digits i)) (sym first) ∙ h in
    let low : value_of (slice_index digits (2 * (at + k) + 1)) ≡ slice_index values (2 * k + 1) =
    ap (λ i. value_of (slice_index digits i)) (sym second) ∙ l in
    let small_high = g.small (2 * k) (omega (arith, few)) in
    let small_low = g.small (2 * k + 1) (omega (arith, few)) in
    record {
      high = omega (arith, high, small_high);
      low = omega (arith, low, small_low);
      byte = g.pairs k few ∙ omega (arith, high, low, small_high, small_low);
    }

-- One group more is read.
pub group_read : (digits old new values : List ℕ) (at : ℕ) → IsGroup digits old new values at → AreDecoded digits old 0 at
    → AreDecoded digits new 0 (at + 16)
group_read digits old new values at g before i least less = ⊎_elim
    (λ (earlier : i < at). read_still digits old new at g.before before i least earlier)
    (λ (later : at ≤ i).
    let here : at + (i - at) ≡ i = omega (arith, later) in
    subst (IsDecoded digits new) here (group_at digits old new values at (i - at) g (omega (arith, less, later))))
    (cases_lt i at)

decoded_to : (digits out : List ℕ) (i : ℕ) → i ≤ length out → length digits ≡ 2 * length out → AreDecoded digits out 0 (length out)
    → decode_pairs 0 digits ≡ prepend (take i out) (decode_pairs (2 * i) (drop (2 * i) digits))
decoded_to digits out zero few fits all = decode_start digits out
decoded_to digits out (suc i) few fits all =
    let next : i + 1 ≡ suc i = omega arith in
    let room : i < length out = omega (arith, few) in
    let r = all i (omega arith) room in
    let pair = pair_read (slice_index digits (2 * i)) (slice_index digits (2 * i + 1)) (2 * i) r.high r.low ∙ ap Ok (sym r.byte) in
    let step = decode_step digits out i (slice_index out i) (omega (arith, room, fits)) room pair
    (decoded_to digits out i (omega (arith, few)) fits all) in
    subst (λ (k : ℕ). decode_pairs 0 digits ≡ prepend (take k out) (decode_pairs (2 * k) (drop (2 * k) digits))) next
    (subst (λ (l : List ℕ). decode_pairs 0 digits ≡ prepend (take (i + 1) l) (decode_pairs (2 * (i + 1)) (drop (2 * (i + 1)) digits)))
    (set-get_or out i 0) step)

-- Where all bytes are read, `decode_pairs` gives them.
pub decoded : (digits out : List ℕ) → length digits ≡ 2 * length out → AreDecoded digits out 0 (length out) → decode_pairs 0 digits ≡ Ok out
decoded digits out fits all =
    decode_done digits out (length out) (omega arith) (omega (arith, fits)) (decoded_to digits out (length out) (omega arith) fits all)

-- Where one of the digits is none, `decode_pairs` fails.
pub not_decoded : (digits : List ℕ) → HasNonDigit digits → IsErr (decode_pairs 0 digits)
not_decoded digits other = other_refused digits other.0 other.1 other.2
