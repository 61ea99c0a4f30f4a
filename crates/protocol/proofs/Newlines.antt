-- A text of a reply has no newline: it is made of digits and words.
use Rattle.std.proofs.Common.{◌≡◌, ◌≢◌, ℕ, zero, suc, ◌+◌, ◌/◌, ◌%◌, false, cond, List, [], ◌∷◌, ◌++◌, codes, refl, ap, ◌∙◌, get_or, arith}
use Rattle.std.specs.Prelude.{◌==◌, count_by, nat_lt, slice_index, if◌then◌else◌}
use Rattle.std.specs.Fmt.{decimal, digit_glyph, digits, digits_onto}
use Rattle.std.proofs.lemmas.Bool.{cond_both, eq-eqb, ne_eqb}
use Rattle.std.proofs.lemmas.List.Sums.{sum_by-append, sum_by-cons}
use Rattle.hex.specs.Hex.{encode_with, lower_digits}
use Rattle.protocol.specs.Replies.{at_least_one, files_below, files_text, has_file, reason, reply_text, shown, spaced, without_trailing_zeros}
use Rattle.protocol.specs.declared.replies.Refusal.{Refusal}
use Rattle.protocol.specs.declared.replies.Refusal.TheVariants.{Range}
use Rattle.protocol.specs.declared.replies.Reply.{Reply}
use Rattle.protocol.specs.declared.replies.Reply.TheVariants.{Done, Hole, Block as Found, Files, Usage, Summary, Refused, Label}

-- how many of the bytes are newlines
abbrev pub newlines : List ℕ → ℕ
newlines bytes = count_by (λ b. b == 10) bytes

pub both : (xs ys : List ℕ) → newlines (xs ++ ys) ≡ newlines xs + newlines ys
both xs ys = sum_by-append (λ b. cond (b == 10) 1 0) xs ys

other : (b : ℕ) (bytes : List ℕ) → b ≢ 10 → newlines (b ∷ bytes) ≡ newlines bytes
other b bytes h = sum_by-cons (λ b. cond (b == 10) 1 0) b bytes ∙ ap (λ t. cond t 1 0 + newlines bytes) (ne_eqb b 10 h) ∙ omega arith

-- ---- no newline is in a text of digits

glyph : (d : ℕ) → digit_glyph false d ≢ 10
glyph d = cond_both (nat_lt d 10) (48 + d) (87 + d) (λ g. g ≢ 10) (λ few e. omega (arith, e)) (λ many e. omega (arith, e))

onto : (k n : ℕ) (behind : List ℕ) → newlines (digits_onto k 10 false n behind) ≡ newlines behind
onto zero n behind = refl
onto (suc k) n behind =
    let one = other (digit_glyph false (n % 10)) behind (glyph (n % 10)) in
    let next = digit_glyph false (n % 10) ∷ behind in
    cond_both (n / 10 == 0) next (digits_onto k 10 false (n / 10) next) (λ ds. newlines ds ≡ newlines behind) (λ last. one) (λ more. onto k (n / 10) next ∙ one)

in_decimal : (n : ℕ) → newlines (decimal n) ≡ 0
unfolding digits
in_decimal n = onto 64 n []

in_parts : (xs ys : List ℕ) → newlines xs ≡ 0 → newlines ys ≡ 0 → newlines (xs ++ ys) ≡ 0
in_parts xs ys none also = let all = both xs ys in omega (arith, all, none, also)

-- a byte of a list with no newline, or the zero behind its end
no_newline_at : (bytes : List ℕ) (k : ℕ) → newlines bytes ≡ 0 → get_or bytes k 0 ≢ 10
no_newline_at [] k none e = omega (arith, e)
no_newline_at (b ∷ bytes) zero none e =
    let one = sum_by-cons (λ b. cond (b == 10) 1 0) b bytes ∙ ap (λ t. cond t 1 0 + newlines bytes) (eq-eqb b 10 e) in
    omega (arith, none, one)
no_newline_at (b ∷ bytes) (suc k) none e =
    no_newline_at bytes k (let all = sum_by-cons (λ b. cond (b == 10) 1 0) b bytes in omega (arith, none, all)) e

in_hexadecimal : (bytes : List ℕ) → newlines (encode_with lower_digits bytes) ≡ 0
unfolding encode_with
in_hexadecimal [] = refl
in_hexadecimal (b ∷ bytes) =
    let low = slice_index lower_digits (b % 16) in
    other (slice_index lower_digits (b / 16)) (low ∷ encode_with lower_digits bytes) (no_newline_at lower_digits (b / 16) refl)
    ∙ other low (encode_with lower_digits bytes) (no_newline_at lower_digits (b % 16) refl) ∙ in_hexadecimal bytes

in_shown : (bytes : List ℕ) → newlines (shown bytes) ≡ 0
unfolding shown
in_shown bytes = in_hexadecimal (at_least_one (without_trailing_zeros bytes))

in_files : (files f : ℕ) → newlines (files_below files f) ≡ 0
in_files files zero = refl
in_files files (suc f) =
    both (files_below files f) (if has_file files f then spaced f else [])
    ∙ ap (λ n. n + newlines (if has_file files f then spaced f else [])) (in_files files f) ∙ omega arith
    ∙ cond_both (has_file files f) (spaced f) [] (λ text. newlines text ≡ 0) (λ there. in_decimal f) (λ not. refl)

-- ---- nor in a reply

in_reason : (why : Refusal) → newlines (reason why) ≡ 0
in_reason Range = refl
in_reason why = refl

pub in_reply : (reply : Reply) → newlines (reply_text reply) ≡ 0
unfolding files_text
in_reply Done = refl
in_reply Hole = refl
in_reply (Found content) = in_shown content.0
in_reply (Files files) = in_files files 64
in_reply (Usage files blocks sealed) =
    in_parts (codes "usage" ++ spaced files ++ spaced blocks) (if sealed then codes " sealed" else codes " open")
    (in_parts (codes "usage" ++ spaced files) (spaced blocks) (in_decimal files) (in_decimal blocks))
    (cond_both sealed (codes " sealed") (codes " open") (λ text. newlines text ≡ 0) (λ yes. refl) (λ no. refl))
in_reply (Summary volumes files blocks) =
    in_parts (codes "summary" ++ spaced volumes ++ spaced files) (spaced blocks)
    (in_parts (codes "summary" ++ spaced volumes) (spaced files) (in_decimal volumes) (in_decimal files)) (in_decimal blocks)
in_reply (Label bytes) = in_shown bytes
in_reply (Refused why) = in_reason why
