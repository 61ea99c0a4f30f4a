-- The text of the files of a volume, one file more at a time.
use Rattle.std.proofs.Common.{[], ◌≡◌, ℕ, zero, suc, true, false, eqb, codes, add-one, ◌+◌, ◌-◌, ◌/◌, ◌%◌, ◌^◌, ◌<◌, ◌≤◌, List, ◌++◌, refl, ap, sym, subst, ◌∙◌, arith, inl, inr}
use Rattle.std.proofs.lemmas.List.{append_assoc, append-nil}
use Rattle.std.proofs.Math.Nat.{div-div-eq-div-mul, div-le_self, div-lt_iff_lt-mul, one-mul}
use Rattle.std.proofs.lemmas.Bool.{cases_lt, eq-eqb, ne_eqb}
use Rattle.std.proofs.lemmas.Nat.{pow-add, pow_pos}
use Rattle.std.proofs.lemmas.Nat.Bits.{bit_at_above, bit_at-trailing_zeros}
use Rattle.std.specs.Prelude.{if◌then◌else◌}
use Rattle.std.specs.Int.{bit_at, trailing_zeros, w64}
use Rattle.protocol.specs.Replies.{has_file, spaced, files_below, files_text}

pub files_more : (files f : ℕ) → files_below files (f + 1) ≡ files_below files f ++ (if has_file files f then spaced f else [])
files_more files f = rw (add-one f) refl

pub file_there : (files f : ℕ) → has_file files f ≡ true → codes "files" ++ files_below files f ++ spaced f ≡ codes "files" ++ files_below files (f + 1)
file_there files f h = append_assoc (codes "files") (files_below files f) (spaced f) ∙ ap (λ (text : List ℕ). codes "files" ++ text) (sym (files_more files f ∙ rw h refl))

pub all_files : (files f : ℕ) → f ≡ 64 → codes "files" ++ files_below files f ≡ codes "files" ++ files_text files
unfolding files_text
all_files files f e = ap (λ n. codes "files" ++ files_below files n) e

-- if all bits of the set lie below f, no file from f on is listed
none_above : (files f m n : ℕ) → n ≡ m + f → files < 2 ^ f → files_below files n ≡ files_below files f
none_above files f zero n is low = let same : n ≡ f = omega (arith, is) in ap (files_below files) same
none_above files f (suc m) n is low =
    let next : n ≡ (m + f) + 1 = omega (arith, is) in
    let none : has_file files (m + f) ≡ false = ap (λ (b : ℕ). eqb b 1) (bit_at_above files f (m + f) low (omega arith)) in
    ap (files_below files) next ∙ files_more files (m + f) ∙ rw none (append-nil (files_below files (m + f))) ∙ none_above files f m (m + f) refl low

pub files_end : (files f : ℕ) → f ≤ 64 → files / 2 ^ f ≡ 0 → codes "files" ++ files_below files f ≡ codes "files" ++ files_text files
unfolding files_text
files_end files f few none =
    let all : 64 ≡ (64 - f) + f = omega (arith, few) in
    let less = (div-lt_iff_lt-mul {k = 2 ^ f} {x = files} {y = 1} (pow_pos f)).0 (subst (λ (q : ℕ). q < 1) (sym none) (omega arith)) in
    let low : files < 2 ^ f = subst (λ (n : ℕ). files < n) (one-mul (2 ^ f)) less in
    ap (λ (text : List ℕ). codes "files" ++ text) (sym (none_above files f (64 - f) 64 all low))

-- if the z bits from f on are 0, none of these files is listed
none_between : (files f z : ℕ) → ((i : ℕ) → i < z → bit_at files (f + i) ≡ 0) → files_below files (f + z) ≡ files_below files f
none_between files f zero none = let same : f + 0 ≡ f = omega arith in ap (files_below files) same
none_between files f (suc z) none =
    let next : f + suc z ≡ (f + z) + 1 = omega arith in
    let other : has_file files (f + z) ≡ false = ne_eqb (bit_at files (f + z)) 1 (λ e. let here = none z (omega arith) in absurd (omega arith)) in
    ap (files_below files) next ∙ files_more files (f + z) ∙ rw other (append-nil (files_below files (f + z)))
    ∙ none_between files f z (λ i lt. none i (omega arith))

-- the bits of a number from one of them on
bits_from : (files f i : ℕ) → bit_at (files / 2 ^ f) i ≡ bit_at files (f + i)
bits_from files f i = ap (λ (q : ℕ). q % 2) (div-div-eq-div-mul files (2 ^ f) (2 ^ i) ∙ ap (λ (p : ℕ). files / p) (sym (pow-add 2 f i)))

-- the next file from a number on: what goes before it, and that it is one of the 64
pub record IsNextFile (files from file : ℕ) : Type 0 where
  pub text : codes "files" ++ files_below files from ++ spaced file ≡ codes "files" ++ files_below files (file + 1)
  pub bound : file < 64

pub next_file : (files from : ℕ) → files < 2 ^ 64 → 0 < files / 2 ^ from → IsNextFile files from (from + trailing_zeros w64 (files / 2 ^ from))
next_file files from fits some =
    let zeros = trailing_zeros w64 (files / 2 ^ from) in
    let low = bit_at-trailing_zeros w64 (files / 2 ^ from) some (omega (arith, div-le_self files (2 ^ from))) in
    let here : bit_at files (from + zeros) ≡ 1 = sym (bits_from files from zeros) ∙ low.1 in
    let none : (i : ℕ) → i < zeros → bit_at files (from + i) ≡ 0 = λ i lt. sym (bits_from files from i) ∙ low.2 i lt in
    record {
      text = ap (λ (text : List ℕ). codes "files" ++ text ++ spaced (from + zeros)) (sym (none_between files from zeros none))
          ∙ file_there files (from + zeros) (eq-eqb (bit_at files (from + zeros)) 1 here);
      bound = elim (cases_lt (from + zeros) 64) [
        | inl less ↦ less
        | inr more ↦ let high = bit_at_above files 64 (from + zeros) fits more in absurd (omega arith)
      ];
    }
