-- The lines of some bytes are the first line and then the lines of the rest; and what holds of a line that is too long.
use Rattle.std.proofs.Common.{arith, ◌≡◌, ◌≢◌, ℕ, ◌<◌, eqb, List, [], ◌∷◌, length, None, refl, sym, ap}
use Rattle.std.proofs.lemmas.Grind.{common_steps}
use Rattle.std.proofs.lemmas.Bool.{cond-true, cond-false, eq-eqb, ne_eqb, lt-ltb}
use Rattle.protocol.specs.declared.sizes.TheConstants.{LONGEST_LINE}
use Rattle.protocol.specs.Lines.{lines, in_first}
use Rattle.protocol.specs.Grammar.{message_of}
use Rattle.protocol.specs.FirstLine.{first_line, behind_first_line}

pub first_line-newline : (b : ℕ) (bs : List ℕ) → b ≡ 10 → first_line (b ∷ bs) ≡ []
first_line-newline b bs is = cond-true (eqb b 10) [] (b ∷ first_line bs) (eq-eqb b 10 is)

pub first_line-other : (b : ℕ) (bs : List ℕ) → b ≢ 10 → first_line (b ∷ bs) ≡ b ∷ first_line bs
first_line-other b bs not = cond-false (eqb b 10) [] (b ∷ first_line bs) (ne_eqb b 10 not)

pub behind_first_line-newline : (b : ℕ) (bs : List ℕ) → b ≡ 10 → behind_first_line (b ∷ bs) ≡ bs
behind_first_line-newline b bs is = cond-true (eqb b 10) bs (behind_first_line bs) (eq-eqb b 10 is)

pub behind_first_line-other : (b : ℕ) (bs : List ℕ) → b ≢ 10 → behind_first_line (b ∷ bs) ≡ behind_first_line bs
behind_first_line-other b bs not = cond-false (eqb b 10) bs (behind_first_line bs) (ne_eqb b 10 not)

lines-of_rest : (b : ℕ) (bs : List ℕ) → in_first b (lines bs) ≡ (b ∷ first_line bs) ∷ lines (behind_first_line bs) → lines (b ∷ bs) ≡ first_line (b ∷ bs) ∷ lines (behind_first_line (b ∷ bs))
lines-of_rest b bs rest = grind (arith, common_steps)

lines-cons : (b : ℕ) (bs : List ℕ) → lines (b ∷ bs) ≡ first_line (b ∷ bs) ∷ lines (behind_first_line (b ∷ bs))
lines-cons b [] = lines-of_rest b [] refl
lines-cons b (c ∷ cs) = lines-of_rest b (c ∷ cs) (ap (in_first b) (lines-cons c cs))

-- the lines of some bytes are the first line and the lines of what lies behind it
pub lines-first : (bs : List ℕ) → bs ≢ [] → lines bs ≡ first_line bs ∷ lines (behind_first_line bs)
lines-first [] some = absurd (some refl)
lines-first (b ∷ bs) some = lines-cons b bs

-- a line that is too long is no message
pub too_long : (line : List ℕ) → LONGEST_LINE < length line → None ≡ message_of line
unfolding message_of
too_long line h = sym (cond-true _ _ _ (lt-ltb LONGEST_LINE (length line) h))
