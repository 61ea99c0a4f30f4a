-- The first line of some bytes, and what lies behind it.
use Rattle.std.proofs.Common.{◌≡◌, ◌≢◌, ℕ, ◌⊎◌, inl, inr, Bool, true, false, List, [], ◌∷◌, ◌++◌, refl, sym, ap, ◌∙◌, ⊎_elim}
use Rattle.std.specs.Prelude.{◌==◌, Contains, if◌then◌else◌}
use Rattle.std.proofs.lemmas.List.Elements.{All-from_recursion}
use Rattle.std.proofs.lemmas.Bool.{eqb-true, eq-eqb, true≢false}
use Rattle.protocol.specs.FirstLine.{first_line, behind_first_line}
use Rattle.meaning.specs.Output.{HasNoNewline}

first_with : (b : ℕ) (bs : List ℕ) (t : Bool) → (b == 10) ≡ t → HasNoNewline (first_line bs) → HasNoNewline (if t then [] else b ∷ first_line bs)
first_with b bs true e h = tt
first_with b bs false e h = (λ same. true≢false (sym (eq-eqb b 10 same) ∙ e), h)

pub first_has_none : (bs : List ℕ) → HasNoNewline (first_line bs)
first_has_none [] = tt
first_has_none (b ∷ bs) = first_with b bs (b == 10) refl (first_has_none bs)

parts_with : (b : ℕ) (bs : List ℕ) (t : Bool) → (b == 10) ≡ t → (bs ≡ first_line bs ++ 10 ∷ behind_first_line bs) ⊎ HasNoNewline bs
    → (b ∷ bs ≡ (if t then [] else b ∷ first_line bs) ++ 10 ∷ (if t then bs else behind_first_line bs)) ⊎ HasNoNewline (b ∷ bs)
parts_with b bs true e h = inl (ap (λ z. z ∷ bs) (eqb-true b 10 e))
parts_with b bs false e (inl h) = inl (ap (λ z. b ∷ z) h)
parts_with b bs false e (inr h) = inr (λ same. true≢false (sym (eq-eqb b 10 same) ∙ e), h)

-- a first line with its newline, or no newline at all
pub first_and_rest : (bs : List ℕ) → (bs ≡ first_line bs ++ 10 ∷ behind_first_line bs) ⊎ HasNoNewline bs
first_and_rest [] = inr tt
first_and_rest (b ∷ bs) = parts_with b bs (b == 10) refl (first_and_rest bs)

pub none_contained : (bs : List ℕ) → HasNoNewline bs → Contains bs 10 → ⊥
none_contained bs h found = All-from_recursion (λ b. b ≢ 10) bs h found.0 10 found.1 found.2

-- where there is a newline
pub first_ends : (bs : List ℕ) → Contains bs 10 → bs ≡ first_line bs ++ 10 ∷ behind_first_line bs
first_ends bs found = ⊎_elim (λ h. h) (λ none. absurd (none_contained bs none found)) (first_and_rest bs)
