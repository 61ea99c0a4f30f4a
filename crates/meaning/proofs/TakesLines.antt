-- Lines that are taken of an input, one after the other.
use Rattle.std.proofs.Common.{◌≡◌, suc, ◌≢◌, ℕ, ◌<◌, ◌⊎◌, inl, inr, Bool, true, false, List, [], ◌∷◌, ◌++◌, length, Option, Some, None, refl, sym, ap, ◌∙◌, arith, subst, append_assoc, ⊎_elim}
use Rattle.std.specs.Prelude.{Contains, IfSome, replicate}
use Rattle.std.proofs.lemmas.List.{length-replicate}
use Rattle.std.proofs.lemmas.Option.{none-some, same_Some}
use Rattle.std.proofs.lemmas.Bool.{true≢false}
use Rattle.protocol.specs.declared.sizes.TheConstants.{LONGEST_LINE}
use Rattle.protocol.specs.Lines.{lines}
use Rattle.protocol.specs.Grammar.{message_of}
use Rattle.protocol.specs.FirstLine.{first_line, behind_first_line, GivesLine, PassesLine, HasWholeFirstLine}
use Rattle.protocol.proofs.FirstLines.{too_long, lines-first}
use Rattle.meaning.specs.Output.{with_newlines}
use Rattle.meaning.specs.Progress.{AreTaken, TakesLines}
use Rattle.meaning.proofs.FirstLine.{first_has_none, first_ends}
use Rattle.meaning.proofs.OutputLemmas.{with_newlines-one_more, are_lines-one_more}

pub takes_nothing : (input : Option (List ℕ)) → TakesLines input input false []
takes_nothing None = tt
takes_nothing (Some bytes) = (bytes, refl, record { to_come = refl; are_lines = tt; whole = inr refl })

first_taken : {input rest : List ℕ} {ended now_ended : Bool} {taken : List (List ℕ)} → AreTaken input rest ended taken → ended ≡ false
    → rest ≢ [] → Contains rest 10 ⊎ (now_ended ≡ true) → AreTaken input (behind_first_line rest) now_ended (taken ++ first_line rest ∷ [])
first_taken {input} {rest} {ended} {now_ended} {taken} t going more closes = record {
  to_come = t.to_come ∙ ap (λ z. taken ++ z) (lines-first rest more) ∙ sym (append_assoc taken (first_line rest ∷ []) (lines (behind_first_line rest)));
  are_lines = are_lines-one_more taken (first_line rest) t.are_lines (first_has_none rest);
  whole = ⊎_elim
      (λ found. inr (⊎_elim (λ e. absurd (true≢false (sym e ∙ going)))
      (λ whole. whole ∙ ap (λ z. with_newlines taken ++ z) (first_ends rest found)
      ∙ sym (with_newlines-one_more taken (first_line rest) (behind_first_line rest))) t.whole))
      (λ e. inl e) closes;
}

-- the next line of what was left: it was given, and a newline or the end of the input closes it
pub record NextLine (line : List ℕ) (left now_left : Option (List ℕ)) (now_ended : Bool) : Type 0 where
  pub given : IfSome left (λ bs. GivesLine line bs now_left)
  pub closed : HasWholeFirstLine left now_ended

pub takes_line : (input : Option (List ℕ)) {left now_left : Option (List ℕ)} {ended now_ended : Bool} (taken : List (List ℕ)) {line : List ℕ} → TakesLines input left ended taken
    → ended ≡ false → NextLine line left now_left now_ended → TakesLines input now_left now_ended (taken ++ line ∷ [])
takes_line None taken t going next = tt
takes_line (Some input) {left = None} taken t going next = absurd (none-some t.0 t.1)
takes_line (Some input) {left = Some bs} {now_ended = now_ended} taken t going next =
    let found = next.given in
    let same = same_Some bs t.0 t.1 in (
      behind_first_line t.0,
      found.left_is ∙ ap (λ z. Some (behind_first_line z)) same,
      subst (λ (l : List ℕ). AreTaken input (behind_first_line t.0) now_ended (taken ++ l ∷ [])) (sym (found.line_is ∙ ap first_line same))
          (first_taken t.2 going (λ e. found.more (same ∙ e)) (subst (λ (z : List ℕ). Contains z 10 ⊎ (now_ended ≡ true)) same next.closed)),
    )

-- what a line that is too long takes: a line that is no message
pub record TakesNoMessage (input now_left : Option (List ℕ)) (now_ended : Bool) (taken : List (List ℕ)) : Type 0 where
  pub line : List ℕ
  pub no_message : message_of line ≡ None
  pub takes : TakesLines input now_left now_ended (taken ++ line ∷ [])

pub takes_long_line : {input : Option (List ℕ)} (left : Option (List ℕ)) {now_left : Option (List ℕ)} {ended now_ended : Bool} {taken : List (List ℕ)} → TakesLines input left ended taken
    → ended ≡ false → IfSome left (λ bs. PassesLine bs now_left) → HasWholeFirstLine left now_ended → TakesNoMessage input now_left now_ended taken
takes_long_line {input = None} left t going found closes =
    let long : List ℕ = replicate (suc LONGEST_LINE) 0 in
    record { line = long; no_message = sym (too_long long (omega (arith, length-replicate {A = ℕ} (suc LONGEST_LINE) 0))); takes = tt }
takes_long_line {input = Some input} None t going found closes = absurd (none-some t.0 t.1)
takes_long_line {input = Some input} (Some bs) {taken = taken} t going found closes = record {
  line = first_line bs;
  no_message = sym (too_long (first_line bs) found.long);
  takes = takes_line (Some input) taken t going
      (record { given = record { more = λ e. long_of_none bs found.long e; line_is = refl; left_is = found.left_is }; closed = closes });
}
  where
    long_of_none : (bs : List ℕ) → LONGEST_LINE < length (first_line bs) → bs ≡ [] → ⊥
    long_of_none bs long e = let short : length (first_line bs) ≡ 0 = ap (λ z. length (first_line z)) e in omega arith
