-- A session of the serial server, from any state on: each step keeps `HasAnswered`, which at the end gives what was written.
use Rattle.std.proofs.Common.{◌≡◌, ◌≢◌, ℕ, Bool, false, List, [], ◌∷◌, ◌++◌, length, take, Option, Some, None, refl, sym, ap, ◌∙◌, subst, append_assoc, append-nil, ⊎_elim}
use Rattle.std.specs.Prelude.{IfSome}
use Rattle.std.specs.Io.KnownBytes.{Appends, append_known}
use Rattle.std.proofs.KnownBytes.{Appends-nil, Appends-trans}
use Rattle.std.proofs.lemmas.List.Elements.{recursion_from_All}
use Rattle.std.proofs.lemmas.Option.{none-some, same_Some}
use Rattle.std.proofs.lemmas.Bool.{true≢false}
use Rattle.affinity.specs.declared.geometry.Geometry.{Geometry}
use Rattle.protocol.specs.Lines.{lines}
use Rattle.protocol.specs.Grammar.{message_of}
use Rattle.protocol.specs.FirstLine.{GivesLine, PassesLine, HasWholeFirstLine, LosesLineStart}
use Rattle.meaning.specs.State.{State}
use Rattle.meaning.specs.Output.{answer_line, state_after_line, state_after_lines, output_lines, joined, serial_output, with_newlines, AnswersWholeLines, IsBeginning, WritesOutput}
use Rattle.meaning.specs.Progress.{HasAnswered}
use Rattle.meaning.proofs.OutputLemmas.{state_after_lines-append, joined-one_more, take-output_lines}
use Rattle.meaning.proofs.TakesLines.{takes_nothing, takes_line, takes_long_line}

appends_more : (a b c : Option (List ℕ)) (xs : List ℕ) → Appends a b xs → Appends b c [] → Appends a c xs
appends_more a b c xs h j = subst (λ (z : List ℕ). Appends a c z) (append-nil xs) (Appends-trans a b c xs [] h j)

-- ---- what waits

appends_bare : (old sent : Option (List ℕ)) (first rest w : List ℕ) → first ≡ [] → rest ≡ [] → Appends (append_known old first) (append_known sent rest) w → Appends old sent w
appends_bare None sent first rest w none_first none h = tt
appends_bare (Some xs) None first rest w none_first none h = absurd h
appends_bare (Some xs) (Some ys) first rest w none_first none h =
    sym (ap (λ z. ys ++ z) none ∙ append-nil ys) ∙ h ∙ ap (λ z. z ++ w) (ap (λ z. xs ++ z) none_first ∙ append-nil xs)

module _ (old mid sent : Option (List ℕ)) {first rest : List ℕ} (none_first : first ≡ []) (none : rest ≡ []) where
  -- nothing waited at the start, and what waited at the end was written
  pub writes_sent : (input : Option (List ℕ)) (P : List ℕ → List ℕ → Type 0) → WritesOutput input (append_known old first) mid P
      → Appends mid (append_known sent rest) [] → WritesOutput input old sent P
  writes_sent None P h kept = tt
  writes_sent (Some input) P h kept = (h.0, appends_bare old sent first rest h.0 none_first none (appends_more (append_known old first) mid (append_known sent rest) h.0 h.1 kept), h.2)

-- ---- how a session ends

-- nothing was left
pub ends : {g : Geometry} {start : State} {input left : Option (List ℕ)} {ended : Bool} {x : State} {old new : Option (List ℕ)}
    → HasAnswered g start input left ended x old new → IfSome left (λ bs. bs ≡ [])
    → WritesOutput input old new (λ bytes written. written ≡ serial_output g start bytes)
ends {input = None} h all = tt
ends {input = Some input} {left = None} h all = absurd (none-some h.taken.0 h.taken.1)
ends {g} {start} {input = Some input} {left = Some bs} h all =
    let t = h.taken.2 in
    let none_left : lines h.taken.0 ≡ [] = ap lines (sym (same_Some bs h.taken.0 h.taken.1) ∙ all) in
    (joined (output_lines g start h.answered), h.output, sym (ap (λ z. joined (output_lines g start z)) (t.to_come ∙ ap (λ z. h.answered ++ z) none_left ∙ append-nil h.answered)))

-- a read failed
pub fails : {g : Geometry} {start : State} {input left : Option (List ℕ)} {ended : Bool} {x : State} {old new : Option (List ℕ)} (now_left : Option (List ℕ))
    → HasAnswered g start input left ended x old new
    → ended ≡ false → IfSome left (λ bs. LosesLineStart bs now_left) → WritesOutput input old new (AnswersWholeLines g start now_left)
fails {input = None} now_left h going lost = tt
fails {input = Some input} {left = None} now_left h going lost = absurd (none-some h.taken.0 h.taken.1)
fails {g} {start} {input = Some input} {left = Some bs} now_left h going lost =
    let t = h.taken.2 in
    let same = same_Some bs h.taken.0 h.taken.1 in (
      joined (output_lines g start h.answered),
      h.output,
      record {
        whole = h.answered;
        begun = lost.got;
        rest = lost.rest;
        parts = ⊎_elim (λ e. absurd (true≢false (sym e ∙ going))) (λ whole. whole ∙ ap (λ z. with_newlines h.answered ++ z) (sym same ∙ lost.parts)
            ∙ sym (append_assoc (with_newlines h.answered) lost.got lost.rest)) t.whole;
        left_is = lost.left_is;
        are_lines = t.are_lines;
        no_line = recursion_from_All (λ b. b ≢ 10) lost.got lost.within_line;
        answered = refl;
      },
    )

-- the session stopped behind a line
pub stops_short : {g : Geometry} {start : State} {input left : Option (List ℕ)} {ended : Bool} {x : State} {old new : Option (List ℕ)} → HasAnswered g start input left ended x old new
    → WritesOutput input old new (IsBeginning g start)
stops_short {input = None} h = tt
stops_short {g} {start} {input = Some input} h =
    let t = h.taken.2 in (
      joined (output_lines g start h.answered),
      h.output,
      (length h.answered, sym (ap joined (ap (λ z. take (length h.answered) (output_lines g start z)) t.to_come ∙ take-output_lines g start h.answered (lines h.taken.0)))),
    )

-- ---- the steps

pub begins : {g : Geometry} {start : State} {input old : Option (List ℕ)} → HasAnswered g start input input false start old old
begins {g} {start} {input} {old} = record { answered = []; taken = takes_nothing input; state = refl; output = Appends-nil old }

module _ {g : Geometry} {start : State} {input left : Option (List ℕ)} {ended : Bool} {x : State} {old new : Option (List ℕ)} where
  -- what waits was written, or was not, and nothing else happened
  pub goes_on : {newer : Option (List ℕ)} → HasAnswered g start input left ended x old new → Appends new newer [] → HasAnswered g start input left ended x old newer
  goes_on {newer} h j = record { answered = h.answered; taken = h.taken; state = h.state; output = appends_more old new newer (joined (output_lines g start h.answered)) h.output j }

  -- a line was answered
  pub answers_line : {newer now_left : Option (List ℕ)} {y : State} {now_ended : Bool} (line : List ℕ) {added : List ℕ} → HasAnswered g start input left ended x old new → ended ≡ false
      → IfSome left (λ bs. GivesLine line bs now_left) → HasWholeFirstLine left now_ended
      → y ≡ state_after_line g x (message_of line) → added ≡ answer_line g x (message_of line) → Appends new newer added
      → HasAnswered g start input now_left now_ended y old newer
  answers_line {newer} line {added} h going found closes state output appended = record {
    answered = h.answered ++ line ∷ [];
    taken = takes_line input h.answered h.taken going (record { given = found; closed = closes });
    state = state ∙ ap (λ z. state_after_line g z (message_of line)) h.state ∙ sym (state_after_lines-append g start h.answered (line ∷ []));
    output = subst (λ (z : List ℕ). Appends old newer z)
        (ap (λ z. joined (output_lines g start h.answered) ++ z) (output ∙ ap (λ z. answer_line g z (message_of line)) h.state) ∙ sym (joined-one_more g start h.answered line))
        (Appends-trans old new newer (joined (output_lines g start h.answered)) added h.output appended);
  }

  -- a line that is too long was answered
  pub answers_long_line : {newer now_left : Option (List ℕ)} {now_ended : Bool} {added : List ℕ} → HasAnswered g start input left ended x old new → ended ≡ false
      → IfSome left (λ bs. PassesLine bs now_left) → HasWholeFirstLine left now_ended
      → added ≡ answer_line g x None → Appends new newer added
      → HasAnswered g start input now_left now_ended x old newer
  answers_long_line {newer} {added = added} h going found closes output appended =
      let t = takes_long_line left h.taken going found closes in
      record {
        answered = h.answered ++ t.line ∷ [];
        taken = t.takes;
        state = h.state ∙ sym (state_after_lines-append g start h.answered (t.line ∷ []) ∙ ap (state_after_line g (state_after_lines g start h.answered)) t.no_message);
        output = subst (λ (z : List ℕ). Appends old newer z)
            (ap (λ z. joined (output_lines g start h.answered) ++ z) (output ∙ ap (λ z. answer_line g z None) h.state
            ∙ sym (ap (answer_line g (state_after_lines g start h.answered)) t.no_message)) ∙ sym (joined-one_more g start h.answered t.line))
            (Appends-trans old new newer (joined (output_lines g start h.answered)) added h.output appended);
      }
