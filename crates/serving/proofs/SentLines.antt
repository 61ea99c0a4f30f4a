-- The answers to lines in the output, and what stays true of a session when some of its outstanding lines are sent.
use Rattle.std.proofs.Common.{◌≡◌, ℕ, ◌-◌, Bool, true, List, [], ◌++◌, Option, ap, sym, ◌∙◌, subst, map, length, take, drop, append-nil, append_assoc, arith}
use Rattle.std.specs.Prelude.{Result, Ok, Err, IfOk, MatchResult, OnOk}
use Rattle.std.proofs.lemmas.List.{nil_from_length, take-append-drop, map-append}
use Rattle.affinity.specs.declared.geometry.Geometry.{Geometry}
use Rattle.histories.specs.CoreState.{CoreState, Replied}
use Rattle.histories.specs.Events.{recorded}
use Rattle.histories.specs.declared.outcomes.CoreFault.{CoreFault}
use Rattle.meaning.specs.Step.{state_after_all}
use Rattle.scheduler.specs.Calls.{IsLogStep}
use Rattle.serving.specs.declared.session.Halted.{Halted}
use Rattle.std.proofs.KnownBytes.{Appends-trans}
use Rattle.std.specs.Io.KnownBytes.{Appends}
use Rattle.std.specs.List.{AllByRecursion}
use Rattle.meaning.proofs.OutputLemmas.{joined-append}
use Rattle.affinity.proofs.Elements.{all_join}
use Rattle.scheduler.specs.Machine.{MachineView}
use Rattle.serving.specs.Progress.{ServingProgress}
use Rattle.serving.specs.Lines.{Line, has_answer, answer_text}
use Rattle.meaning.specs.Output.{joined}

-- ---- the answers to lines

pub texts_both : (sent_lines more : List Line) → joined (map answer_text (sent_lines ++ more)) ≡ joined (map answer_text sent_lines) ++ joined (map answer_text more)
texts_both sent_lines more = ap joined (map-append answer_text sent_lines more) ∙ joined-append (map answer_text sent_lines) (map answer_text more)

-- ---- fewer lines outstanding

-- The first of the lines `old` have answers, which were written after `before`; the others are `new`.
pub record Sends (old new : List Line) (before written : Option (List ℕ)) : Type 0 where
  pub sent_lines : List Line
  pub were : old ≡ sent_lines ++ new
  pub have_answers : AllByRecursion (λ line. has_answer line ≡ true) sent_lines
  pub output : Appends before written (joined (map answer_text sent_lines))

-- The first of the lines that were not sent are sent now: the others are outstanding still.
unfoldable pub sends_on : {keeps : Type 0} {start m : MachineView} {unsent rest : List Line} {input unread : Option (List ℕ)} {ended : Bool} {before old now : Option (List ℕ)}
    → Sends unsent rest old now → ServingProgress keeps start m unsent input unread ended before old → ServingProgress keeps start m rest input unread ended before now
sends_on {rest} {before} {old} {now} sends h =
    let s = h.serving in
    record {
      consumed = h.consumed;
      sent_lines = h.sent_lines ++ sends.sent_lines;
      takes = h.takes;
      serving = record {
        reply_pairs = s.reply_pairs;
        segment = s.segment;
        known = rw (sends.were, ← append_assoc h.sent_lines sends.sent_lines rest) at s.known;
        answered = all_join (λ line. has_answer line ≡ true) h.sent_lines sends.sent_lines s.answered sends.have_answers;
      };
      output = rw (← texts_both h.sent_lines sends.sent_lines) at
          (Appends-trans before old now (joined (map answer_text h.sent_lines)) (joined (map answer_text sends.sent_lines)) h.output sends.output);
    }

-- ---- what is logged

-- Where the log took no message, nothing has changed.
pub log_of_none : (g : Geometry) (old new : CoreState) (n : ℕ) (r : Result ℕ CoreFault) → IsLogStep g old new n r → IfOk r (λ count. count ≡ 0 → new ≡ old)
log_of_none g old new n (Ok count) s = λ zero.
    let none : take n old.ran ≡ [] = nil_from_length (take n old.ran) (sym s.1 ∙ zero) in
    let same : drop n old.ran ≡ old.ran = ap (λ (l : List Replied). l ++ drop n old.ran) (sym none) ∙ take-append-drop n old.ran in
    let room : old.room - 0 ≡ old.room = omega arith in
    s.2 ∙ ap (λ (l : List Replied). record old {
      ran = drop n old.ran;
      logged = old.logged ++ l;
      committed = state_after_all g old.committed (recorded l);
      room = old.room - length (recorded l);
    }) none ∙ (λ i. record old { ran = same i; logged = append-nil old.logged i; room = room i })
log_of_none g old new n (Err e) s = tt

-- what follows at `Ok`
pub at_ok : {A E : Type 0} (P Q : A → Type 0) (r : Result A E) → ((x : A) → P x → Q x) → IfOk r P → IfOk r Q
at_ok P Q (Ok x) follows p = follows x p
at_ok P Q (Err e) follows p = tt

-- What a session makes of an answer of the core: where that is `Ok`, so is its own result.
pub or_halts : {A E : Type 0} (P : A → Type 0) (answer : Result A E) (result : Result A Halted) → MatchResult answer (λ x. result ≡ Ok x) (λ _. OnOk result ⊥)
    → IfOk answer P → IfOk result P
or_halts P (Ok x) result is k = subst (λ (r : Result _ Halted). IfOk r P) (sym is) k
or_halts P (Err e) (Ok y) is k = absurd is
or_halts P (Err e) (Err y) is k = tt
