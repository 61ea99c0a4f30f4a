-- Each run of a server, with the crash behind it, was a try to send lines; so sending them again heals.
use Rattle.std.proofs.Common.{arith, ◌≡◌, ℕ, ◌≤◌, false, List, [], ◌∷◌, ◌++◌, Option, Some, None, refl, ap, sym, ◌∙◌, subst, inl, inr, ⊎_elim, length, take, drop, append_assoc, take-append-drop}
use Rattle.std.specs.List.{AllByRecursion}
use Rattle.std.proofs.lemmas.List.{drop-append-le}
use Rattle.affinity.specs.declared.geometry.Geometry.{Geometry}
use Rattle.protocol.proofs.Newlines.{both, in_reply, newlines}
use Rattle.protocol.specs.Grammar.{message_of}
use Rattle.protocol.specs.Replies.{reply_text}
use Rattle.protocol.specs.declared.messages.Msg.{Msg}
use Rattle.meaning.proofs.OutputLemmas.{state_after_lines-append}
use Rattle.meaning.proofs.SendingAgain.{sending_again_heals}
use Rattle.meaning.specs.ClosedPart.{IsClosedPart, are_in_conflict}
use Rattle.meaning.specs.Output.{answer_line, joined, output_lines, state_after_line, state_after_lines}
use Rattle.meaning.specs.SendingAgain.{AreAccepted, AreTries, HaveSpace, Try, lines_done}
use Rattle.meaning.specs.State.{IsState, State}
use Rattle.meaning.specs.Step.{reply_to}
use Rattle.serving.proofs.RecoversWritten.{none_there}
use Rattle.serving.specs.AnyRuns.{AreAnsweredBy, EachServes, Operation, Run, Server, after, answers_in, lines_in}
use Rattle.commands.specs.SendsAgain.{SendsAgain, answers_out, last_device}
use Rattle.serving.specs.SerialServer.{server_in}
use Rattle.serving.proofs.SerialServer.{server_after}
use Rattle.commands.proofs.SerialServer.{answers_are}

-- ---- closed parts

closed_in_more : (g : Geometry) (part ls more : List (List ℕ)) → IsClosedPart g part ls → IsClosedPart g part (ls ++ more)
closed_in_more g part [] more h = subst (λ p. IsClosedPart g p more) (sym h) (none_there g more)
closed_in_more g part (line ∷ ls) more h = ⊎_elim
    (λ (k : (rest : List (List ℕ)) × (part ≡ line ∷ rest) × IsClosedPart g rest ls). inl (k.0, k.1, closed_in_more g k.0 ls more k.2))
    (λ (k : AllByRecursion (λ other. are_in_conflict g line other ≡ false) part × IsClosedPart g part ls).
    inr (k.0, closed_in_more g part ls more k.1))
    h

closed_in_all : (g : Geometry) (n : ℕ) (part ls more : List (List ℕ)) → IsClosedPart g part (take n ls) → IsClosedPart g part (ls ++ more)
closed_in_all g n part ls more h = subst (IsClosedPart g part) (sym (append_assoc (take n ls) (drop n ls) more) ∙ ap (λ (l : List (List ℕ)). l ++ more) (take-append-drop n ls))
    (closed_in_more g part (take n ls) (drop n ls ++ more) h)

closed_behind : (g : Geometry) (first part ls : List (List ℕ)) → IsClosedPart g part ls → IsClosedPart g (first ++ part) (first ++ ls)
closed_behind g [] part ls h = h
closed_behind g (line ∷ first) part ls h = inl (first ++ part, refl, closed_behind g first part ls h)

-- ---- operations

lines_in-append : (os ps : List Operation) → lines_in (os ++ ps) ≡ lines_in os ++ lines_in ps
lines_in-append [] ps = refl
lines_in-append (o ∷ os) ps = ap (λ (ls : List (List ℕ)). o.line ∷ ls) (lines_in-append os ps)

first_answered : (server : Server) (os ps : List Operation) → AreAnsweredBy server (os ++ ps) → AreAnsweredBy server os
first_answered server [] ps h = tt
first_answered server (o ∷ os) ps h = (h.0, first_answered (after (o.line ∷ []) server) os ps h.1)

-- ---- how many answers came out

in_answer : (g : Geometry) (x : State) (o : Option Msg) → newlines (answer_line g x o) ≤ 1
in_answer g x None = omega arith
in_answer g x (Some m) = let all = both (reply_text (reply_to g x m)) (10 ∷ []) in let none = in_reply (reply_to g x m) in omega (arith, all, none)

in_answers : (g : Geometry) (x : State) (ls : List (List ℕ)) → newlines (joined (output_lines g x ls)) ≤ length ls
in_answers g x [] = omega arith
in_answers g x (line ∷ ls) =
    let y = state_after_line g x (message_of line) in
    let all = both (answer_line g x (message_of line)) (joined (output_lines g y ls)) in
    let one = in_answer g x (message_of line) in
    let more = in_answers g y ls in
    omega (arith, all, one, more)

-- At most so many came out of a run as it answered lines.
few_came_out : (g : Geometry) (x : State) (answered : List Operation) (out missing : List ℕ) → AreAnsweredBy (server_in g x) answered
    → joined (answers_in answered) ≡ out ++ missing → newlines out ≤ length (lines_in answered)
few_came_out g x answered out missing are meant =
    let all = both out missing in
    let whole : newlines (joined (output_lines g x (lines_in answered))) ≡ newlines (out ++ missing)
    = ap newlines (ap joined (sym (answers_are g x answered are)) ∙ meant) in
    let most = in_answers g x (lines_in answered) in
    omega (arith, all, whole, most)

-- ---- the runs are tries

pub record Tried (g : Geometry) (recover : List ℕ → Option Server) (start : State) (last : List ℕ) (ls left : List (List ℕ)) : Type 0 where
  pub tries : List Try
  pub are_tries : AreTries g tries ls left
  pub now : State
  pub recovered : recover last ≡ Some (server_in g now)
  pub state : now ≡ state_after_lines g start (lines_done tries)

-- What a run did is cut behind the n answers that came out: as many lines, then a part of the others.
module _ (g : Geometry) (start : State) (n : ℕ) (answered part : List (List ℕ)) where
  abbrev try : Try
  try = record { answered = take n answered; part = drop n answered ++ part }

  cut : (behind : List (List ℕ)) → answered ++ behind ≡ take n answered ++ (drop n answered ++ behind)
  cut behind = ap (λ (l : List (List ℕ)). l ++ behind) (sym (take-append-drop n answered)) ∙ append_assoc (take n answered) (drop n answered) behind

  then_done : (later : List Try) → state_after_lines g (state_after_lines g start (answered ++ part)) (lines_done later) ≡ state_after_lines g start (lines_done (try ∷ later))
  then_done later = ap (λ (ls : List (List ℕ)). state_after_lines g (state_after_lines g start ls) (lines_done later)) (cut part)
      ∙ sym (state_after_lines-append g start (try.answered ++ try.part) (lines_done later))

module _ (g : Geometry) (recover : List ℕ → Option Server) where
  pub tried : (start : State) (device : List ℕ) (runs : List Run) (ls left : List (List ℕ))
      → recover device ≡ Some (server_in g start) → EachServes recover (are_in_conflict g) device runs → SendsAgain runs ls left
      → Tried g recover start (last_device device runs) ls left
  tried start device [] ls left is each sent = record { tries = []; are_tries = sent; now = start; recovered = is; state = refl }
  tried start device (run ∷ runs) ls left is each sent =
      let h = each.0 (server_in g start) is in
      let answered : List Operation = h.0 in
      let made : List Operation = h.1 in
      let d = h.2 in
      let n = answers_out run in
      let ack = lines_in answered in
      let part = lines_in made in
      let un = d.unanswered ++ sent.0 in
      let now = state_after_lines g start (ack ++ part) in
      let goes_on : recover run.left ≡ Some (server_in g now)
      = h.4 ∙ ap (λ (s : Server). Some s) (ap (λ (l : List (List ℕ)). after l (server_in g start)) (lines_in-append answered made) ∙ sym (server_after g start (ack ++ part))) in
      let parts : ls ≡ ack ++ un = sent.1 ∙ ap (λ (l : List (List ℕ)). l ++ sent.0) d.first ∙ append_assoc ack d.unanswered sent.0 in
      let few = few_came_out g start answered run.out d.missing (first_answered (server_in g start) answered made h.3) d.out in
      let left_over : List (List ℕ) = drop n ack ++ un in
      let dropped : drop n ls ≡ left_over = ap (λ (l : List (List ℕ)). drop n l) parts ∙ drop-append-le n ack un few in
      let next = tried now run.left runs left_over left goes_on each.1 (subst (λ l. SendsAgain runs l left) dropped sent.2) in
      let closed = closed_behind g (drop n ack) part un (closed_in_all g d.read part d.unanswered sent.0 d.part) in
      record {
        tries = try g start n ack part ∷ next.tries;
        are_tries = (left_over, parts ∙ cut g start n ack part un, closed, next.are_tries);
        now = next.now;
        recovered = next.recovered;
        state = next.state ∙ then_done g start n ack part next.tries;
      }

module _ (g : Geometry) (recover : List ℕ → Option Server) (start : State) (device : List ℕ) (runs : List Run) (ls left : List (List ℕ)) where
  pub heals : recover device ≡ Some (server_in g start) → EachServes recover (are_in_conflict g) device runs → IsState g start → AreAccepted g start ls → HaveSpace g start ls
      → SendsAgain runs ls left → (server : Server) × (recover (last_device device runs) ≡ Some server) × (after left server ≡ after ls (server_in g start))
  heals is each possible accepted room sent =
      let t = tried g recover start device runs ls left is each sent in (
        server_in g t.now,
        t.recovered,
        sym (server_after g t.now left) ∙ ap (server_in g) (ap (λ x. state_after_lines g x left) t.state ∙ sym (state_after_lines-append g start (lines_done t.tries) left)
            ∙ sending_again_heals g start ls t.tries left possible accepted room t.are_tries) ∙ server_after g start ls,
      )
