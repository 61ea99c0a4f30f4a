-- A server that has answered some first lines, and whose device recovers to them and a part of the next ones, has kept its promise.
use Rattle.std.proofs.Common.{◌≡◌, ◌≤◌, ℕ, ◌+◌, true, false, List, [], ◌++◌, Option, Some, None, ap, sym, ◌∙◌, subst, append-nil, take, arith}
use Rattle.std.specs.Io.KnownBytes.{Appends}
use Rattle.std.specs.Option.{option_map}
use Rattle.std.proofs.lemmas.List.{append_cancel_left}
use Rattle.std.proofs.lemmas.Option.{same_Some}
use Rattle.affinity.specs.declared.geometry.Geometry.{Geometry}
use Rattle.protocol.proofs.Newlines.{newlines}
use Rattle.recovery.specs.Recovery.{recovered_state}
use Rattle.meaning.specs.ClosedPart.{IsClosedPart, are_in_conflict}
use Rattle.meaning.specs.Output.{joined, state_after_lines}
use Rattle.meaning.specs.State.{State}
use Rattle.serving.specs.AnyRuns.{AreAnsweredBy, KeepsPromise, Run, Server, Serves, lines_in}
use Rattle.serving.specs.Restart.{RecoversTo}
use Rattle.serving.specs.SerialServer.{server_in, server_on}
use Rattle.serving.proofs.RecoversWritten.{RecoversWritten}
use Rattle.serving.proofs.SerialServer.{answers_in-served, lines_in-served, served, served-append, served_answered, server_after}

pub has_all : (all : Option (List ℕ)) (before out : List ℕ) → Appends (Some before) all out → all ≡ Some (before ++ out)
has_all None before out h = absurd h
has_all (Some all) before out h = ap (λ (bs : List ℕ). Some bs) h

-- Where output has grown by two lists of bytes, they are one.
pub grown_once : (before : List ℕ) (all : Option (List ℕ)) (out other : List ℕ) → Appends (Some before) all out → Appends (Some before) all other → out ≡ other
grown_once before all out other one two = append_cancel_left before out other (same_Some _ _ (sym (has_all all before out one) ∙ has_all all before other two))

-- A run from a state to one that it recovers to: `missing` is what did not come out of its answers.
module _ (g : Geometry) (x : State) (run : Run) {n : ℕ} {now : State} {answers : List ℕ} (r : RecoversTo g n x now run.input answers) where
  pub serves : (missing : List ℕ) → answers ≡ run.out ++ missing → newlines missing + n ≤ run.slots
      → (run.finished ≡ true → (missing ≡ []) × (r.unacknowledged ≡ [])) → recovered_state g run.left ≡ Some now
      → Serves (server_on g) (are_in_conflict g) (server_in g x) run
  serves missing parts few finished holds =
      let ack = r.acknowledged in
      let answered = served g x ack in
      let made = served g (state_after_lines g x ack) r.part in
      let are : lines_in (answered ++ made) ≡ ack ++ r.part = ap lines_in (served-append g x ack r.part) ∙ lines_in-served g x (ack ++ r.part) in (
        answered,
        made,
        record {
          missing = missing;
          unanswered = r.unacknowledged;
          out = ap joined (answers_in-served g x ack) ∙ sym r.answers ∙ parts;
          first = r.first ∙ ap (λ (ls : List (List ℕ)). ls ++ r.unacknowledged) (sym (lines_in-served g x ack));
          finished = finished;
          read = n;
          few = few;
          part = subst (λ (ls : List (List ℕ)). IsClosedPart g ls (take n r.unacknowledged)) (sym (lines_in-served g (state_after_lines g x ack) r.part)) r.closed;
        },
        subst (AreAnsweredBy (server_in g x)) (sym (served-append g x ack r.part)) (served_answered g x (ack ++ r.part)),
        ap (option_map (server_in g)) holds ∙ ap (λ (s : Server). Some s)
            (ap (server_in g) (r.state ∙ ap (state_after_lines g x) (sym are)) ∙ server_after g x (lines_in (answered ++ made))),
      )

-- The input is known.
pub serves_known : (g : Geometry) (x : State) (run : Run) → Serves (server_on g) (are_in_conflict g) (server_in g x) run → (bytes : List ℕ) → Some run.input ≡ Some bytes
    → Serves (server_on g) (are_in_conflict g) (server_in g x) (record run { input = bytes })
serves_known g x run h bytes is = subst (λ (i : List ℕ). Serves (server_on g) (are_in_conflict g) (server_in g x) (record run { input = i })) (same_Some _ _ is) h

-- A run that is killed: its output holds a beginning of its answers.
module _ (g : Geometry) (slots : ℕ) (x : State) (c : List ℕ) where
  abbrev pub Keeps : Option (List ℕ) → Option (List ℕ) → Option (List ℕ) → Type 0
  Keeps input before written = KeepsPromise (server_on g) (are_in_conflict g) (server_in g x) slots input false before written c

  abbrev killed : List ℕ → List ℕ → Run
  killed input out = record { slots = slots; input = input; out = out; finished = false; left = c }

  pub keeps_written : (input before written : Option (List ℕ)) → RecoversWritten g slots x input before written c → Keeps input before written
  keeps_written None before written w = record {
    out = w.2.2.0;
    grown = w.2.2.3;
    now = server_in g w.3.now;
    holds = ap (option_map (server_in g)) w.3.holds_now;
    serves = λ bytes is. cc is;
  }
  keeps_written (Some input) None written w =
      let out = w.3.recovers.0 in
      let within = w.2.3 in
      record {
        out = out;
        grown = tt;
        now = server_in g w.3.now;
        holds = ap (option_map (server_in g)) w.3.holds_now;
        serves = serves_known g x (killed input out) (serves g x (killed input out) w.3.recovers.2 [] (sym (append-nil out)) (omega (arith, within)) (λ ends. cc ends) w.3.holds_now);
      }
  keeps_written (Some input) (Some held) written w =
      let begun = w.2.2 in
      let answers = w.3.recovers.0 in
      let within = w.2.3 in
      let same : answers ≡ w.2.0 = grown_once held w.1 answers w.2.0 w.3.recovers.1 w.2.1 in
      record {
        out = begun.0;
        grown = begun.3;
        now = server_in g w.3.now;
        holds = ap (option_map (server_in g)) w.3.holds_now;
        serves = serves_known g x (killed input begun.0) (serves g x (killed input begun.0) w.3.recovers.2 begun.1 (same ∙ begun.2) (omega (arith, within)) (λ ends. cc ends) w.3.holds_now);
      }
