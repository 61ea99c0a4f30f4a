-- What the serial server of a device does: its answers are the output that is told elsewhere, and lines that are not in conflict commute.
use Rattle.std.proofs.Common.{◌≡◌, ◌&&◌, ℕ, Bool, true, false, List, [], ◌∷◌, Option, Some, None, ap, refl, sym, ◌∙◌}
use Rattle.affinity.specs.declared.geometry.Geometry.{Geometry}
use Rattle.affinity.specs.Path.{are_related}
use Rattle.protocol.specs.Grammar.{message_of}
use Rattle.protocol.specs.Messages.{is_in_range, path_of}
use Rattle.protocol.specs.Replies.{reply_line}
use Rattle.protocol.specs.declared.messages.Msg.{Msg}
use Rattle.meaning.proofs.Commute.{commute}
use Rattle.meaning.specs.Output.{answer_line, output_lines, state_after_line, state_after_lines}
use Rattle.meaning.specs.State.{State}
use Rattle.meaning.specs.Step.{reply_to, next_state}
use Rattle.serving.proofs.HaveSerialReplies.{out_of_range}
use Rattle.meaning.specs.ClosedPart.{are_in_conflict, are_related_lines}
use Rattle.serving.specs.AnyRuns.{AreAnsweredBy, Operation, after, answers_in, lines_in}
use Rattle.serving.specs.SerialServer.{server_in}

pub answers_are : (g : Geometry) (x : State) (os : List Operation) → AreAnsweredBy (server_in g x) os → answers_in os ≡ output_lines g x (lines_in os)
answers_are g x [] h = refl
answers_are g x (o ∷ os) h = λ i. h.0 i ∷ answers_are g (state_after_line g x (message_of o.line)) os h.1 i

-- ---- two lines in either order

-- The first gets the same answer behind the other one, and the state after both is the same.
record MayChange (g : Geometry) (x : State) (m n : Option Msg) : Type 0 where
  pub answer : answer_line g (state_after_line g x n) m ≡ answer_line g x m
  pub state : state_after_line g (state_after_line g x m) n ≡ state_after_line g (state_after_line g x n) m

-- A message that is out of range changes nothing, and gets one reply.
module _ (g : Geometry) (x : State) (m n : Msg) where
  first_out : is_in_range g m ≡ false → MayChange g x (Some m) (Some n)
  first_out out = record {
    answer = ap reply_line ((out_of_range g (next_state g x n) m out).0 ∙ sym (out_of_range g x m out).0);
    state = ap (λ (y : State). next_state g y n) (out_of_range g x m out).1 ∙ sym (out_of_range g (next_state g x n) m out).1;
  }

  second_out : is_in_range g n ≡ false → MayChange g x (Some m) (Some n)
  second_out out = record {
    answer = ap (λ (y : State). reply_line (reply_to g y m)) (out_of_range g x n out).1;
    state = (out_of_range g (next_state g x m) n out).1 ∙ sym (ap (λ (y : State). next_state g y m) (out_of_range g x n out).1);
  }

  apart : are_related (path_of g m) (path_of g n) ≡ false → MayChange g x (Some m) (Some n)
  apart h = let c = commute g x m n h in record { answer = ap reply_line c.first; state = c.state }

  may_change : (a b : Bool) → is_in_range g m ≡ a → is_in_range g n ≡ b → a && b && are_related (path_of g m) (path_of g n) ≡ false → MayChange g x (Some m) (Some n)
  may_change false b out inside h = first_out out
  may_change true false inside out h = second_out out
  may_change true true inside also h = apart h

lines_may_change : (g : Geometry) (x : State) (m n : Option Msg) → are_related_lines g m n ≡ false → MayChange g x m n
lines_may_change g x None n h = record { answer = refl; state = refl }
lines_may_change g x (Some m) None h = record { answer = refl; state = refl }
lines_may_change g x (Some m) (Some n) h = may_change g x m n (is_in_range g m) (is_in_range g n) refl refl h

pub lines_commute : (g : Geometry) (x : State) (line other : List ℕ) → are_in_conflict g line other ≡ false
    → (server_in g x (other ∷ []) line ≡ server_in g x [] line) × (after (line ∷ other ∷ []) (server_in g x) ≡ after (other ∷ line ∷ []) (server_in g x))
lines_commute g x line other h =
    let may = lines_may_change g x (message_of line) (message_of other) h in
    (may.answer, λ i before l. answer_line g (state_after_lines g (may.state i) before) (message_of l))
