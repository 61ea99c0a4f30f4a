-- Each call of a core, with what it returns, is an event of a legal run.
use Rattle.std.proofs.Common.{◌≡◌, ℕ, ◌<◌, ◌≤◌, zero, suc, Bool, false, List, length, take, Option, Some, None, Result, Ok, Err, refl, ap, sym, ◌∙◌, arith}
use Rattle.std.specs.Prelude.{if◌then◌else◌, is_none, not}
use Rattle.std.proofs.lemmas.Bool.{and_from, lt-ltb, not_from_false}
use Rattle.affinity.specs.declared.geometry.Geometry.{Geometry}
use Rattle.image.specs.Pieces.{piece_count}
use Rattle.histories.specs.declared.outcomes.Step.{Step}
use Rattle.histories.specs.Events.{IsWithoutFault, apply_step, answer, arrive, batch, pieces_after, flip_refusal, all_pieces_written, log, piece_refusal, point_refusal, unless_refused}
use Rattle.histories.specs.MachineState.{Hand, MachineState}
use Rattle.histories.specs.CoreState.{CoreState}
use Rattle.histories.specs.declared.outcomes.ArriveRefusal.{ArriveRefusal}
use Rattle.histories.specs.declared.outcomes.CoreFault.{CoreFault}
use Rattle.histories.specs.declared.outcomes.CoreFault.TheVariants as faults
use Rattle.histories.specs.declared.outcomes.Outcome.{Outcome}
use Rattle.histories.specs.declared.outcomes.Outcome.TheVariants as outcomes
use Rattle.histories.specs.declared.outcomes.PointRefusal.{PointRefusal}
use Rattle.histories.specs.declared.outcomes.PointRefusal.TheVariants as points
use Rattle.histories.specs.declared.outcomes.Step.TheVariants as steps
use Rattle.protocol.specs.declared.messages.Msg.{Msg}
use Rattle.protocol.specs.declared.replies.Reply.{Reply}
use Rattle.scheduler.specs.Calls.{IsCallEvent, IsLogStep, IsPieceStep, IsCheckpointStep, answer_outcome, arrive_outcome, log_device_failed, checkpoint_device_failed}

-- the outcome of a step by the result of the core's call of `log`
abbrev pub log_outcome : Result ℕ CoreFault → Outcome
log_outcome (Ok count) = outcomes.Logged count
log_outcome (Err why) = outcomes.LogFault why

-- the outcome of a step of a checkpoint, by the result of the core's call: `made x` if it gave x, else the refusal
abbrev pub step_outcome : {T : Type 0} → (T → Outcome) → Result T PointRefusal → Outcome
step_outcome made (Ok x) = made x
step_outcome made (Err why) = outcomes.PointRefused why

abbrev In : CoreState → List Hand → MachineState
In w hands = record { core = w; hands = hands }

module _ (g : Geometry) (old new : CoreState) where
  -- a step that begins no online checkpoint
  goes : {hands : List Hand} (step : Step) (outcome : Outcome) → apply_step g 0 (In old hands) step ≡ (outcome, In new hands)
      → IsWithoutFault g (In old hands) (record { step = step; outcome = outcome; device_failed = false; state_after = In new hands })
  goes step outcome does = record { to_write = 0; at_most = omega arith; does = does }

  pub arrive_called : (m : Msg) (r : Result ℕ ArriveRefusal) → (arrive_outcome r, new) ≡ arrive g old m
      → IsCallEvent g old new (steps.Arrive m) (arrive_outcome r) false
  arrive_called m r e hands = goes (steps.Arrive m) (arrive_outcome r) (ap (λ (x : Outcome × CoreState). (x.0, In x.1 hands)) (sym e))

  pub answer_called : (r : Option (ℕ × Reply)) → (answer_outcome r, new) ≡ answer old old.logged → IsCallEvent g old new steps.Answer (answer_outcome r) false
  answer_called r e hands = goes steps.Answer (answer_outcome r) (ap (λ (x : Outcome × CoreState). (x.0, In x.1 hands)) (sym e))

  -- the outcome of a log step and the core state after it, by whether it is refused (b)
  abbrev log_if : ℕ → Bool → Outcome × CoreState
  log_if n b = if b then (outcomes.LogFault faults.Failed, old) else (outcomes.Logged (length (take n old.ran)), log g old n)

  pub log_called : (n : ℕ) (r : Result ℕ CoreFault) → IsLogStep g old new n r → IsCallEvent g old new (steps.Log n) (log_outcome r) (log_device_failed r)
  log_called n (Ok count) h hands = goes (steps.Log n) (outcomes.Logged count)
      (ap (λ (b : Bool). ((log_if n b).0, In (log_if n b).1 hands)) h.0 ∙ (λ i. (outcomes.Logged (sym h.1 i), In (sym h.2 i) hands)))
  log_called n (Err faults.Device) h hands = record {
    touched = and_from (not old.failed) _ (not_from_false old.failed h.0) (lt-ltb 0 (length (batch old n)) (some (length (batch old n)) h.1));
    core = λ i. (outcomes.LogFault faults.Device, sym h.2 i);
    hands = refl;
  }
    where
      some : (k : ℕ) → (k ≡ 0 → ⊥) → 0 < k
      some zero not_none = absurd (not_none refl)
      some (suc k) not_none = omega arith
  log_called n (Err faults.Failed) h hands = goes (steps.Log n) (outcomes.LogFault faults.Failed)
      (ap (λ (b : Bool). ((log_if n b).0, In (log_if n b).1 hands)) h.0 ∙ (λ i. (outcomes.LogFault faults.Failed, In (sym h.1 i) hands)))

  -- the event of a step that is refused for a reason, if there is one
  abbrev By : List Hand → Option PointRefusal → Outcome × CoreState → Outcome × MachineState
  By hands why made = ((unless_refused old why made).0, In (unless_refused old why made).1 hands)

  refused : (hands : List Hand) (why : Option PointRefusal) (made : Outcome × CoreState) (refusal : PointRefusal) → why ≡ Some refusal
      → new ≡ old → By hands why made ≡ (outcomes.PointRefused refusal, In new hands)
  refused hands why made refusal e same = ap (λ o. By hands o made) e ∙ (λ i. (outcomes.PointRefused refusal, In (sym same i) hands))

  carried : (hands : List Hand) (why : Option PointRefusal) (outcome : Outcome) (made : CoreState) → why ≡ None → new ≡ made
      → By hands why (outcome, made) ≡ (outcome, In new hands)
  carried hands why outcome made e is = ap (λ o. By hands o (outcome, made)) e ∙ (λ i. (outcome, In (sym is i) hands))

  pub point_called : (r : Result (Unit {0}) PointRefusal) → IsCheckpointStep old new (point_refusal old) (new ≡ record old { room = g.half }) r
      → IsCallEvent g old new steps.Point (step_outcome (λ _. outcomes.Pointed) r) (checkpoint_device_failed r)
  point_called (Ok u) h hands = record { to_write = 0; at_most = omega arith; does = carried hands (point_refusal old) outcomes.Pointed _ h.0 h.1 }
  point_called (Err points.Device) h hands =
      record { touched = ap is_none h.0; core = λ i. (outcomes.PointRefused points.Device, sym h.1 i); hands = refl }
  point_called (Err why) h hands = record { to_write = 0; at_most = omega arith; does = refused hands (point_refusal old) _ why h.0 h.1 }

  abbrev HasCut : Type 0
  HasCut = (n : ℕ) × (n ≤ piece_count g) × (new ≡ record old { room = g.half; pieces_left = Some n })

  pub cut_called : (r : Result (Unit {0}) PointRefusal) → IsCheckpointStep old new (point_refusal old) HasCut r
      → IsCallEvent g old new steps.Cut (step_outcome (λ _. outcomes.Cut) r) (checkpoint_device_failed r)
  cut_called (Ok u) h hands = record { to_write = h.1.0; at_most = h.1.1; does = carried hands (point_refusal old) outcomes.Cut _ h.0 h.1.2 }
  cut_called (Err points.Device) h hands =
      record { touched = ap is_none h.0; core = λ i. (outcomes.PointRefused points.Device, sym h.1 i); hands = refl }
  cut_called (Err why) h hands = record { to_write = 0; at_most = omega arith; does = refused hands (point_refusal old) _ why h.0 h.1 }

  pub piece_called : (r : Result ℕ PointRefusal) → IsPieceStep old new r → IsCallEvent g old new steps.Piece (step_outcome outcomes.Left r) (checkpoint_device_failed r)
  piece_called (Ok n) h hands = goes steps.Piece (outcomes.Left n)
      (ap (λ o. By hands o (outcomes.Left (pieces_after old.pieces_left), record old { pieces_left = Some (pieces_after old.pieces_left) })) h.0
      ∙ (λ i. (outcomes.Left (sym h.1 i), In (record old { pieces_left = Some (sym h.1 i) }) hands))
      ∙ (λ i. (outcomes.Left n, In (sym h.2 i) hands)))
  piece_called (Err points.Device) h hands = record {
    touched = and_from (is_none (piece_refusal old)) _ (ap is_none h.0) (not_from_false (all_pieces_written old.pieces_left) h.1);
    core = λ i. (outcomes.PointRefused points.Device, sym h.2 i);
    hands = refl;
  }
  piece_called (Err why) h hands = record { to_write = 0; at_most = omega arith; does = refused hands (piece_refusal old) _ why h.0 h.1 }

  pub flip_called : (r : Result (Unit {0}) PointRefusal) → IsCheckpointStep old new (flip_refusal old) (new ≡ record old { pieces_left = None }) r
      → IsCallEvent g old new steps.Flip (step_outcome (λ _. outcomes.Flipped) r) (checkpoint_device_failed r)
  flip_called (Ok u) h hands = record { to_write = 0; at_most = omega arith; does = carried hands (flip_refusal old) outcomes.Flipped _ h.0 h.1 }
  flip_called (Err points.Device) h hands =
      record { touched = ap is_none h.0; core = λ i. (outcomes.PointRefused points.Device, sym h.1 i); hands = refl }
  flip_called (Err why) h hands = record { to_write = 0; at_most = omega arith; does = refused hands (flip_refusal old) _ why h.0 h.1 }
