-- One step of a run, after those before it.
use Rattle.std.proofs.Common.{◌≡◌, ℕ, Bool, List, [], ◌∷◌, Result, Ok, Err, refl, ap, sym, subst, ◌∙◌, append-nil, false, true, Option}
use Rattle.std.specs.Prelude.{◌⊎◌, OnOk}
use Rattle.histories.specs.Crash.{to_append}
use Rattle.histories.specs.MachineState.{MachineState}
use Rattle.histories.specs.Events.{batch, touches_device, dispatches_or_returns}
use Rattle.histories.specs.Runs.{answers, arrives}
use Rattle.histories.specs.CoreState.{CoreState, Entry}
use Rattle.histories.specs.declared.outcomes.CoreFault.{CoreFault}
use Rattle.histories.specs.declared.outcomes.Outcome.{Outcome}
use Rattle.histories.specs.declared.outcomes.Outcome.TheVariants as outcomes
use Rattle.histories.specs.declared.outcomes.PointRefusal.{PointRefusal}
use Rattle.histories.specs.declared.outcomes.Step.{Step}
use Rattle.histories.specs.declared.outcomes.Step.TheVariants as steps
use Rattle.scheduler.proofs.MachineSteps.{core_holds, core_step}
use Rattle.scheduler.proofs.FailStop.{run_fails}
use Rattle.scheduler.proofs.HasRun.{one_leads, step_event}
use Rattle.scheduler.specs.DeviceEvents.{events_of}
use Rattle.scheduler.specs.Machine.{MachineView, machine_of}
use Rattle.scheduler.specs.IsMachineStep.{IsCoreStep, IsMachineStep}
use Rattle.scheduler.specs.declared.hands.HandContent.{HandContent}
use Rattle.protocol.specs.declared.replies.Reply.{Reply}
use Rattle.scheduler.specs.Calls.{CountsFailure, IsCallEvent, log_device_failed, checkpoint_device_failed}
use Rattle.scheduler.specs.CoreView.{CoreView, RecoversThroughout, core_state_of}
use Rattle.serving.specs.Checkpoints.{AreTimely, IsDue, IsTimely, trigger_after_event}
use Rattle.serving.specs.Lines.{Line, admitted, ticketed}
use Rattle.serving.specs.Progress.{ServingProgress}
use Rattle.serving.specs.Runs.{HandsHaveJobs, IsInternal, RunsBetween}
use Rattle.serving.specs.declared.checkpoints.CheckpointTrigger.{CheckpointTrigger}
use Rattle.serving.proofs.RunsBetween.{passes_on, told_as}
use Rattle.scheduler.proofs.IsCallEvent.{log_outcome, step_outcome}

module _ {keeps : Type 0} {old new : MachineView} {step : Step} {outcome : Outcome} (k : IsMachineStep keeps old new step outcome) where
  -- A step is a segment of a run.
  unfoldable pub step_passes : RunsBetween keeps old new (arrives step outcome) (answers outcome)
  step_passes = record {
    device_events = step_event k ∷ [];
    leads = one_leads k;
    arrived_are = append-nil (arrives step outcome);
    reply_pairs_are = append-nil (answers outcome);
  }

  pub step_in_time : (trigger : CheckpointTrigger) → IsTimely trigger (core_state_of old.core) outcome
      → AreTimely trigger (machine_of old) (events_of step_passes.device_events) (trigger_after_event trigger outcome)
  unfolding step_passes
  step_in_time trigger timely = (timely, refl)

-- In an event with this outcome no message is answered. It is timely in this core state, and counts one trigger on to the other.
abbrev pub IsQuiet : CheckpointTrigger → CoreState → Outcome → CheckpointTrigger → Type 0
IsQuiet trigger w outcome last = (answers outcome ≡ []) × IsTimely trigger w outcome × (trigger_after_event trigger outcome ≡ last)

-- A segment in which no message arrives and none is answered leaves what is known of the lines as it was.
unfoldable pub quiet_goes_on : {keeps : Type 0} {start old new : MachineView} {unsent : List Line} {input unread : Option (List ℕ)} {ended : Bool}
    {before written : Option (List ℕ)} → RunsBetween keeps old new [] [] → ServingProgress keeps start old unsent input unread ended before written
    → ServingProgress keeps start new unsent input unread ended before written
quiet_goes_on {keeps} {start} {new} p h =
    let arriving = ticketed start.core.next (admitted start.core.geometry h.consumed) in
    let reply_pairs = h.serving.reply_pairs in
    record {
      consumed = h.consumed;
      sent_lines = h.sent_lines;
      takes = h.takes;
      serving = record {
        reply_pairs = reply_pairs;
        segment = told_as (passes_on h.serving.segment p) (append-nil arriving) (append-nil reply_pairs);
        known = h.serving.known;
        answered = h.serving.answered;
      };
      output = h.output;
    }

-- A failed device stays failed.
pub still_failed : {keeps : Type 0} {old new : MachineView} {arriving : List Entry} {reply_pairs : List (ℕ × Reply)} → RunsBetween keeps old new arriving reply_pairs
    → old.core.failed ≡ true → new.core.failed ≡ true
still_failed {old} p failed =
    ap (λ (w : MachineState). w.core.failed) (sym p.leads.ends) ∙ run_fails old.core.geometry (machine_of old) _ p.leads.legal failed

-- A step of the core alone, in which nothing arrives or is answered, and nothing is dispatched or collected.
pub core_is_quiet : {keeps : Type 0} {old new : CoreView} {hands : List HandContent} {trigger last : CheckpointTrigger} (step : Step)
    (outcome : Outcome) → IsCoreStep keeps old new step outcome → dispatches_or_returns step ≡ false
    → arrives step outcome ≡ [] → IsQuiet trigger (core_state_of old) outcome last → HandsHaveJobs (record { core = old; hands = hands })
    → IsInternal keeps trigger last (record { core = old; hands = hands }) (record { core = new; hands = hands })
core_is_quiet {keeps} {old} {new} {hands} {trigger} step outcome k still none_come quiet h =
    let did = core_step keeps old new hands step outcome h k in
    record {
      holds = core_holds keeps old new hands step outcome h k still;
      segment = told_as (step_passes did) none_come quiet.0;
      in_time = subst (AreTimely trigger (machine_of (record { core = old; hands = hands })) (events_of (step_passes did).device_events)) quiet.2
          (step_in_time did trigger quiet.1);
    }

-- ---- logs, and steps of a point

-- the trigger after a cut with this result
abbrev pub after_cut : CheckpointTrigger → Result (Unit {0}) PointRefusal → CheckpointTrigger
after_cut trigger (Ok _) = record trigger { answered_since = 0 }
after_cut trigger (Err _) = trigger

module _ (trigger : CheckpointTrigger) (w : CoreState) where
  quiet_log : (r : Result ℕ CoreFault) → IsQuiet trigger w (log_outcome r) trigger
  quiet_log (Ok count) = (refl, tt, refl)
  quiet_log (Err why) = (refl, tt, refl)

  quiet_step : {T : Type 0} (made : T → Outcome) → ((x : T) → IsQuiet trigger w (made x) trigger) → (r : Result T PointRefusal)
      → IsQuiet trigger w (step_outcome made r) trigger
  quiet_step made none (Ok x) = none x
  quiet_step made none (Err why) = (refl, tt, refl)

  quiet_cut : (r : Result (Unit {0}) PointRefusal) → OnOk r (IsDue trigger w.pieces_left ⊎ (w.room ≡ 0))
      → IsQuiet trigger w (step_outcome (λ _. outcomes.Cut) r) (after_cut trigger r)
  quiet_cut (Ok x) reason = (refl, reason, refl)
  quiet_cut (Err why) reason = (refl, tt, refl)

-- ---- steps of the core that move no job

module _ (keeps : Type 0) (old new : CoreView) (geometry : new.geometry ≡ old.geometry) (trigger : CheckpointTrigger) where
  abbrev IsStepOf : Step → Outcome → Bool → CheckpointTrigger → Type 0
  IsStepOf step outcome device_failed last =
      IsCallEvent old.geometry (core_state_of old) (core_state_of new) step outcome device_failed → CountsFailure device_failed old.medium.faults new.medium.faults
      → (touches_device (core_state_of old) step ≡ false → new.medium ≡ old.medium)
      → (hands : List HandContent) → HandsHaveJobs (record { core = old; hands = hands })
      → IsInternal keeps trigger last (record { core = old; hands = hands }) (record { core = new; hands = hands })

  call_is_quiet : (step : Step) (outcome : Outcome) (device_failed : Bool) (last : CheckpointTrigger)
      → dispatches_or_returns step ≡ false → arrives step outcome ≡ [] → IsQuiet trigger (core_state_of old) outcome last
      → (keeps → RecoversThroughout (to_append (core_state_of old) step) old new) → IsStepOf step outcome device_failed last
  call_is_quiet step outcome device_failed last still come quiet moments called counts untouched hands h = core_is_quiet step outcome
      (record { device_failed = device_failed; called = called; geometry = geometry; failures = counts; untouched = untouched; any_moment = moments })
      still come quiet h

  pub log_is_quiet : (n : ℕ) (r : Result ℕ CoreFault) → (keeps → RecoversThroughout (batch (core_state_of old) n) old new)
      → IsStepOf (steps.Log n) (log_outcome r) (log_device_failed r) trigger
  log_is_quiet n r moments = call_is_quiet (steps.Log n) (log_outcome r) (log_device_failed r) _ refl refl (quiet_log trigger (core_state_of old) r) moments

  module _ (moments : keeps → RecoversThroughout [] old new) where
    pub point_is_quiet : (r : Result (Unit {0}) PointRefusal) → IsStepOf steps.Point (step_outcome (λ _. outcomes.Pointed) r) (checkpoint_device_failed r) trigger
    point_is_quiet r = call_is_quiet steps.Point _ (checkpoint_device_failed r) _ refl refl (quiet_step trigger (core_state_of old) (λ _. outcomes.Pointed) (λ _. (refl, tt, refl)) r) moments

    pub cut_is_quiet : (r : Result (Unit {0}) PointRefusal) → OnOk r (IsDue trigger old.pieces_left ⊎ (old.room ≡ 0))
        → IsStepOf steps.Cut (step_outcome (λ _. outcomes.Cut) r) (checkpoint_device_failed r) (after_cut trigger r)
    cut_is_quiet r reason = call_is_quiet steps.Cut _ (checkpoint_device_failed r) _ refl refl (quiet_cut trigger (core_state_of old) r reason) moments

    pub piece_is_quiet : (r : Result ℕ PointRefusal) → IsStepOf steps.Piece (step_outcome outcomes.Left r) (checkpoint_device_failed r) trigger
    piece_is_quiet r = call_is_quiet steps.Piece _ (checkpoint_device_failed r) _ refl refl (quiet_step trigger (core_state_of old) outcomes.Left (λ _. (refl, tt, refl)) r) moments

    pub flip_is_quiet : (r : Result (Unit {0}) PointRefusal) → IsStepOf steps.Flip (step_outcome (λ _. outcomes.Flipped) r) (checkpoint_device_failed r) trigger
    flip_is_quiet r = call_is_quiet steps.Flip _ (checkpoint_device_failed r) _ refl refl (quiet_step trigger (core_state_of old) (λ _. outcomes.Flipped) (λ _. (refl, tt, refl)) r) moments
