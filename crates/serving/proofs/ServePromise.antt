-- What a server that has come so far promises of its whole call: the run that led to its output.
use Rattle.std.proofs.Common.{◌≡◌, ◌≤◌, ℕ, Bool, false, List, [], ◌++◌, length, Option, Some, None, ap, refl, sym, ◌∙◌, append-nil, replicate, arith}
use Rattle.std.specs.Prelude.{IfSome, Ok, Err, Result}
use Rattle.std.specs.Io.KnownBytes.{IsAtEnd}
use Rattle.std.proofs.lemmas.Option.{none-some, same_Some}
use Rattle.histories.specs.CoreState.{IsIdle}
use Rattle.scheduler.specs.DeviceEvents.{events_of}
use Rattle.scheduler.specs.Machine.{MachineView, machine_of}
use Rattle.protocol.specs.Lines.{lines}
use Rattle.meaning.specs.Progress.{TakesLines}
use Rattle.scheduler.specs.CoreView.{CoreView, RecoversNow, core_state_of}
use Rattle.serving.specs.Checkpoints.{HasTimelyCheckpoints}
use Rattle.serving.specs.Progress.{ServingProgress}
use Rattle.serving.specs.Lines.{Line}
use Rattle.reorder_buffer.specs.ReorderBuffer.{can_retire}
use Rattle.serving.specs.Runs.{machine_with_jobs}
use Rattle.serving.specs.HasServed.{HasServed}
use Rattle.serving.specs.Restart.{IsMeant, WritesBeginning}
use Rattle.serving.specs.Serve.{AreUnsent, HasRunWith, failed_at}
use Rattle.serving.specs.declared.server.ServeFault.{ServeFault}
use Rattle.serving.specs.declared.server.ServeFault.TheVariants as faults
use Rattle.serving.proofs.EndsWith.{has_served}
use Rattle.serving.proofs.Start.{starts, stays}

-- ---- the run

all_taken : (input unread : Option (List ℕ)) (ended : Bool) (consumed : List (List ℕ)) → TakesLines input unread ended consumed → IsAtEnd unread
    → IfSome input (λ bytes. lines bytes ≡ consumed)
all_taken None unread ended consumed t at_end = tt
all_taken (Some input) None ended consumed t at_end = absurd (none-some t.0 t.1)
all_taken (Some input) (Some bs) ended consumed t at_end =
    let none : t.0 ≡ [] = sym (same_Some bs t.0 t.1) ∙ at_end in
    t.2.to_come ∙ ap (λ l. consumed ++ lines l) none ∙ append-nil consumed

-- where each line that was consumed is answered, and all was written that was to be
all_answered : {keeps : Type 0} {start : MachineView} {new : CoreView} {input before written : Option (List ℕ)} {end : Result (Unit {0}) ServeFault}
    {every : ℕ} → (served : HasServed keeps start new [] input before written) → IsMeant (failed_at end) start.core.slots 0 before written written
    → AreUnsent end input served.consumed [] → HasTimelyCheckpoints every (machine_of start) (events_of served.run.segment.device_events)
    → HasRunWith keeps every start new input before written end
all_answered {written} served is none in_time = record {
  unsent = [];
  unanswered = 0;
  all = written;
  meant = is;
  served = served;
  few = omega arith;
  are_unsent = none;
  in_time = in_time;
}

-- How far a server has come, in a run whose checkpoints were timely.
pub record ProgressInTime (keeps : Type 0) (every : ℕ) (start now : MachineView) (unsent : List Line) (input unread : Option (List ℕ)) (drained : Bool)
    (before written : Option (List ℕ)) : Type 0 where
  pub progress : ServingProgress keeps start now unsent input unread drained before written
  pub in_time : HasTimelyCheckpoints every (machine_of start) (events_of progress.serving.segment.device_events)

-- given what `know_recovery` ensures of the core at the end
module _ {keeps : Type 0} {every : ℕ} {start now : MachineView} (idle : IsIdle (core_state_of start.core)) {input unread : Option (List ℕ)} {ended : Bool}
    {before written : Option (List ℕ)} (no_doubt : now.core.failed ≡ false → now.core.doubt ≡ []) (recovers : keeps → RecoversNow now.core) where
  pub runs_whole : ProgressInTime keeps every start now [] input unread ended before written → IsAtEnd unread
      → HasRunWith keeps every start now.core input before written (Ok tt)
  unfolding has_served
  runs_whole h at_end = all_answered (has_served keeps start now idle no_doubt recovers (omega arith) h.progress) (refl, refl)
      (refl, all_taken input unread ended h.progress.consumed h.progress.takes at_end) h.in_time

  pub runs_to_read : ProgressInTime keeps every start now [] input unread ended before written
      → HasRunWith keeps every start now.core input before written (Err faults.Read)
  unfolding has_served
  runs_to_read h = all_answered (has_served keeps start now idle no_doubt recovers (omega arith) h.progress) (refl, refl) refl h.in_time

  pub runs_to_last_ticket : ProgressInTime keeps every start now [] input unread ended before written
      → HasRunWith keeps every start now.core input before written (Err faults.Exhausted)
  unfolding has_served
  runs_to_last_ticket h = all_answered (has_served keeps start now idle no_doubt recovers (omega arith) h.progress) (refl, refl) refl h.in_time

  pub runs_to_device : {unsent : List Line} → ProgressInTime keeps every start now unsent input unread ended before written → can_retire unsent ≡ false
      → length unsent ≤ start.core.slots → HasRunWith keeps every start now.core input before written (Err faults.Device)
  unfolding has_served
  runs_to_device {unsent} h last few = record {
    unsent = unsent;
    unanswered = start.core.slots;
    all = _;
    meant = (refl, refl);
    served = has_served keeps start now idle no_doubt recovers few h.progress;
    few = few;
    are_unsent = last;
    in_time = h.in_time;
  }

  -- where a write failed: what was written is a beginning of what was to be written
  pub runs_to_write : {unsent : List Line} {torn : Option (List ℕ)} {left : ℕ} → ProgressInTime keeps every start now unsent input unread ended before written
      → WritesBeginning start.core.slots left before torn written → length unsent ≤ left → HasRunWith keeps every start now.core input before torn (Err faults.Write)
  unfolding has_served
  runs_to_write {unsent} {left} h is few = record {
    unsent = unsent;
    unanswered = left;
    all = written;
    meant = is;
    served = has_served keeps start now idle no_doubt recovers (let within = is.3 in omega (arith, few, within)) h.progress;
    few = few;
    are_unsent = tt;
    in_time = h.in_time;
  }

-- ---- a server that was refused

module _ (keeps : Type 0) (core : CoreView) (places every : ℕ) (idle : IsIdle (core_state_of core))
    (no_doubt : core.failed ≡ false → core.doubt ≡ []) (recovers : keeps → RecoversNow core) (input before : Option (List ℕ)) where
  unfoldable not_run : HasServed keeps (machine_with_jobs core (replicate places None)) core [] input before before
  not_run =
      let start = machine_with_jobs core (replicate places None) in
      has_served keeps start start idle no_doubt recovers (omega arith) (starts keeps start input before)

  none_dispatched : HasTimelyCheckpoints every (machine_of (machine_with_jobs core (replicate places None))) (events_of not_run.run.segment.device_events)
  unfolding not_run has_served starts stays
  none_dispatched = (_, refl)

  pub no_workers_ran : HasRunWith keeps every (machine_with_jobs core (replicate places None)) core input before before (Err faults.NoWorkers)
  no_workers_ran = all_answered not_run (refl, refl) refl none_dispatched

  pub no_memory_ran : HasRunWith keeps every (machine_with_jobs core (replicate places None)) core input before before (Err faults.OutOfMemory)
  no_memory_ran = all_answered not_run (refl, refl) refl none_dispatched
