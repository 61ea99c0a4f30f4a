-- Inner: One step of a machine, and of its core alone.
use Rattle.std.specs.Prelude.{◌≡◌, Bool, false, [], ◌∷◌}
use Rattle.disk.specs.CrashImages.{CrashImagesAre}
use Rattle.checkpoint.specs.Journal.{RecoversWithPrefix}
use Rattle.histories.specs.Crash.{in_doubt, to_append}
use Rattle.histories.specs.Events.{IsAllowed, touches_device}
use Rattle.histories.specs.declared.outcomes.Outcome.{Outcome}
use Rattle.histories.specs.declared.outcomes.Step.{Step}
use Rattle.scheduler.specs.Machine.{MachineView, machine_of}
use Rattle.scheduler.specs.Calls.{CountsFailure, IsCallEvent}
use Rattle.scheduler.specs.CoreView.{CoreView, RecoversThroughout, core_state_of}

-- The step had this outcome, and was an allowed event. A crash at any moment of it leaves the state committed before, with a prefix of
-- the messages that it is to append, or, where the device had failed before, of those in `doubt`.
pub record IsMachineStep (keeps : Type 0) (old new : MachineView) (step : Step) (outcome : Outcome) : Type 0 where
  pub device_failed : Bool
  pub allowed : IsAllowed old.core.geometry (machine_of old)
      (record { step = step; outcome = outcome; device_failed = device_failed; state_after = machine_of new })
  pub geometry : new.core.geometry ≡ old.core.geometry
  pub failures : CountsFailure device_failed old.core.medium.faults new.core.medium.faults
  -- the device is left alone where the step doesn't touch it
  pub untouched : touches_device (core_state_of old.core) step ≡ false → new.core.medium ≡ old.core.medium
  pub any_moment : keeps → CrashImagesAre old.core.medium new.core.medium (RecoversWithPrefix old.core.geometry
      (core_state_of old.core).committed
      (in_doubt (core_state_of old.core)
      (record { step = step; outcome = outcome; device_failed = device_failed; state_after = machine_of new } ∷ [])))

-- A step of the core alone had this outcome, and was an allowed event whatever the hands have. A crash at any moment of it leaves what
-- `RecoversThroughout` says.
pub record IsCoreStep (keeps : Type 0) (old new : CoreView) (step : Step) (outcome : Outcome) : Type 0 where
  pub device_failed : Bool
  pub called : IsCallEvent old.geometry (core_state_of old) (core_state_of new) step outcome device_failed
  pub geometry : new.geometry ≡ old.geometry
  pub failures : CountsFailure device_failed old.medium.faults new.medium.faults
  pub untouched : touches_device (core_state_of old) step ≡ false → new.medium ≡ old.medium
  pub any_moment : keeps → RecoversThroughout (to_append (core_state_of old) step) old new
