-- Statement for operators: A run on a device, event by event: each with the device as it left it, and what a crash leaves meanwhile.
use Rattle.std.specs.Prelude.{◌≡◌, ◌+◌, ℕ, cond, true, false, List, [], ◌∷◌, map, take, Some}
use Rattle.affinity.specs.declared.geometry.Geometry.{Geometry}
use Rattle.recovery.specs.Recovery.{recovered_state}
use Rattle.disk.specs.Device.{Medium}
use Rattle.disk.specs.CrashImages.{CrashImagesAre}
use Rattle.checkpoint.specs.Journal.{RecoversWithPrefix}
use Rattle.histories.specs.Crash.{IsLeftSince, in_doubt}
use Rattle.histories.specs.Events.{Event, touches_device}
use Rattle.histories.specs.MachineState.{MachineState}
use Rattle.histories.specs.Runs.{end_state}
use Rattle.meaning.specs.State.{State}

-- an event, with the device as it left it
pub record DeviceEvent : Type 0 where
  pub event : Event
  pub medium : Medium

abbrev pub events_of : List DeviceEvent → List Event
events_of device_events = map (λ s. s.event) device_events

-- the device after these events, if it was m before
abbrev pub device_after : Medium → List DeviceEvent → Medium
device_after m [] = m
device_after m (device_event ∷ device_events) = device_after device_event.medium device_events

-- A crash at any moment of an event leaves the state that was committed before it, with a prefix of the messages that the
-- event is to append, or, in a failed core state, of those that were to be appended when the device failed.
abbrev pub AreSafe : Geometry → MachineState → Medium → List DeviceEvent → Type 0
AreSafe g w m [] = Unit {0}
AreSafe g w m (device_event ∷ device_events) =
    CrashImagesAre m device_event.medium (RecoversWithPrefix g w.core.committed (in_doubt w.core (device_event.event ∷ [])))
    × AreSafe g device_event.event.state_after device_event.medium device_events

-- Each event reports whether the device failed during it, and left the device alone where its step doesn't touch it.
abbrev pub AgreeWithDevice : MachineState → Medium → List DeviceEvent → Type 0
AgreeWithDevice w m [] = Unit {0}
AgreeWithDevice w m (device_event ∷ device_events) =
    (device_event.medium.faults ≡ m.faults + cond device_event.event.device_failed 1 0)
    × (touches_device w.core device_event.event.step ≡ false → device_event.medium ≡ m)
    × AgreeWithDevice device_event.event.state_after device_event.medium device_events

-- Fail-stop: if the device has failed in the first k events, it is left as it was after these. So no further call of it is made: what is
-- proved of every device holds of one that each call changes.
abbrev pub IsFailStop : MachineState → Medium → List DeviceEvent → Type 0
IsFailStop w m device_events = (k : ℕ) → (end_state w (take k (events_of device_events))).core.failed ≡ true
    → device_after m device_events ≡ device_after m (take k device_events)

-- The bytes c recover to a state that a crash of the run may leave, if it comes when k events or more have ended.
pub record RecoversForRun (g : Geometry) (start : MachineState) (events : List Event) (k : ℕ) (c : List ℕ) : Type 0 where
  pub state : State
  pub is : recovered_state g c ≡ Some state
  pub left : IsLeftSince g start events k state
