-- Statement for operators: What a machine promises of a run: the events that led there, and what a crash meanwhile leaves.
use Rattle.std.specs.Prelude.{[], ◌≡◌, ℕ, ◌≤◌, false, List, ◌∷◌, map, take, length}
use Rattle.std.specs.List.{AllByRecursion, Contains}
use Rattle.disk.specs.Device.{moment_number}
use Rattle.disk.specs.CrashImages.{left_since}
use Rattle.histories.specs.Events.{Event}
use Rattle.histories.specs.MachineState.{MachineState}
use Rattle.histories.specs.IsSerialHistory.{ticket_replies}
use Rattle.histories.specs.Runs.{IsLegal, answered, arrived, end_state, logged_messages}
use Rattle.histories.specs.CoreState.{entries, held, AreUnrelated, IsIdle}
use Rattle.histories.specs.declared.outcomes.Outcome.{Outcome}
use Rattle.histories.specs.declared.outcomes.Step.{Step}
use Rattle.scheduler.specs.DeviceEvents.{DeviceEvent, AreSafe, RecoversForRun, AgreeWithDevice, device_after, events_of}
use Rattle.scheduler.specs.declared.hands.HandContent.{HandContent}
use Rattle.scheduler.specs.CoreView.{CoreView, RecoversNow, core_state_of}
use Rattle.scheduler.specs.Machine.{MachineView, machine_of}
use Rattle.protocol.specs.declared.replies.Reply.{Reply}
use Rattle.meaning.specs.TicketOrder.{by_ticket, serial_replies}

-- These events are a legal run from one machine to the other. Each reports whether the device failed in it, and left the device alone where
-- its step touches none. A crash at any moment of an event leaves the state committed before it, with a prefix of what the event appends
-- or, once the device has failed, of `doubt`.
pub record LeadTo (keeps : Type 0) (old new : MachineView) (device_events : List DeviceEvent) : Type 0 where
  pub legal : IsLegal old.core.geometry (machine_of old) (events_of device_events)
  pub ends : end_state (machine_of old) (events_of device_events) ≡ machine_of new
  pub geometry : new.core.geometry ≡ old.core.geometry
  pub device : device_after old.core.medium device_events ≡ new.core.medium
  pub agrees : AgreeWithDevice (machine_of old) old.core.medium device_events
  pub any_moment : keeps → AreSafe old.core.geometry (machine_of old) old.core.medium device_events

-- For every k: a crash at any moment since event number k ended leaves a device that recovers to the state committed after some event from
-- k on, with a prefix of what the next event was to append (of `doubt`, if the device had failed).
abbrev pub RecoversFromRun : MachineView → MachineView → List DeviceEvent → Type 0
RecoversFromRun old new device_events = (k : ℕ) (c : List ℕ) → k ≤ length device_events
    → left_since new.core.medium (moment_number (device_after old.core.medium (take k device_events))) c
    → RecoversForRun old.core.geometry (machine_of old) (events_of device_events) k c

-- The steps `asked` had the outcomes `came`, and led from the machine `old` to `new`.
pub record HasDeviceEvents (keeps : Type 0) (old new : MachineView) (asked : List Step) (came : List Outcome) : Type 0 where
  pub device_events : List DeviceEvent
  pub leads : LeadTo keeps old new device_events
  pub of_steps : map (λ e. e.step) (events_of device_events) ≡ asked
  pub with_outcomes : map (λ e. e.outcome) (events_of device_events) ≡ came

-- What a machine promises of a run of steps, sensible or not.
pub record HasRun (keeps : Type 0) (old new : MachineView) (asked : List Step) (came : List Outcome) : Type 0 where
  pub ran : HasDeviceEvents keeps old new asked came
  -- what a crash meanwhile leaves
  pub crash : keeps → RecoversFromRun old new ran.device_events
  -- In each core state, the first one too, no two of the messages that are held are at related places.
  pub apart : AllByRecursion (λ (w : MachineState). AreUnrelated old.core.geometry (held w.core))
      (machine_of old ∷ map (λ e. e.state_after) (events_of ran.device_events))
  -- What was logged has the replies that the serial server gives, in log order.
  pub in_log_order : ticket_replies (logged_messages (machine_of old) (events_of ran.device_events))
      ≡ serial_replies old.core.geometry (core_state_of old.core).committed
      (entries (logged_messages (machine_of old) (events_of ran.device_events)))
  -- If nothing waited or was held at the start, each answer is the one that the serial server gives to that message where all that
  -- arrived are run in the order of their tickets.
  pub in_ticket_order : IsIdle (core_state_of old.core) → (reply : ℕ × Reply) → Contains (answered (events_of ran.device_events)) reply
      → Contains (serial_replies old.core.geometry (core_state_of old.core).committed
      (by_ticket (arrived (events_of ran.device_events)))) reply

-- A run has ended: these events led from one machine to another, which has this core.
pub record IsEndOfRun (start : MachineView) (events : List Event) (new : CoreView) : Type 0 where
  pub legal : IsLegal start.core.geometry (machine_of start) events
  pub hands : List HandContent
  pub ends : end_state (machine_of start) events ≡ machine_of (record { core = new; hands = hands })
  pub geometry : new.geometry ≡ start.core.geometry
  -- what `Core::know_recovery` promises of it
  pub no_doubt : new.failed ≡ false → new.doubt ≡ []
  pub recovers : RecoversNow new
