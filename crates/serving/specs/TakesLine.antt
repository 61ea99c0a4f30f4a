-- Inner: What reading a line has done: it is consumed, and its message has arrived if it takes a ticket; or its message is refused.
use Rattle.std.specs.Prelude.{◌≡◌, ◌≢◌, List, ◌∷◌, ◌++◌, [], Option, Some, Result, Ok, Err}
use Rattle.histories.specs.Events.{arrive}
use Rattle.histories.specs.declared.outcomes.ArriveRefusal.{ArriveRefusal}
use Rattle.histories.specs.declared.outcomes.ArriveRefusal.TheVariants as arrivals
use Rattle.histories.specs.declared.outcomes.Outcome.TheVariants.{ArriveRefused}
use Rattle.scheduler.specs.DeviceEvents.{events_of}
use Rattle.scheduler.specs.Machine.{MachineView, machine_of}
use Rattle.protocol.specs.declared.messages.Msg.{Msg}
use Rattle.scheduler.specs.CoreView.{core_state_of}
use Rattle.serving.specs.Checkpoints.{AreTimely}
use Rattle.serving.specs.Lines.{IsKnown, Line, admitted_in, ticketed}
use Rattle.serving.specs.Runs.{HandsHaveJobs, IsInternal, RunsBetween}
use Rattle.serving.specs.declared.checkpoints.CheckpointTrigger.{CheckpointTrigger}
use Rattle.serving.specs.declared.session.ReadEnd.{ReadEnd}
use Rattle.serving.specs.declared.session.ReadEnd.TheVariants as ends_of_reading

-- A line of this message, or of none, is consumed: the message arrives, if it takes a ticket, and this is known of the line.
pub record IsTaken (keeps : Type 0) (old new : MachineView) (m : Option Msg) (known : Line) : Type 0 where
  pub holds : HandsHaveJobs new
  pub segment : RunsBetween keeps old new (ticketed old.core.next (admitted_in old.core.geometry m)) []
  pub in_time : (trigger : CheckpointTrigger) → AreTimely trigger (machine_of old) (events_of segment.device_events) trigger
  pub is_known : IsKnown old.core.geometry [] old.core.next m known

-- The core refuses the message for this reason, which isn't that it is out of range: a line out of range is consumed.
pub record IsRefusedLine (keeps : Type 0) (old new : MachineView) (m : Msg) (why : ArriveRefusal) : Type 0 where
  pub quiet : (trigger : CheckpointTrigger) → IsInternal keeps trigger trigger old new
  pub refused : (arrive old.core.geometry (core_state_of old.core) m).0 ≡ ArriveRefused why
  pub not_range : why ≢ arrivals.Range

-- why no more is read, by the reason for which the core refused a message
abbrev pub read_end_of : ArriveRefusal → ReadEnd
read_end_of arrivals.Exhausted = ends_of_reading.TicketsExhausted
read_end_of _ = ends_of_reading.DeviceFailed

-- A line of this message, or of none, is consumed, and is the last of the new reorder buffer; or its message is refused, so that no more
-- is read, and the reorder buffer is the same.
abbrev pub TakesLine : Type 0 → MachineView → List Line → MachineView → List Line → Option Msg → Result (Unit {0}) ReadEnd → Type 0
TakesLine keeps old lines new new_lines m (Ok _) = (known : Line) × IsTaken keeps old new m known × (new_lines ≡ lines ++ known ∷ [])
TakesLine keeps old lines new new_lines m (Err read_end) =
    (refused : Msg) × (why : ArriveRefusal) × (m ≡ Some refused) × IsRefusedLine keeps old new refused why × (read_end ≡ read_end_of why)
    × (new_lines ≡ lines)
