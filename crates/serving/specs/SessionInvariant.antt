-- Inner: What is true of a session between its calls: how a legal run has led there since its start.
use Rattle.std.specs.Prelude.{◌≡◌, ◌+◌, ◌<◌, ◌≤◌, ℕ, Bool, true, false, List, ◌++◌, length, map, take, Option, IsSomeAnd, IsTrue, MatchOption}
use Rattle.std.specs.Io.KnownBytes.{Appends, IsAtEnd}
use Rattle.disk.specs.Device.{Medium}
use Rattle.histories.specs.Runs.{logged_messages}
use Rattle.scheduler.specs.DeviceEvents.{DeviceEvent, device_after, events_of}
use Rattle.scheduler.specs.Machine.{MachineView, machine_of}
use Rattle.meaning.specs.Output.{joined}
use Rattle.message.specs.AppendsBeginning.{AppendsBeginning}
use Rattle.serving.specs.Checkpoints.{AreTimely}
use Rattle.serving.specs.Progress.{ServingProgress}
use Rattle.serving.specs.Lines.{HaveAnswers, Line, answer_text}
use Rattle.serving.specs.History.{AreInHistory}
use Rattle.serving.specs.Restart.{WritesBeginning}
use Rattle.serving.specs.Runs.{HandsHaveJobs}
use Rattle.serving.specs.Start.{Start, start_machine, start_trigger, IsIdleStart}
use Rattle.serving.specs.declared.checkpoints.CheckpointTrigger.{CheckpointTrigger}
use Rattle.serving.specs.declared.session.ReadEnd.{ReadEnd}
use Rattle.serving.specs.Session.{SessionView, machine, IsReadEnd}
use Rattle.reorder_buffer.specs.ReorderBuffer.{ReorderBufferView}
use Rattle.workers.specs.Seats.{places_of}

-- `whole` is what was sent before a send failed, else all that was sent. Of the answers that wait the failed send has sent a beginning.
abbrev pub IsSent : Bool → List ℕ → Option (List ℕ) → Option (List ℕ) → Type 0
IsSent true reply_buffer whole sent = AppendsBeginning whole sent reply_buffer
IsSent false reply_buffer whole sent = sent ≡ whole

-- The answers that wait are those to the next lines in order, `waiting`; after these lines come those of the reorder buffer.
pub record Waits (reply_buffer : List ℕ) (outstanding : ℕ) (reorder_buffer : ReorderBufferView) : Type 0 where
  pub waiting : List Line
  pub have_answers : HaveAnswers waiting
  pub reply_buffer_is : reply_buffer ≡ joined (map answer_text waiting)
  -- Outstanding are the lines whose answers wait and those of the reorder buffer. There are never more of them than slots.
  pub counted : outstanding ≡ length waiting + length reorder_buffer.lines
  pub bounded : outstanding ≤ reorder_buffer.slots

-- What was sent was on the device when the last send began, at `sent_at`: after this number of events of the run. Each line whose answer
-- was sent by then, or begun to be sent, needs no record or was logged (`answers`). `unanswered` is how many lines may be unanswered in
-- `all`: as many as there are slots without the lines whose answer is there and wasn't sent whole (`WritesBeginning`).
pub record KeepsSent (s : Start) (sent_at : Medium) (sent : Option (List ℕ)) (consumed : List (List ℕ)) (sent_lines : List Line)
    (device_events : List DeviceEvent) : Type 0 where
  pub number : ℕ
  pub within : number ≤ length device_events
  pub at_send : device_after s.core.medium (take number device_events) ≡ sent_at
  pub answers : List (List ℕ)
  pub logged : AreInHistory s.core.geometry (logged_messages (machine_of (start_machine s)) (take number (events_of device_events)))
      s.core.next consumed answers
  pub unanswered : ℕ
  pub all : Option (List ℕ)
  pub all_is : Appends s.before all (joined answers)
  pub begun : WritesBeginning s.core.slots unanswered s.before sent all
  pub few : length sent_lines + s.core.slots ≤ length answers + unanswered

-- How far the server has come (`ServingProgress`), in a run in which what was sent is kept, and whose events are timely. `trigger`:
-- what was counted in it.
pub record ServingSince (keeps : Type 0) (s : Start) (trigger : CheckpointTrigger) (now : MachineView) (unsent : List Line)
    (unread : Option (List ℕ)) (drained : Bool) (whole : Option (List ℕ)) (sent_at : Medium) (sent : Option (List ℕ)) : Type 0 where
  pub progress : ServingProgress keeps (start_machine s) now unsent s.input unread drained s.before whole
  pub kept : KeepsSent s sent_at sent progress.consumed progress.sent_lines progress.serving.segment.device_events
  pub in_time : AreTimely (start_trigger s) (machine_of (start_machine s)) (events_of progress.serving.segment.device_events) trigger

-- From the start of the call of `serve` a legal run has led to this session, and `unread` is what is left of the input.
pub record SessionProgress (keeps : Type 0) (s : Start) (p : SessionView) (unread : Option (List ℕ)) (drained : Bool) : Type 0 where
  pub waits : Waits p.reply_buffer p.outstanding p.reorder_buffer
  pub open waits use *
  pub whole : Option (List ℕ)
  pub output : IsSent p.output_failed p.reply_buffer whole p.sent
  pub since : ServingSince keeps s p.trigger (machine p) (waits.waiting ++ p.reorder_buffer.lines) unread drained whole p.sent_at p.sent
  pub open since use *

-- A legal run has led to this session, and no more is read, for this reason.
pub record HasEndedReading (keeps : Type 0) (s : Start) (p : SessionView) (read_end : ReadEnd) : Type 0 where
  pub unread : Option (List ℕ)
  pub drained : Bool
  pub progress_at_end : SessionProgress keeps s p unread drained
  pub why : IsReadEnd s.core.geometry p.core unread drained p.remaining read_end

-- A legal run has led to this session, which still reads, or reads no more for this reason.
abbrev pub ReadsOrHasEnded : Type 0 → Start → SessionView → Option ReadEnd → Type 0
ReadsOrHasEnded keeps s p read_end = MatchOption read_end (SessionProgress keeps s p p.unread p.drained) (HasEndedReading keeps s p)

-- What is true of a session between any two calls of it.
pub record SessionInvariant (keeps : Type 0) (s : Start) (p : SessionView) : Type 0 where
  pub start : IsIdleStart s
  pub open start use *
  -- the reorder buffer has room for as many lines as the core has slots, of which there is one
  pub fits : p.reorder_buffer.slots ≡ s.core.slots
  pub some_slot : 0 < s.core.slots
  -- each hand that isn't empty has the job of a message in flight
  pub holds : HandsHaveJobs (machine p)
  pub places : length p.dispatch_seat.lent ≡ places_of p.dispatch_seat.bench
  pub some_place : 0 < places_of p.dispatch_seat.bench
  pub knows : IsTrue p.ended → IsAtEnd p.remaining
  pub reads : ReadsOrHasEnded keeps s p p.read_end

-- `SessionInvariant` from this start. Before a call of `serve` has begun there is no start, and no session satisfies this.
abbrev pub SessionInvariantFrom : Type 0 → Option Start → SessionView → Type 0
SessionInvariantFrom keeps start p = IsSomeAnd start (λ s. SessionInvariant keeps s p)
