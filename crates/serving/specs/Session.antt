-- Statement for engineers: The state of a session.
use Rattle.std.specs.Prelude.{◌≡◌, ◌<◌, ℕ, Bool, true, false, List, [], Option, Some, None, IfSome}
use Rattle.std.specs.Io.KnownBytes.{IsAtEnd}
use Rattle.affinity.specs.declared.geometry.Geometry.{Geometry}
use Rattle.disk.specs.Device.{Medium}
use Rattle.histories.specs.CoreState.{most_tickets}
use Rattle.histories.specs.Progress.{steps_to_come}
use Rattle.scheduler.specs.Machine.{MachineView, machine_of}
use Rattle.protocol.specs.Grammar.{message_of}
use Rattle.protocol.specs.Messages.{is_in_range}
use Rattle.protocol.specs.FirstLine.{GivesLine, LosesLineStart}
use Rattle.protocol.specs.declared.messages.Msg.{Msg}
use Rattle.scheduler.specs.CoreView.{CoreView}
use Rattle.reorder_buffer.specs.ReorderBuffer.{ReorderBufferView}
use Rattle.serving.specs.Runs.{machine_with_jobs}
use Rattle.serving.specs.declared.checkpoints.CheckpointTrigger.{CheckpointTrigger}
use Rattle.serving.specs.declared.session.ReadEnd.{ReadEnd}
use Rattle.serving.specs.declared.session.ReadEnd.TheVariants as ends_of_reading
use Rattle.workers.specs.Seats.{DispatchSeatView}

-- what contracts see of a session
pub record SessionView : Type 0 where
  -- the core, and the dispatcher's seat, with the jobs that are lent at the places of the bench
  pub core : CoreView
  pub dispatch_seat : DispatchSeatView
  -- the lines that were read and not retired yet, the answers that wait to be sent, and what was sent
  pub reorder_buffer : ReorderBufferView
  pub reply_buffer : List ℕ
  -- after how many records a checkpoint is due, and how many were logged since the last one began
  pub trigger : CheckpointTrigger
  pub sent : Option (List ℕ)
  -- the device when the last send began, or at the start of the call
  pub sent_at : Medium
  -- how many lines were read whose answers are not sent
  pub outstanding : ℕ
  -- whether sending has failed
  pub output_failed : Bool
  -- why no more is read (`None`: reading goes on)
  pub read_end : Option ReadEnd
  -- what is unread of the input
  pub unread : Option (List ℕ)
  -- whether the end of the input was seen, and nothing is buffered any more
  pub drained : Bool
  -- whether the end of the input was seen
  pub ended : Bool
  -- what remains in the reader after what is buffered
  pub remaining : Option (List ℕ)
  -- whether a whole line is buffered
  pub holds_line : Bool

-- the session's machine: its core, with the lent jobs in its hands
abbrev pub machine : SessionView → MachineView
machine p = machine_with_jobs p.core p.dispatch_seat.lent

-- The last argument is why no more is read. `unread` is what wasn't consumed of the input when reading ended, `remaining` what its reader
-- has left. `LosesLineStart`: of what is unread the first bytes were read and are lost, none of them a newline, and the others remain.
abbrev pub IsReadEnd : Geometry → CoreView → Option (List ℕ) → Bool → Option (List ℕ) → ReadEnd → Type 0
IsReadEnd g core unread drained remaining ends_of_reading.EndOfInput = IsAtEnd unread × IsAtEnd remaining
IsReadEnd g core unread drained remaining ends_of_reading.ReadFailed = (drained ≡ false) × IfSome unread (λ bs. LosesLineStart bs remaining)
IsReadEnd g core unread drained remaining ends_of_reading.TicketsExhausted = (core.next ≡ most_tickets)
    × ((line : List ℕ) × (m : Msg) × IfSome unread (λ bs. (rest : Option (List ℕ)) × GivesLine line bs rest)
    × (message_of line ≡ Some m) × (is_in_range g m ≡ true))
IsReadEnd g core unread drained remaining ends_of_reading.DeviceFailed = core.failed ≡ true

-- Each line that was read is retired, and its answer is sent.
abbrev pub NoneUnanswered : SessionView → Type 0
NoneUnanswered p = (p.reorder_buffer.lines ≡ []) × (p.reply_buffer ≡ [])

-- how many steps are to come until all messages are answered that the session has read
abbrev pub steps_ahead : SessionView → ℕ
steps_ahead p = steps_to_come (machine_of (machine p))

-- A line is buffered, and may be read.
abbrev pub CanReadLine : SessionView → Type 0
CanReadLine p = (p.read_end ≡ None) × (p.outstanding < p.reorder_buffer.slots) × (p.holds_line ≡ true)
