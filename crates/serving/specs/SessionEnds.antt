-- Inner: Where a session is at rest, and what is true of it at its end.
use Rattle.std.specs.Prelude.{[], ◌≡◌, ◌≢◌, true, false, Option, Some, IfSome, Result, Ok, Err}
use Rattle.histories.specs.CoreState.{held}
use Rattle.scheduler.specs.CoreView.{core_state_of}
use Rattle.serving.specs.DispatchesTo.{NoneInFlight, asks_for_checkpoint}
use Rattle.serving.specs.declared.dispatch.Blocked.{Blocked}
use Rattle.reorder_buffer.specs.ReorderBuffer.{can_retire}
use Rattle.oplog.specs.Recovery.{records_in}
use Rattle.serving.specs.declared.session.ReadEnd.{ReadEnd}
use Rattle.serving.specs.declared.session.ReadEnd.TheVariants as ends_of_reading
use Rattle.serving.specs.declared.server.ServeFault.{ServeFault}
use Rattle.serving.specs.declared.server.ServeFault.TheVariants as faults
use Rattle.serving.specs.SessionSteps.{IsBlockedIn}
use Rattle.serving.specs.Session.{SessionView}

-- Nothing is left to do: no message is dispatched, for this reason (`None`: a checkpoint is due), though no job is in flight and no
-- checkpoint is to begin. Nothing that ran or is logged is left, and the oldest line, if there is one, has no answer.
pub record IsAtRest (p : SessionView) (why : Option Blocked) : Type 0 where
  pub blocked : IfSome why (IsBlockedIn p)
  pub none_asked : asks_for_checkpoint why ≡ true → held (core_state_of p.core) ≢ []
  pub none_in_flight : NoneInFlight p.dispatch_seat.lent
  pub none_ran : p.core.ran ≡ []
  pub none_logged : p.core.logged ≡ []
  pub works : p.core.failed ≡ false
  pub last : can_retire p.reorder_buffer.lines ≡ false

-- Each line that was read is answered in the output, and nothing has failed.
pub record IsServed (p : SessionView) : Type 0 where
  pub all_retired : p.reorder_buffer.lines ≡ []
  pub flushed : p.reply_buffer ≡ []
  pub works : p.core.failed ≡ false
  pub output_works : p.output_failed ≡ false

-- Each line that was read is answered in the output, and no more was read, for this reason. At the end of the input no record of the log
-- is in force.
pub record HasFinished (keeps : Type 0) (p : SessionView) (read_end : ReadEnd) : Type 0 where
  pub read_end_is : p.read_end ≡ Some read_end
  pub served : IsServed p
  pub possible : read_end ≢ ends_of_reading.DeviceFailed
  pub emptied : read_end ≡ ends_of_reading.EndOfInput → keeps → records_in p.core.geometry p.core.medium.now ≡ []

-- what the server reports where no more was read for this reason, and each line that was read is answered
abbrev pub end_of : ReadEnd → Result (Unit {0}) ServeFault
end_of ends_of_reading.EndOfInput = Ok tt
end_of ends_of_reading.ReadFailed = Err faults.Read
end_of ends_of_reading.TicketsExhausted = Err faults.Exhausted
end_of ends_of_reading.DeviceFailed = Err faults.Device

-- What is true of the session at its end, by the result of the call. Where something has failed no job is in flight, and what was logged
-- is answered.
abbrev pub EndsBy : SessionView → Result (Unit {0}) ServeFault → Type 0
EndsBy p (Ok _) = IsServed p × (p.read_end ≡ Some ends_of_reading.EndOfInput)
EndsBy p (Err faults.Read) = IsServed p × (p.read_end ≡ Some ends_of_reading.ReadFailed)
EndsBy p (Err faults.Exhausted) = IsServed p × (p.read_end ≡ Some ends_of_reading.TicketsExhausted)
EndsBy p (Err faults.Device) =
    NoneInFlight p.dispatch_seat.lent × (p.core.logged ≡ []) × (p.core.failed ≡ true) × (p.output_failed ≡ false) × (p.reply_buffer ≡ [])
    × (can_retire p.reorder_buffer.lines ≡ false)
EndsBy p (Err faults.Write) =
    NoneInFlight p.dispatch_seat.lent × (p.core.logged ≡ []) × (p.core.failed ≡ false → p.core.ran ≡ []) × (p.output_failed ≡ true)
EndsBy p (Err _) = ⊥

-- what is reported: the result of the call, or that there was no memory to start a worker
abbrev pub reported : {F : Type 0} → Result (Result (Unit {0}) ServeFault) F → Result (Unit {0}) ServeFault
reported (Ok result) = result
reported (Err f) = Err faults.OutOfMemory

-- `EndsBy`; or nothing has changed, since a worker could not be started.
abbrev pub EndsOrDeclines : SessionView → SessionView → Result (Unit {0}) ServeFault → Type 0
EndsOrDeclines old new (Err faults.OutOfMemory) = new ≡ old
EndsOrDeclines old new result = EndsBy new result
