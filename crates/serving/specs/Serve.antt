-- Statement for operators: What a call of `serve` promises, by its result.
use Rattle.std.specs.Prelude.{◌≡◌, ◌≢◌, ◌≤◌, ℕ, false, List, [], length, Option, None, IfSome, Result, Ok, Err, OnOk, replicate}
use Rattle.scheduler.specs.DeviceEvents.{events_of}
use Rattle.scheduler.specs.Machine.{MachineView, machine_of}
use Rattle.protocol.specs.Lines.{lines}
use Rattle.oplog.specs.Recovery.{records_in}
use Rattle.scheduler.specs.CoreView.{CoreView}
use Rattle.serving.specs.Checkpoints.{HasTimelyCheckpoints}
use Rattle.serving.specs.Ends.{EndsWith}
use Rattle.serving.specs.Exchange.{Exchange}
use Rattle.serving.specs.Lines.{Line}
use Rattle.serving.specs.Restart.{DeviceFailed, Failed, IsMeant, NeitherFailed, OutputFailed}
use Rattle.serving.specs.Runs.{machine_with_jobs}
use Rattle.serving.specs.HasServed.{HasServed}
use Rattle.reorder_buffer.specs.ReorderBuffer.{can_retire}
use Rattle.serving.specs.declared.server.ServeError.{ServeError}
use Rattle.serving.specs.declared.server.ServeFault.{ServeFault}
use Rattle.serving.specs.declared.server.ServeFault.TheVariants as faults

-- what has failed at this end
abbrev pub failed_at : Result (Unit {0}) ServeFault → Failed
failed_at (Err faults.Write) = OutputFailed
failed_at (Err faults.Device) = DeviceFailed
failed_at _ = NeitherFailed

-- Which of the lines that were consumed have no answer in the output. At `Ok` none, and they are all of the input. Where the device failed,
-- those from the first line without an answer on. Where the output failed, this doesn't say which. At any other end none.
abbrev pub AreUnsent : Result (Unit {0}) ServeFault → Option (List ℕ) → List (List ℕ) → List Line → Type 0
AreUnsent (Ok _) input consumed unsent = (unsent ≡ []) × IfSome input (λ bytes. lines bytes ≡ consumed)
AreUnsent (Err faults.Device) input consumed unsent = can_retire unsent ≡ false
AreUnsent (Err faults.Write) input consumed unsent = Unit {0}
AreUnsent (Err _) input consumed unsent = unsent ≡ []

-- A run led to what was to be written (`IsMeant`), and to no more unanswered lines than that allows. Checkpoints were due after each
-- `every` records.
pub record HasRunWith (keeps : Type 0) (every : ℕ) (start : MachineView) (new : CoreView) (input before written : Option (List ℕ))
    (end : Result (Unit {0}) ServeFault) : Type 0 where
  pub unsent : List Line
  pub unanswered : ℕ
  pub all : Option (List ℕ)
  pub meant : IsMeant (failed_at end) start.core.slots unanswered before written all
  pub served : HasServed keeps start new unsent input before all
  pub few : length unsent ≤ unanswered
  pub are_unsent : AreUnsent end input served.consumed unsent
  -- no message was dispatched while a checkpoint was due, and no online one began that was neither due nor needed for room
  pub in_time : HasTimelyCheckpoints every (machine_of start) (events_of served.run.segment.device_events)

-- The call ends with `NoWorkers` exactly where there are no workers.
abbrev pub FailsWithoutWorkers : ℕ → Result (Unit {0}) ServeFault → Type 0
FailsWithoutWorkers workers (Err faults.NoWorkers) = workers ≡ 0
FailsWithoutWorkers workers _ = workers ≢ 0

-- what a call of a server hands back: its core, and how it ended
abbrev pub handed_back : {D : Type 0} → Result CoreView (ServeError D) → CoreView × Result (Unit {0}) ServeFault
handed_back (Ok core) = (core, Ok tt)
handed_back (Err e) = (e.core, Err e.fault)

-- What a call of `serve` promises, from the core that it was given to what it hands back.
pub record ServePromise (keeps : Type 0) (workers every : ℕ) (old : CoreView) (back : CoreView × Result (Unit {0}) ServeFault)
    (x : Exchange) : Type 0 where
  -- a run led to what was written, from the given core with an empty hand for each worker
  pub run : HasRunWith keeps every (machine_with_jobs old (replicate workers None)) back.0 x.input x.before x.written back.1
  -- core, input and output are as `EndsWith` says for this result
  pub ends : EndsWith old back.0 x back.1
  pub no_workers : FailsWithoutWorkers workers back.1
  -- at the end of the input no record is in force
  pub emptied : OnOk back.1 (keeps → records_in back.0.geometry back.0.medium.now ≡ [])
