-- Statement for operators: What it is to serve a device: what was written at its end, what the device recovers to then, and what a crash
-- meanwhile leaves.
use Rattle.std.specs.Prelude.{◌≡◌, ◌≢◌, ◌+◌, ◌≤◌, ℕ, List, [], length, take, replicate, Some, None, IfSome, Result, Ok, Err}
use Rattle.std.specs.Io.KnownBytes.{IsAtEnd}
use Rattle.affinity.specs.declared.geometry.Geometry.{Geometry}
use Rattle.recovery.specs.Header.{HasHeader}
use Rattle.recovery.specs.Recovery.{recovered_state}
use Rattle.recovery.specs.Refusals.{IsRefused}
use Rattle.recovery.specs.declared.fault.OpenFault.TheVariants as open_faults
use Rattle.disk.specs.CrashImages.{IsCrashImage}
use Rattle.disk.specs.Device.{Medium, moment_number}
use Rattle.checkpoint.specs.Opening.{IsLeftByRefusal, OpeningCrashImages}
use Rattle.histories.specs.Incarnations.{Ran}
use Rattle.scheduler.specs.DeviceIncarnations.{IsRunIncarnation}
use Rattle.scheduler.specs.Machine.{machine_of}
use Rattle.scheduler.specs.DeviceEvents.{DeviceEvent, IsFailStop, device_after, events_of}
use Rattle.protocol.specs.Lines.{lines}
use Rattle.message.specs.AppendsBeginning.{AppendsBeginning}
use Rattle.meaning.specs.Output.{IsBeginning, WritesOutput, serial_output}
use Rattle.meaning.specs.State.{State}
use Rattle.scheduler.specs.CoreView.{IsJustOpened, CoreView, RecoversNow}
use Rattle.serving.specs.Ends.{AreServed, ServesLinesBefore, ServesWholeLines, committed_in}
use Rattle.serving.specs.Exchange.{Exchange}
use Rattle.serving.specs.Runs.{machine_with_jobs}
use Rattle.oplog.specs.Recovery.{records_in}
use Rattle.serving.specs.Serve.{ServePromise}
use Rattle.serving.specs.declared.server.ServeFault.{ServeFault}
use Rattle.serving.specs.declared.server.ServeFault.TheVariants as serve_faults
use Rattle.commands.specs.Faults.{command_result}
use Rattle.commands.specs.declared.faults.Fault.{Fault}
use Rattle.commands.specs.declared.faults.Fault.TheVariants.{Read, Write, OutOfMemory, Device, NoWorkers, NoTicketLeft, Open}
use Rattle.commands.specs.declared.serve_options.ServeOptions.{ServeOptions}

-- ---- the device before and after, as a reader of it sees it

-- The device recovered to this state, with this geometry in its header.
pub record RecoveredTo (keeps : Type 0) (old : Medium) (g : Geometry) (start : State) : Type 0 where
  pub header : keeps → HasHeader g old.now
  pub recovered_before : keeps → recovered_state g old.now ≡ Some start

-- The device recovers to this state, and so does whatever a crash leaves now.
pub record RecoversDurably (keeps : Type 0) (new : Medium) (g : Geometry) (x : State) : Type 0 where
  pub now : keeps → recovered_state g new.now ≡ Some x
  pub each : keeps → (c : List ℕ) → IsCrashImage new c → recovered_state g c ≡ Some x

-- When it was opened the device recovered to `start`; as it was left it recovers to `end`.
pub record ServedDevice (keeps : Type 0) (old new : Medium) : Type 0 where
  pub geometry : Geometry
  pub start : State
  pub end : State
  pub before : RecoveredTo keeps old geometry start
  pub after : RecoversDurably keeps new geometry end

-- ---- how a service ends

-- Nothing was served: no input was read and no output written. The device was opened, and recovers to the same state as before.
abbrev pub HasServedNothing : Type 0 → Medium → Medium → Exchange → Type 0
HasServedNothing keeps old new x = (w : ServedDevice keeps old new) × (w.end ≡ w.start) × (x.remaining ≡ x.input) × (x.written ≡ x.before)

-- How many calls of the device failed, by this end: one where that is reported; where the output failed, perhaps one; else none.
abbrev pub CountsFaults : Medium → Medium → Result (Unit {0}) ServeFault → Type 0
CountsFaults old new (Err serve_faults.Device) = new.faults ≡ old.faults + 1
CountsFaults old new (Err serve_faults.Write) = new.faults ≤ old.faults + 1
CountsFaults old new _ = new.faults ≡ old.faults

-- What each end promises.
-- No fault: the input has ended, and the output is that of the serial server for all of it, from the state to which the device
-- recovered. The device recovers to the last state of that server, with no record in force.
-- A failed read: exactly the lines that were read whole are answered, and the device recovers to the state after them. No ticket left:
-- exactly the lines before one whose message is in range are answered, and the device recovers to the state after them.
-- A failed device: the first lines of the serial server's output. A failed write: a beginning of that output.
-- No workers, or no memory: nothing was served. A device that can't be opened: no input was read and no output written. The fault is one
-- that its bytes show, or want of memory, or `Device`: the last exactly if the device failed. `IsLeftByRefusal`: nothing was written to
-- it, unless it failed, or the bad record is in the half that was not named: then the opening has finished an interrupted cut before.
abbrev pub EndsOnDevice : Type 0 → ServeOptions → Medium → Medium → Result (Unit {0}) Fault → Exchange → Type 0
EndsOnDevice keeps s old new (Ok _) x = (s.workers ≢ 0) × ((w : ServedDevice keeps old new) × (keeps → records_in w.geometry new.now ≡ [])
    × IsAtEnd x.remaining × WritesOutput x.input x.before x.written (λ bytes out. AreServed w.geometry w.start w.end (lines bytes) out))
EndsOnDevice keeps s old new (Err Read) x = (s.workers ≢ 0) × ((w : ServedDevice keeps old new)
    × WritesOutput x.input x.before x.written (ServesWholeLines w.geometry w.start w.end x.remaining))
EndsOnDevice keeps s old new (Err NoTicketLeft) x = (s.workers ≢ 0) × ((w : ServedDevice keeps old new)
    × WritesOutput x.input x.before x.written (ServesLinesBefore w.geometry w.start w.end))
EndsOnDevice keeps s old new (Err Device) x = (s.workers ≢ 0) × ((g : Geometry) × (start : State) × RecoveredTo keeps old g start
    × WritesOutput x.input x.before x.written (IsBeginning g start))
EndsOnDevice keeps s old new (Err Write) x = (s.workers ≢ 0) × ((g : Geometry) × (start : State) × RecoveredTo keeps old g start
    × IfSome x.input (λ bytes. AppendsBeginning x.before x.written (serial_output g start bytes)))
EndsOnDevice keeps s old new (Err NoWorkers) x = (s.workers ≡ 0) × HasServedNothing keeps old new x
EndsOnDevice keeps s old new (Err OutOfMemory) x = (s.workers ≢ 0) × HasServedNothing keeps old new x
EndsOnDevice keeps s old new (Err (Open fault)) x =
    (keeps → IsRefused old.now fault × IsLeftByRefusal old fault new) × (x.remaining ≡ x.input) × (x.written ≡ x.before)
    × ((fault ≡ open_faults.Device → new.faults ≡ old.faults + 1) × (fault ≢ open_faults.Device → new.faults ≡ old.faults))
EndsOnDevice keeps s old new (Err _) x = ⊥

-- ---- the run that led to it

-- For every k, the service with this run is an incarnation of the device, in the sense of the law of incarnations: the device was
-- opened, the run was made, and the crash came at any moment since event number k ended. `machine` is that of a core that was just opened:
-- each of the workers has a place, and all are free.
abbrev pub IsIncarnation : ServeOptions → CoreView → Medium → Medium → List DeviceEvent → Type 0
IsIncarnation s start old new device_events =
    let machine = machine_of (machine_with_jobs start (replicate s.workers None)) in
    (k : ℕ) → k ≤ length device_events → IsRunIncarnation (record {
      at_open = old;
      at_end = new;
      earliest_crash = moment_number (device_after start.medium (take k device_events));
      geometry = start.geometry;
      incarnation = Ran machine (events_of device_events) k;
    }) machine (events_of device_events) k

-- The device was opened, with no message in its core. Then the server ran and came to this end. A legal run led to what was written, and a
-- crash meanwhile leaves what a crash of that run may leave.
pub record HasServedBy (keeps : Type 0) (s : ServeOptions) (old new : Medium) (end : Result (Unit {0}) ServeFault) (x : Exchange)
    : Type 0 where
  pub start : CoreView
  pub now : CoreView
  pub fresh : IsJustOpened s.slots start
  pub recovered_before : RecoveredTo keeps old start.geometry (committed_in start)
  pub opening : keeps → OpeningCrashImages old start.medium
  -- no call of the device failed while it was opened
  pub no_fault : start.medium.faults ≡ old.faults
  pub served : ServePromise keeps s.workers s.every start (now, end) x
  -- whatever a crash leaves now recovers to the committed state with a prefix of the messages in `doubt`
  pub leaves : keeps → RecoversNow now
  pub given_back : new ≡ now.medium
  -- how many calls of the device failed; and after the event in which one has failed, the service makes no further call
  pub counts : CountsFaults old new end
  pub fail_stop : IsFailStop (machine_of (machine_with_jobs start (replicate s.workers None))) start.medium
      served.run.served.run.segment.device_events
  pub incarnation : keeps → IsIncarnation s start old new served.run.served.run.segment.device_events

-- `HasServedBy` holds; or the device could not be opened. A crash during the opening leaves what a crash before it might have left or,
-- from the opening's first sync on, bytes that recover to the same state as the device did, or are refused for the same fault.
abbrev pub CrashesSafely : Type 0 → ServeOptions → Medium → Medium → Result (Unit {0}) Fault → Exchange → Type 0
CrashesSafely keeps s old new (Err (Open fault)) x = keeps → OpeningCrashImages old new
CrashesSafely keeps s old new end x =
    (ended : Result (Unit {0}) ServeFault) × (end ≡ command_result ended) × HasServedBy keeps s old new ended x
