-- Statement for operators: What a service promises its client over a crash: bytes in, bytes out.
use Rattle.std.specs.Prelude.{◌≡◌, ◌⊎◌, ℕ, List, Option, Some, Result, Err, OnOk}
use Rattle.affinity.specs.declared.geometry.Geometry.{Geometry}
use Rattle.recovery.specs.Recovery.{recovered_state}
use Rattle.recovery.specs.declared.fault.OpenFault.{OpenFault}
use Rattle.recovery.specs.declared.fault.OpenFault.TheVariants as opening
use Rattle.disk.specs.CrashImages.{IsCrashImage}
use Rattle.disk.specs.Device.{IsSynced, Medium}
use Rattle.meaning.specs.Output.{WritesOutput, serial_output}
use Rattle.meaning.specs.State.{State}
use Rattle.serving.specs.Exchange.{Exchange}
use Rattle.serving.specs.Restart.{BytesRecover, DeviceFailed, IsMeant, NeitherFailed, OutputFailed, RecoversTo}
use Rattle.commands.specs.Acknowledged.{HoldsAcknowledged}
use Rattle.commands.specs.ServedDevice.{CrashesSafely, EndsOnDevice, RecoveredTo}
use Rattle.commands.specs.declared.faults.Fault.{Fault}
use Rattle.commands.specs.declared.faults.Fault.TheVariants.{Write, Device, NoWorkers, OutOfMemory, Open}
use Rattle.commands.specs.declared.serve_options.ServeOptions.{ServeOptions}

-- Where a service ended so, `all` is the output as the server meant it, and at most `unanswered` of the lines that were read are not
-- answered in `all` (`IsMeant`). If no line was read, nothing was written.
abbrev pub IsWritten : Result (Unit {0}) Fault → ℕ → ℕ → Option (List ℕ) → Option (List ℕ) → Option (List ℕ) → Type 0
IsWritten (Err Write) slots unanswered before after all = IsMeant OutputFailed slots unanswered before after all
IsWritten (Err Device) slots unanswered before after all = IsMeant DeviceFailed slots unanswered before after all
IsWritten (Err NoWorkers) slots unanswered before after all = IsMeant NeitherFailed slots unanswered before after all × (after ≡ before)
IsWritten (Err OutOfMemory) slots unanswered before after all = IsMeant NeitherFailed slots unanswered before after all × (after ≡ before)
IsWritten (Err (Open fault)) slots unanswered before after all = IsMeant NeitherFailed slots unanswered before after all × (after ≡ before)
IsWritten _ slots unanswered before after all = IsMeant NeitherFailed slots unanswered before after all

-- P holds of all that was to be written and of the number n of lines that may be unanswered in it, as `IsWritten` says. If the device
-- could not be opened, nothing was written.
abbrev pub HoldsOfAll : Result (Unit {0}) Fault → ℕ → Option (List ℕ) → Option (List ℕ) → (ℕ → Option (List ℕ) → Type 0) → Type 0
HoldsOfAll (Err (Open fault)) slots before after P = after ≡ before
HoldsOfAll end slots before after P = (n : ℕ) × (all : Option (List ℕ)) × IsWritten end slots n before after all × P n all

-- A server ran from the state `start` on one input and came to this end, and a crash left another state, of which `next` is true. However
-- it ended, what it wrote is the serial server's output for the first lines of its input. `next` says what is left of the device.
pub record HasRunFrom (g : Geometry) (slots : ℕ) (start : State) (end : Result (Unit {0}) Fault)
    (input before after : Option (List ℕ)) (next : State → Type 0) : Type 0 where
  -- the state that the crash left
  pub now : State
  -- how many lines that were read may be unanswered in `all`, which is all that was to be written
  pub unanswered : ℕ
  pub all : Option (List ℕ)
  pub written : IsWritten end slots unanswered before after all
  pub recovers : WritesOutput input before all (RecoversTo g unanswered start now)
  -- if the server ended without a fault, all of its input was answered
  pub all_answered : OnOk end (WritesOutput input before after (λ bytes out. out ≡ serial_output g start bytes))
  pub goes_on : next now

-- ---- the same of the bytes of a device

-- The old device recovered to the state `start`. These bytes recover to a state to which a crash may bring the device of a server that
-- began with `start` and had this input and output. The condition `keeps` of `RecoveredTo` is true here (`Unit {0}`).
pub record HoldsRecovered (slots : ℕ) (old : Medium) (input before after : Option (List ℕ)) (bytes : List ℕ) : Type 0 where
  pub geometry : Geometry
  pub start : State
  pub recovered_before : RecoveredTo (Unit {0}) old geometry start
  pub recovered : BytesRecover geometry slots start input before after bytes

-- ---- a run on a device

-- The device recovers to this state, and all of it is synced. `recover` is how bytes recover to a state.
abbrev pub HoldsState : (List ℕ → Option State) → Medium → State → Type 0
HoldsState recover m x = (recover m.now ≡ Some x) × IsSynced m

-- A server with this end opened its device, unless that failed or memory was wanting.
abbrev pub OpensUnlessFailed : Result (Unit {0}) Fault → Type 0
OpensUnlessFailed end = (fault : OpenFault) → end ≡ Err (Open fault) → (fault ≡ opening.Device) ⊎ (fault ≡ opening.OutOfMemory)

-- If the device held a state, a server opened it, unless that failed or memory was wanting. From that state it ran so, to the state to
-- which the bytes recover that a crash leaves, whichever these are.
abbrev pub LeavesRun : Geometry → (List ℕ → Option State) → ℕ → Medium → Medium
    → Result (Unit {0}) Fault → Option (List ℕ) → Option (List ℕ) → Option (List ℕ) → Type 0
LeavesRun g recover slots old new end input before after = (start : State) → HoldsState recover old start
    → OpensUnlessFailed end
    × ((c : List ℕ) → IsCrashImage new c → HasRunFrom g slots start end input before after (λ now. recover c ≡ Some now))

-- ---- all that is promised of a service on a device

-- The service found the device as `old`, left it as `new` and came to this end. Whatever a crash leaves then holds what was sent, and
-- recovers to a state with it; where a write failed, all that was to be sent by that, too.
pub record ServicePromise (keeps : Type 0) (s : ServeOptions) (old new : Medium) (end : Result (Unit {0}) Fault) (x : Exchange)
    : Type 0 where
  pub ends : EndsOnDevice keeps s old new end x
  pub crash_safe : CrashesSafely keeps s old new end x
  pub kept : HoldsOfAll end s.slots x.before x.written (λ unanswered all. keeps → (c : List ℕ) → IsCrashImage new c
      → HoldsAcknowledged unanswered old x.input x.before all c)
  pub recovers : HoldsOfAll end s.slots x.before x.written (λ unanswered all. keeps → (c : List ℕ) → IsCrashImage new c
      → HoldsRecovered unanswered old x.input x.before all c)
  pub goes_on : keeps → (g : Geometry) → LeavesRun g (recovered_state g) s.slots old new end x.input x.before x.written
