-- Statement for engineers: What each step of an opening does to its device, and each that only reads.
use Rattle.std.specs.Prelude.{◌≡◌, ◌≢◌, length, IfErr, Result}
use Rattle.recovery.specs.declared.fault.OpenFault.{OpenFault}
use Rattle.recovery.specs.declared.fault.OpenFault.TheVariants.{OutOfMemory}
use Rattle.recovery.specs.OpenFaults.{CountsOpenFault}
use Rattle.disk.specs.Device.{Medium, moments}

-- What every step of opening does to its device: it counts a failure exactly where it reports `Device`, and the device
-- stays as long as it was.
abbrev pub IsOpeningCall : {T : Type 0} → Result T OpenFault → Medium → Medium → Type 0
IsOpeningCall result old new = CountsOpenFault result old.faults new.faults × (length new.now ≡ length old.now)

-- What every step that only reads does: the same, no moment is added, and it never reports `OutOfMemory`.
pub record IsReadingCall {T : Type 0} (keeps : Type 0) (result : Result T OpenFault) (old new : Medium) : Type 0 where
  pub counts : CountsOpenFault result old.faults new.faults
  pub len : length new.now ≡ length old.now
  pub untouched : keeps → moments new ≡ moments old
  pub never_out_of_memory : IfErr result (λ e. e ≢ OutOfMemory)
