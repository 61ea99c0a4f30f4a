-- Statement for engineers: The faults of an opening: what each is of, and which bytes show it.
use Rattle.std.specs.Prelude.{◌≡◌, ℕ, ◌+◌, not, List, Option, Some, None, is_none, Result, Ok, Err}
use Rattle.affinity.specs.declared.geometry.Geometry.{Geometry}
use Rattle.recovery.specs.declared.fault.OpenFault.{OpenFault}
use Rattle.recovery.specs.declared.fault.OpenFault.TheVariants.{Device, TooShort, NotFormatted, BadGeometry, OutOfMemory, BadVersion, BadPiece, BadRecord}
use Rattle.recovery.specs.Recovery.{after_record}
use Rattle.recovery.specs.Refusals.{fault_if, fault_or_later, first_bad_piece, first_bad_record}
use Rattle.image.specs.Image.{has_head}
use Rattle.oplog.specs.declared.halves.LogFault.{LogFault}
use Rattle.oplog.specs.declared.halves.LogFault.TheVariants as log
use Rattle.meaning.specs.State.{State}

-- A call adds one to the count of the device's failures exactly where it reports `Device`.
abbrev pub CountsOpenFault : {T : Type 0} → Result T OpenFault → ℕ → ℕ → Type 0
CountsOpenFault (Ok _) old new = new ≡ old
CountsOpenFault (Err Device) old new = new ≡ old + 1
CountsOpenFault (Err _) old new = new ≡ old

-- This fault is `Device` or `OutOfMemory`, which no bytes show, or the given one, which is of a device with a header.
abbrev pub IsConsistentFault : Option OpenFault → OpenFault → Type 0
IsConsistentFault given Device = Unit {0}
IsConsistentFault given OutOfMemory = Unit {0}
IsConsistentFault given NotFormatted = ⊥
IsConsistentFault given BadGeometry = ⊥
IsConsistentFault given fault = given ≡ Some fault

-- The device failed, or the fault is one of its header: nothing behind it was looked at, and no memory taken.
abbrev pub IsOfHeader : OpenFault → Type 0
IsOfHeader Device = Unit {0}
IsOfHeader TooShort = Unit {0}
IsOfHeader NotFormatted = Unit {0}
IsOfHeader BadGeometry = Unit {0}
IsOfHeader fault = ⊥

-- If the fault is a bad record, the record is one of this half.
abbrev pub IsOfHalf : ℕ → OpenFault → Type 0
IsOfHalf half (BadRecord h i) = h ≡ half
IsOfHalf half fault = Unit {0}

-- what a fault of the log is to whoever opens the device
abbrev pub fault_of_log : LogFault → OpenFault
fault_of_log log.Device = Device
fault_of_log (log.BadRecord h i) = BadRecord h i

-- the fault of record i of half h, with these bytes, where it can't be run on a state
abbrev pub record_fault : Geometry → State → ℕ → ℕ → List ℕ → Option OpenFault
record_fault g x h i bytes = fault_if (is_none (after_record g x bytes)) (BadRecord h i) None

-- the fault of the first of these records of half h that can't be run on what those before it make of the state x
abbrev pub records_fault : Geometry → State → ℕ → List (List ℕ) → Option OpenFault
records_fault g x h records = fault_or_later (BadRecord h) (first_bad_record g 0 (Some x) records) None

-- why these bytes can't be read as an image
abbrev pub image_fault : Geometry → List ℕ → Option OpenFault
image_fault g bytes = fault_if (not (has_head bytes)) BadVersion (fault_or_later BadPiece (first_bad_piece g bytes) None)
