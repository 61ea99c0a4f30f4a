-- Statement for clients: A device of bytes: what its calls do to it, and how many of them are writes and syncs.
use Rattle.std.specs.Prelude.{◌≡◌, ℕ, zero, suc, ◌+◌, Bool, true, false, List, [], ◌∷◌, length, take, drop, replicate, slice_range, Result, Ok, Err, OnOk, IsErrOf, ◌≤◌}
use Rattle.disk.specs.declared.fault.DiskFault.{DiskFault}
use Rattle.disk.specs.declared.fault.DiskFault.TheVariants.{OutOfRange, Device}

-- A device at one moment: what a read gives, and for each offset whether it is unsynced, that is, written since the
-- last sync that succeeded.
pub record Moment : Type 0 where
  pub now : List ℕ
  pub unsynced : List Bool

-- A device as contracts see it. `past` has the moments before this one, the newest first, and `faults` counts how
-- often the device has failed. Both are for contracts alone: no memory holds them, and they have no greatest value.
pub record Medium : Type 0 where
  pub now : List ℕ
  pub unsynced : List Bool
  pub past : List Moment
  pub faults : ℕ

-- nothing is unsynced
abbrev pub IsSynced : Medium → Type 0
IsSynced m = m.unsynced ≡ replicate (length m.now) false

-- the list with these items from an offset on; what would lie past its end is left out
abbrev pub overlaid : {X : Type 0} → List X → ℕ → List X → List X
overlaid [] at items = []
overlaid (x ∷ xs) zero [] = x ∷ xs
overlaid (x ∷ xs) zero (y ∷ items) = y ∷ overlaid xs zero items
overlaid (x ∷ xs) (suc at) items = x ∷ overlaid xs at items

-- the flags after a write of n bytes from this offset on
abbrev pub marked : List Bool → ℕ → ℕ → List Bool
marked unsynced at n = overlaid unsynced at (replicate n true)

-- two lists of one length that differ at most in the n items from this offset on
pub record SameOutside {X : Type 0} (at n : ℕ) (old new : List X) : Type 0 where
  pub before : take at new ≡ take at old
  pub after : drop (at + n) new ≡ drop (at + n) old
  pub size : length new ≡ length old

-- every moment so far, this one first
abbrev pub moments : Medium → List Moment
moments m = record { now = m.now; unsynced = m.unsynced } ∷ m.past

-- the number of the device's present moment: how many writes and syncs came before (a sync that failed adds none)
abbrev pub moment_number : Medium → ℕ
moment_number m = length m.past

-- a device with these bytes, all of them synced, without an earlier moment or a failure
abbrev pub fresh_synced : List ℕ → Medium
fresh_synced bytes = record { now = bytes; unsynced = replicate (length bytes) false; past = []; faults = 0 }

-- a device with these bytes, none of which counts as synced, without an earlier moment or a failure
abbrev pub fresh_unsynced : List ℕ → Medium
fresh_unsynced bytes = record { now = bytes; unsynced = replicate (length bytes) true; past = []; faults = 0 }

-- a device after a write of these bytes from offset `at` on
abbrev pub written : ℕ → List ℕ → Medium → Medium
written at bytes m =
    record { now = overlaid m.now at bytes; unsynced = marked m.unsynced at (length bytes); past = moments m; faults = m.faults }

-- a device after a sync: a crash leaves what a read gives
abbrev pub synced : Medium → Medium
synced m = record { now = m.now; unsynced = replicate (length m.now) false; past = moments m; faults = m.faults }

-- a device after a read or a sync that failed
abbrev pub failed : Medium → Medium
failed m = record { now = m.now; unsynced = m.unsynced; past = m.past; faults = m.faults + 1 }

-- A write of n bytes failed: its range counts as written, and what a read gives there is unspecified.
pub record FailsToWrite (at n : ℕ) (old new : Medium) : Type 0 where
  pub bytes : SameOutside at n old.now new.now
  pub unsynced : new.unsynced ≡ marked old.unsynced at n
  pub past : new.past ≡ moments old
  pub faults : new.faults ≡ old.faults + 1

-- what a read into `out` answers and does, of a device that keeps its bytes
pub record Reads (at : ℕ) (out : List ℕ) (result : Result (Unit {0}) DiskFault) (old new : Medium) : Type 0 where
  pub ok : OnOk result ((new ≡ old) × (out ≡ slice_range old.now at (at + length out)))
  pub outside : IsErrOf result OutOfRange → new ≡ old
  pub device : IsErrOf result Device → new ≡ failed old

-- what a write answers and does, of a device that keeps its bytes
pub record Writes (at : ℕ) (bytes : List ℕ) (result : Result (Unit {0}) DiskFault) (old new : Medium) : Type 0 where
  pub ok : OnOk result (new ≡ written at bytes old)
  pub outside : IsErrOf result OutOfRange → new ≡ old
  pub device : IsErrOf result Device → FailsToWrite at (length bytes) old new

-- what a sync answers and does, of a device that keeps its bytes
pub record Syncs (result : Result (Unit {0}) DiskFault) (old new : Medium) : Type 0 where
  pub ok : OnOk result (new ≡ synced old)
  pub outside : IsErrOf result OutOfRange → ⊥
  pub device : IsErrOf result Device → new ≡ failed old

-- A call adds one to the count of failures exactly where it returns `Device`.
abbrev pub CountsFault : {T : Type 0} → Result T DiskFault → ℕ → ℕ → Type 0
CountsFault (Ok _) old new = new ≡ old
CountsFault (Err OutOfRange) old new = new ≡ old
CountsFault (Err Device) old new = new ≡ old + 1

-- What every call of a device does, whatever it is for: it counts a failure exactly where it returns `Device`, and the
-- device stays as long as it was.
abbrev pub IsDeviceCall : {T : Type 0} → Result T DiskFault → Medium → Medium → Type 0
IsDeviceCall result old new = CountsFault result old.faults new.faults × (length new.now ≡ length old.now)

-- What a call does whose range lies within the device: the same, and it is never out of range.
pub record IsCallInside {T : Type 0} (result : Result T DiskFault) (old new : Medium) : Type 0 where
  pub counts : CountsFault result old.faults new.faults
  pub len : length new.now ≡ length old.now
  pub inside : IsErrOf result OutOfRange → ⊥

-- A call with this result made n writes and syncs or, if it failed, at most n. Each adds one moment to the device's past; a sync that fails
-- adds none.
abbrev pub Costs : {T E : Type 0} → Result T E → ℕ → Medium → Medium → Type 0
Costs (Ok _) n old new = moment_number new ≡ moment_number old + n
Costs (Err _) n old new = moment_number new ≤ moment_number old + n
