-- Statement for engineers: What the calls of a device make of its ghost device (the list of its calls, which is there for contracts alone).
use Rattle.std.specs.Prelude.{ℕ, ◌+◌, List, [], ◌∷◌, ◌++◌, length, replicate}
use Rattle.disk.specs.declared.ghost_device.Call.{Call}
use Rattle.disk.specs.declared.ghost_device.Call.TheVariants.{Created, Wrote, FailedWrite, Synced, Failed, OpenedSynced, OpenedUnsynced}
use Rattle.disk.specs.declared.ghost_device.ByteList.{ByteList, Empty, More'}
use Rattle.disk.specs.declared.ghost_device.CallList.{CallList, Nothing, After'}
use Rattle.disk.specs.Device.{Medium, moments, marked, fresh_synced, fresh_unsynced, written, synced, failed}

-- a device after a failed write of n bytes: a read gives what it gave before, but the range counts as unsynced
abbrev pub failed_write : ℕ → ℕ → Medium → Medium
failed_write at n m = record { now = m.now; unsynced = marked m.unsynced at n; past = moments m; faults = m.faults + 1 }

-- a device after this call, which was given these bytes. Of a file that was opened contracts see zeros, whatever it holds: `D.keeps` is
-- false of it.
abbrev pub medium_after : Call → List ℕ → Medium → Medium
medium_after Created bytes m = fresh_synced bytes
medium_after (Wrote at) bytes m = written at bytes m
medium_after (FailedWrite at) bytes m = failed_write at (length bytes) m
medium_after Synced bytes m = synced m
medium_after Failed bytes m = failed m
medium_after (OpenedSynced size) bytes m = fresh_synced (replicate size 0)
medium_after (OpenedUnsynced size) bytes m = fresh_unsynced (replicate size 0)

-- The bytes of a list that has the newest one first, put in order. `More'` and `After'` are `More` and `After` of the Rust types: a
-- snapshot is two arguments there, the second of them its value.
abbrev pub bytes_of : ByteList → List ℕ
bytes_of Empty = []
bytes_of (More' byte _ before) = bytes_of before ++ byte ∷ []

-- a ghost device as contracts see it
pub record GhostDeviceView : Type 0 where
  pub medium : Medium

-- a device after these calls
abbrev pub medium_after_all : CallList → Medium
medium_after_all Nothing = fresh_synced []
medium_after_all (After' call bytes _ before) = medium_after call (bytes_of bytes.value) (medium_after_all before)
