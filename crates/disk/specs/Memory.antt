-- Statement for engineers: A device in memory as contracts see it, and what each call and a crash make of it.
use Rattle.std.specs.Prelude.{ℕ, ◌+◌, ◌-◌, ◌^◌, min, if◌then◌else◌, nat_lt, List, length, Result, Ok, Err}
use Rattle.disk.specs.declared.fault.DiskFault.{DiskFault}
use Rattle.disk.specs.declared.fault.DiskFault.TheVariants.{OutOfRange, Device}
use Rattle.disk.specs.declared.injected_fault.InjectedFault.{InjectedFault}
use Rattle.disk.specs.declared.injected_fault.InjectedFault.TheVariants.{Off}
use Rattle.disk.specs.declared.torn.Torn.{Torn}
use Rattle.disk.specs.declared.memory.MemDisk.{MemDisk}
use Rattle.disk.specs.Device.{Medium, fresh_synced, overlaid, written, synced, failed}
use Rattle.disk.specs.GhostDevice.{failed_write}
use Rattle.disk.specs.InjectedFault.{fails_next, counted_down}
use Rattle.disk.specs.CrashImages.{torn_byte, torn_from}

-- a device in memory: what contracts see of any device, and what decides how it fails and what a crash leaves
pub record Memory : Type 0 where
  pub medium : Medium
  -- the bytes at the last sync
  pub last_synced : List ℕ
  -- at an unsynced offset, the byte of the last write there, even if it failed
  pub last_written : List ℕ
  pub injected_fault : InjectedFault
  -- how many reads, writes and syncs there were, without those out of range; it saturates
  pub calls : ℕ

abbrev pub memory_of : MemDisk → Memory
memory_of d = record {
  medium = d.ghost_device.medium;
  last_synced = d.last_synced.items;
  last_written = d.last_written.items;
  injected_fault = d.call_counter.injected_fault;
  calls = d.call_counter.calls;
}

abbrev pub medium_of : MemDisk → Medium
medium_of d = d.ghost_device.medium

-- a device that has just been made, with these bytes
abbrev pub made : List ℕ → Memory
made bytes = record { medium = fresh_synced bytes; last_synced = bytes; last_written = bytes; injected_fault = Off; calls = 0 }

-- a device once one more call is counted
abbrev pub counted : Memory → Memory
counted m = record m { injected_fault = counted_down m.injected_fault; calls = min (m.calls + 1) (2 ^ 64 - 1) }

-- the answer to a call for n bytes from this offset on
abbrev pub call_result : ℕ → ℕ → Memory → Result (Unit {0}) DiskFault
call_result at n m =
    if nat_lt (length m.medium.now) (at + n) then Err OutOfRange
    else if fails_next m.injected_fault then Err Device
    else Ok tt

-- a device after a read with this answer
abbrev pub after_read : Result (Unit {0}) DiskFault → Memory → Memory
after_read (Ok _) m = counted m
after_read (Err OutOfRange) m = m
after_read (Err Device) m = record (counted m) { medium = failed m.medium }

-- A device after a write with this answer. A write that fails changes nothing that a read gives.
abbrev pub after_write : Result (Unit {0}) DiskFault → ℕ → List ℕ → Memory → Memory
after_write (Ok _) at bytes m = record (counted m) { medium = written at bytes m.medium; last_written = overlaid m.last_written at bytes }
after_write (Err OutOfRange) at bytes m = m
after_write (Err Device) at bytes m =
    record (counted m) { medium = failed_write at (length bytes) m.medium; last_written = overlaid m.last_written at bytes }

-- a device after a sync with this answer
abbrev pub after_sync : Result (Unit {0}) DiskFault → Memory → Memory
after_sync (Ok _) m = record (counted m) { medium = synced m.medium; last_synced = m.medium.now }
after_sync (Err OutOfRange) m = m
after_sync (Err Device) m = record (counted m) { medium = failed m.medium }

-- what a crash of this kind leaves (the zeros: from offset 0 on, with 0 unsynced bytes below it)
abbrev pub crashed : Torn → Memory → List ℕ
crashed kind m = torn_from (torn_byte kind m.last_synced m.last_written) 0 0 m.medium.unsynced m.medium.now

-- the device after a crash of this kind
abbrev pub after_crash : Torn → Memory → Memory
after_crash kind m = record (made (crashed kind m)) { last_written = m.last_written }
