-- Inner: The range that a sync looks at.
use Rattle.std.specs.Prelude.{ℕ, ◌-◌, ◌≤◌, false, List, length, replicate}
use Rattle.disk.specs.Device.{Medium, SameOutside}

-- Outside the range from `start` to `end` nothing is unsynced, and the bytes at the last sync (`last`) are what a read gives.
pub record HoldsUnsynced (start end : ℕ) (m : Medium) (last : List ℕ) : Type 0 where
  pub inside : end ≤ length m.now
  pub last_synced : SameOutside start (end - start) m.now last
  pub marks : SameOutside start (end - start) (replicate (length m.now) false) m.unsynced
