-- Statement for engineers: What a write over a range of a device leaves.
use Rattle.std.specs.Prelude.{◌≡◌, ℕ, List}
use Rattle.disk.specs.Device.{Medium, SameOutside, IsSynced, overlaid}

-- Outside the n bytes from offset `at` on nothing has changed, neither what a read gives nor what is unsynced.
pub record TouchesOnly (at n : ℕ) (old new : Medium) : Type 0 where
  pub now : SameOutside at n old.now new.now
  pub unsynced : SameOutside at n old.unsynced new.unsynced

-- These bytes lie at offset `at`, all others are as they were, and nothing is unsynced.
pub record Stored (at : ℕ) (bytes : List ℕ) (old new : Medium) : Type 0 where
  pub now : new.now ≡ overlaid old.now at bytes
  pub synced : IsSynced new
