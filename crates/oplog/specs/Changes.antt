-- Statement for engineers: How the calls of a log change the bytes of a device, and what a crash leaves while they do.
use Rattle.std.specs.Prelude.{◌≡◌, ◌≢◌, ◌≤◌, ℕ, ◌+◌, ◌-◌, false, List, ◌++◌, length, take, drop, replicate}
use Rattle.disk.specs.Device.{Medium, IsSynced}
use Rattle.disk.specs.CrashImages.{IsCrashImage, After}
use Rattle.device_map.specs.Layout.{Layout, slice, root_part, half_part, part_bytes, part_at, part_size, device_size}
use Rattle.device_map.specs.declared.layout.TheConstants.{CHAIN_ZONE_SIZE}
use Rattle.oplog.specs.Recovery.{named_area}
use Rattle.oplog.specs.HalfContent.{chain, gates, front, count_open}

-- ---- from the bytes old to the bytes c

-- Only part p differs: no other part does, nor what lies behind the parts.
pub record IsSameBut (l : Layout) (p : ℕ) (old c : List ℕ) : Type 0 where
  pub size : length c ≡ length old
  pub others : (q : ℕ) → q ≢ p → part_bytes l q c ≡ part_bytes l q old
  pub rest : drop (device_size l) c ≡ drop (device_size l) old

-- Only gates and records of half h differ, and its front has grown by these records.
pub record HasAppended (l : Layout) (h : ℕ) (more : List (List ℕ)) (old c : List ℕ) : Type 0 where
  pub same : IsSameBut l (half_part h) old c
  -- its chain byte and the bytes beside it
  pub chain_zone : take CHAIN_ZONE_SIZE (part_bytes l (half_part h) c) ≡ take CHAIN_ZONE_SIZE (part_bytes l (half_part h) old)
  pub front : front l h c ≡ front l h old ++ more

-- Only the chain byte of half h, the bytes beside it, and its gates differ: its records stay.
pub record IsSameButChainAndGates (l : Layout) (h : ℕ) (old c : List ℕ) : Type 0 where
  pub same : IsSameBut l (half_part h) old c
  pub records : drop (CHAIN_ZONE_SIZE + l.capacity) (part_bytes l (half_part h) c)
      ≡ drop (CHAIN_ZONE_SIZE + l.capacity) (part_bytes l (half_part h) old)

-- Only the chain byte of half h differs.
pub record IsSameButChain (l : Layout) (h : ℕ) (old c : List ℕ) : Type 0 where
  pub same : IsSameBut l (half_part h) old c
  pub beside : drop 1 (part_bytes l (half_part h) c) ≡ drop 1 (part_bytes l (half_part h) old)

-- Only the first byte of the root zone differs.
pub record IsSameButRoot (l : Layout) (old c : List ℕ) : Type 0 where
  pub same : IsSameBut l root_part old c
  pub beside : drop 1 (part_bytes l root_part c) ≡ drop 1 (part_bytes l root_part old)

-- ---- what a crash leaves

-- The bytes c are what a crash of the device `before` might have left, with a prefix of these records added to half h.
pub record HasAppendedPrefix (l : Layout) (h : ℕ) (more : List (List ℕ)) (before : Medium) (c : List ℕ) : Type 0 where
  pub added : ℕ
  pub at_most : added ≤ length more
  pub has : After before (HasAppended l h (take added more)) c

-- ---- of a device

-- Half h has k records in its front and gates 0 behind them, and nothing in it is unsynced.
pub record IsReady (l : Layout) (h k : ℕ) (m : Medium) : Type 0 where
  pub used : count_open (gates l h m.now) ≡ k
  pub shut : drop k (gates l h m.now) ≡ replicate (l.capacity - k) 0
  pub synced : slice m.unsynced (part_at l (half_part h)) (part_size l (half_part h)) ≡ replicate (part_size l (half_part h)) false

-- All of these records were added to half h, behind k others, and none of them is unsynced.
pub record HasAppendedAll (l : Layout) (h k : ℕ) (more : List (List ℕ)) (old new : Medium) : Type 0 where
  pub has : HasAppended l h more old.now new.now
  pub ready : IsReady l h (k + length more) new
  pub left : (c : List ℕ) → IsCrashImage new c → After old (HasAppended l h more) c
  -- if nothing was unsynced before, nothing is now
  pub synced : IsSynced old → IsSynced new

-- The chain byte of half h, the bytes beside it and its gates are 0, and nothing is unsynced.
pub record Cleared (l : Layout) (h : ℕ) (old new : Medium) : Type 0 where
  pub same : IsSameButChainAndGates l h old.now new.now
  pub zeros : take (CHAIN_ZONE_SIZE + l.capacity) (part_bytes l (half_part h) new.now) ≡ replicate (CHAIN_ZONE_SIZE + l.capacity) 0
  pub chain : chain l h new.now ≡ 0
  pub ready : IsReady l h 0 new
  pub synced : IsSynced new

-- The chain byte of half h is 1, and nothing is unsynced.
pub record Chained (l : Layout) (h : ℕ) (old new : Medium) : Type 0 where
  pub same : IsSameButChain l h old.now new.now
  pub chain : chain l h new.now ≡ 1
  pub synced : IsSynced new

-- The root zone names area n, and nothing is unsynced.
pub record Flipped (l : Layout) (n : ℕ) (old new : Medium) : Type 0 where
  pub same : IsSameButRoot l old.now new.now
  pub named : named_area l new.now ≡ n
  pub synced : IsSynced new
