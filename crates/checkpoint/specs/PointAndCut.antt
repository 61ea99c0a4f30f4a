-- Inner: The steps of a point and of a cut on a device: what each asks of it, and what is on it afterwards.
use Rattle.std.specs.Prelude.{◌≡◌, ◌<◌, ◌==◌, if◌then◌else◌, ℕ, true, false, List, [], ◌++◌, Option, Bool, Some, None}
use Rattle.affinity.specs.declared.geometry.Geometry.{Geometry}
use Rattle.recovery.specs.Recovery.{recovered_state, decoding}
use Rattle.disk.specs.Device.{Medium, IsSynced}
use Rattle.image.specs.Image.{image_state, version_in}
use Rattle.image.specs.declared.layout.TheConstants.{VERSION}
use Rattle.checkpoint.specs.Images.{image_in}
use Rattle.checkpoint.specs.Extents.{AgreeOnClean}
use Rattle.checkpoint.specs.RecoversByArea.{RecoversByArea, run_on, RecoversWith, area_state}
use Rattle.checkpoint.specs.DirtyPieces.{count_dirty}
use Rattle.oplog.specs.Changes.{IsReady}
use Rattle.oplog.specs.HalfContent.{chain, front}
use Rattle.device_map.specs.Layout.{layout_of, other}
use Rattle.oplog.specs.Log.{Log}
use Rattle.oplog.specs.Recovery.{is_laid_out, named_area, records_in}
use Rattle.meaning.specs.State.{State}

-- A step is over and durable: nothing is unsynced, and the device recovers to x by this area, with this half as the current one, which
-- has this many records and is ready for more.
pub record LastsAt (g : Geometry) (area half used : ℕ) (x : Option State) (m : Medium) : Type 0 where
  pub recovers : RecoversByArea g area half x m
  pub ready : IsReady (layout_of g) half used m
  pub synced : IsSynced m

-- The other area is named, with this image, no record and all its room. The image that was named is as it was.
pub record IsPointed (log : Log) (bytes : List ℕ) (old new : Medium) : Type 0 where
  pub at : LastsAt log.geometry (other log.named) (other log.named) 0 (recovered_state log.geometry old.now) new
  pub emptied : records_in log.geometry new.now ≡ []
  pub is : image_in log.geometry (other log.named) new ≡ bytes
  pub kept : image_in log.geometry log.named new ≡ image_in log.geometry log.named old

-- The other half is in force after the named one, with no record and all its room. The records in force and both images
-- are as they were.
pub record IsCutBegun (log : Log) (old new : Medium) : Type 0 where
  pub at : LastsAt log.geometry log.named (other log.named) 0 (recovered_state log.geometry old.now) new
  pub none : front (layout_of log.geometry) (other log.named) new.now ≡ []
  pub same_records : records_in log.geometry new.now ≡ records_in log.geometry old.now
  pub images : (i : ℕ) → i < 2 → image_in log.geometry i new ≡ image_in log.geometry i old

-- The device recovers to a state by both halves, and would by the other area alone: these bytes are its image, and the records of
-- the other half lead from there to what the device recovers to.
pub record IsCutWritten (log : Log) (bytes : List ℕ) (m : Medium) : Type 0 where
  pub by : RecoversWith log (other log.named) m
  pub ready : IsReady (layout_of log.geometry) (other log.named) log.used m
  pub is : image_in log.geometry (other log.named) m ≡ bytes
  pub behind : run_on log.geometry (image_state log.geometry bytes) (front (layout_of log.geometry) (other log.named) m.now)
      ≡ recovered_state log.geometry m.now

-- The other area is named, with the records that it had: they alone are in force. Both images are as they were.
pub record IsFlipped (log : Log) (old new : Medium) : Type 0 where
  pub at : LastsAt log.geometry (other log.named) (other log.named) log.used (recovered_state log.geometry old.now) new
  pub before : records_in log.geometry old.now ≡ front (layout_of log.geometry) log.named old.now ++ records_in log.geometry new.now
  pub alone : records_in log.geometry new.now ≡ front (layout_of log.geometry) (other log.named) new.now
  pub images : (i : ℕ) → i < 2 → image_in log.geometry i new ≡ image_in log.geometry i old

-- Both halves are in force, nothing is unsynced, and these bytes are the image of what the named area holds by itself.
pub record IsCutUnfinished (log : Log) (bytes : List ℕ) (m : Medium) : Type 0 where
  pub synced : IsSynced m
  pub laid : is_laid_out (decoding log.geometry) (layout_of log.geometry) m.now ≡ true
  pub named : named_area (layout_of log.geometry) m.now ≡ log.named
  pub chained : (chain (layout_of log.geometry) log.named m.now == 1) ≡ true
  pub reads : image_state log.geometry bytes ≡ area_state log.geometry log.named m.now

-- The other area is named and recovers to the same by itself, and nothing is unsynced. Its half has the records that it had,
-- and its image is that of what the area named before held by itself.
pub record IsCutFinished (log : Log) (old new : Medium) : Type 0 where
  pub recovers : RecoversByArea log.geometry (other log.named) (other log.named) (recovered_state log.geometry old.now) new
  pub reads : image_state log.geometry (image_in log.geometry (other log.named) new) ≡ area_state log.geometry log.named old.now
  pub front : front (layout_of log.geometry) (other log.named) new.now ≡ front (layout_of log.geometry) (other log.named) old.now
  pub named : named_area (layout_of log.geometry) new.now ≡ other log.named
  pub synced : IsSynced new

-- ---- the log after a step (`cleared`: the half that isn't named was emptied for a new use)

-- after a point
abbrev pub pointed_log : Log → Log
pointed_log log = record log { named = other log.named; current = other log.named; used = 0; cleared = false }

-- after the end of a cut, whose records stay in the current half
abbrev pub flipped_log : Log → Log
flipped_log log = record log { named = other log.named; cleared = false }

-- once a cut that was in progress is finished; its half counts as empty if it was cleared, else as full, since its room isn't known
abbrev pub finished_log : Log → Log
finished_log log = record log {
  named = other log.named;
  current = other log.named;
  used = if log.cleared then 0 else log.geometry.half;
  cleared = false;
}

-- A cut is in progress: its image, with the records of the other half run on it, leads to what the device recovers to, and
-- each of its extents that isn't pending is on the device. Its image has the version that is written.
pub record IsCut (log : Log) (snapshot : List ℕ) (pending : List Bool) (m : Medium) : Type 0 where
  pub behind : run_on log.geometry (image_state log.geometry snapshot) (front (layout_of log.geometry) (other log.named) m.now)
      ≡ recovered_state log.geometry m.now
  pub written : AgreeOnClean log.geometry pending (image_in log.geometry (other log.named) m) snapshot
  pub version : version_in snapshot ≡ VERSION

-- While a cut is in progress, its snapshot and records lead to what the device recovers to (`IsCut`).
abbrev pub IsCutIfRunning : Log → List ℕ → List Bool → Option ℕ → Medium → Type 0
IsCutIfRunning log snapshot pending None m = Unit {0}
IsCutIfRunning log snapshot pending (Some pieces_left) m = IsCut log snapshot pending m

-- which half is current, and how many extents are pending
abbrev pub FitsCutState : Log → List Bool → Option ℕ → Type 0
FitsCutState log pending None = log.current ≡ log.named
FitsCutState log pending (Some pieces_left) = (log.current ≡ other log.named) × (count_dirty pending ≡ pieces_left)

-- the image of the area that isn't named: the one it has, or while a cut is in progress the one it will have
abbrev pub image_after_cut : Log → List ℕ → Option ℕ → Medium → List ℕ
image_after_cut log snapshot None m = image_in log.geometry (other log.named) m
image_after_cut log snapshot (Some pieces_left) m = snapshot
