-- Statement for operators: What it is to open a device: which state is opened, what a crash leaves meanwhile, and what a refusal leaves.
use Rattle.std.specs.Prelude.{◌≡◌, ◌≢◌, ◌⊎◌, ℕ, List, [], Some, None}
use Rattle.affinity.specs.declared.geometry.Geometry.{Geometry}
use Rattle.recovery.specs.declared.fault.OpenFault.{OpenFault}
use Rattle.recovery.specs.declared.fault.OpenFault.TheVariants.{Device, BadRecord}
use Rattle.recovery.specs.Header.{HasHeader}
use Rattle.recovery.specs.Recovery.{recovered_state}
use Rattle.recovery.specs.Refusals.{HasHeaderAndParts, refused}
use Rattle.recovery.specs.Version.{named_version}
use Rattle.disk.specs.Device.{Medium, IsSynced}
use Rattle.disk.specs.CrashImages.{IsCrashImage, CrashImagesAre}
use Rattle.checkpoint.specs.Journal.{JournalView, IsRecoverable, records, committed}
use Rattle.checkpoint.specs.DirtyPieces.{opened_dirty}
use Rattle.checkpoint.specs.RecoversByArea.{area_state}
use Rattle.image.specs.Image.{image_state}
use Rattle.image.specs.declared.layout.TheConstants.{VERSION}
use Rattle.device_map.specs.Layout.{image_part, layout_of, part_bytes}
use Rattle.oplog.specs.Recovery.{named_area}
use Rattle.meaning.specs.State.{State, IsState}

-- A device was opened: it isn't refused, and the journal holds the state to which it recovered, with no record in force, now
-- and in whatever a crash leaves now. The named image is that of this state, in the version that is written; of the other one nothing is
-- known.
pub record IsOpened (old : Medium) (j : JournalView) (x : State) : Type 0 where
  pub header : HasHeader j.geometry old.now
  pub accepted : refused j.geometry old.now ≡ None
  pub was : recovered_state j.geometry old.now ≡ Some x
  pub is : committed j ≡ Some x
  pub version : named_version j.geometry j.medium.now ≡ VERSION
  pub recoverable : IsRecoverable j
  pub emptied : records j ≡ []
  pub dirty : j.dirty ≡ opened_dirty j.geometry
  pub state : IsState j.geometry x

-- ---- what a crash leaves

-- These bytes recover to what those before recovered to, or are refused for the same fault as they were. Bytes that were no
-- device with a header and all its parts are as they were.
pub record RecoversAsBefore (before c : List ℕ) : Type 0 where
  pub same : (g : Geometry) (x : State) → recovered_state g before ≡ Some x → recovered_state g c ≡ Some x
  pub alike : (g : Geometry) (fault : OpenFault) → HasHeader g before → refused g before ≡ Some fault
      → HasHeader g c × (refused g c ≡ Some fault)
  pub kept : (HasHeaderAndParts before → ⊥) → c ≡ before

-- The first sync is over: nothing was unsynced then, and from then on a crash leaves what recovers to the same, or is refused
-- for the same fault.
pub record IsPastSync (old synced new : Medium) : Type 0 where
  pub is_synced : IsSynced synced
  pub now : synced.now ≡ old.now
  pub later : CrashImagesAre synced new (RecoversAsBefore old.now)

-- A crash at any moment from `old` to `new` leaves what a crash of `old` might have left, until the first sync is over; and
-- from then on what recovers to the same as the device did, or is refused for the same fault.
pub record OpeningCrashImages (old new : Medium) : Type 0 where
  pub synced : Medium
  pub first : CrashImagesAre old synced (IsCrashImage old)
  pub rest : (new ≡ synced) ⊎ IsPastSync old synced new

-- ---- what a refusal leaves

-- Nothing was written: the bytes are as they were, and a crash leaves only what a crash of `old` might have left.
pub record IsUnwritten (old new : Medium) : Type 0 where
  pub now : new.now ≡ old.now
  pub later : CrashImagesAre old new (IsCrashImage old)

-- A cut in progress was finished, and record i of the half that was after the named one is bad. The area of that half is
-- named now, its image is that of the state which the area named before had by itself, nothing is unsynced, and the device is
-- still refused for this record.
pub record IsBadAfterCut (g : Geometry) (h i : ℕ) (old new : Medium) : Type 0 where
  pub named : named_area (layout_of g) new.now ≡ h
  pub image : image_state g (part_bytes (layout_of g) (image_part h) new.now) ≡ area_state g (named_area (layout_of g) old.now) old.now
  pub synced : IsSynced new
  pub header : HasHeader g new.now
  pub refused : refused g new.now ≡ Some (BadRecord h i)

-- A refusal with this fault leaves the device unwritten, unless the device failed, or the bad record is one of the half
-- after the named one, which is reported once the cut was finished.
abbrev pub IsLeftByRefusal : Medium → OpenFault → Medium → Type 0
IsLeftByRefusal old Device new = Unit {0}
IsLeftByRefusal old (BadRecord h i) new =
    (g : Geometry) → HasHeader g old.now
    → (h ≡ named_area (layout_of g) old.now → IsUnwritten old new) × (h ≢ named_area (layout_of g) old.now → IsBadAfterCut g h i old new)
IsLeftByRefusal old fault new = IsUnwritten old new
