-- Statement for engineers: The images on a device: their bytes, and what the steps of a point and of a cut change of them.
use Rattle.std.specs.Prelude.{◌≡◌, ◌≢◌, ◌<◌, ℕ, List}
use Rattle.affinity.specs.declared.geometry.Geometry.{Geometry}
use Rattle.image.specs.Pieces.{piece_count}
use Rattle.checkpoint.specs.Extents.{extent_in}
use Rattle.oplog.specs.Changes.{IsSameBut}
use Rattle.device_map.specs.Layout.{image_part, layout_of, other, part_bytes}
use Rattle.oplog.specs.Recovery.{named_area}
use Rattle.disk.specs.Device.{Medium, IsSynced}

-- the bytes of the image of an area
abbrev pub image_in : Geometry → ℕ → Medium → List ℕ
image_in g area m = part_bytes (layout_of g) (image_part area) m.now

-- The image of an area has these bytes, nothing else has changed, and nothing is unsynced.
pub record Imaged (g : Geometry) (area : ℕ) (bytes : List ℕ) (old new : Medium) : Type 0 where
  pub same : IsSameBut (layout_of g) (image_part area) old.now new.now
  pub is : image_in g area new ≡ bytes
  pub synced : IsSynced new

-- Extent n is now that of these bytes, and each other one is as it was.
pub record IsPatchedAt (g : Geometry) (n : ℕ) (bytes old new : List ℕ) : Type 0 where
  pub is : extent_in g new n ≡ extent_in g bytes n
  pub others : (i : ℕ) → i < piece_count g → i ≢ n → extent_in g new i ≡ extent_in g old i

-- Both images are as they were.
abbrev pub KeepsImages : Geometry → List ℕ → List ℕ → Type 0
KeepsImages g old new = (i : ℕ) → i < 2 → part_bytes (layout_of g) (image_part i) new ≡ part_bytes (layout_of g) (image_part i) old

-- At most one piece of this image differs, the head of the image counting with the first, and nothing else does.
pub record PatchesAt (g : Geometry) (area : ℕ) (old new : List ℕ) : Type 0 where
  pub piece : ℕ
  pub same : IsSameBut (layout_of g) (image_part area) old new
  pub others : (n : ℕ) → n < piece_count g → n ≢ piece
      → extent_in g (part_bytes (layout_of g) (image_part area) new) n ≡ extent_in g (part_bytes (layout_of g) (image_part area) old) n

-- At most one piece of the image that isn't named differs, and nothing else does.
abbrev pub PatchesUnnamed : Geometry → List ℕ → List ℕ → Type 0
PatchesUnnamed g old new = PatchesAt g (other (named_area (layout_of g) old)) old new
