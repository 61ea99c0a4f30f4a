-- Statement for engineers: What the named area of a device holds.
use Rattle.std.specs.Prelude.{◌≡◌, ◌≤◌, ℕ, Bool, false, ◌&&◌, ◌==◌, List, length, Some, None}
use Rattle.affinity.specs.declared.geometry.Geometry.{Geometry}
use Rattle.recovery.specs.Header.{HasHeader}
use Rattle.recovery.specs.Recovery.{decoding}
use Rattle.recovery.specs.OpenFaults.{image_fault}
use Rattle.image.specs.Image.{image_state}
use Rattle.oplog.specs.HalfContent.{chain, front}
use Rattle.oplog.specs.Recovery.{named_area, run}
use Rattle.device_map.specs.Layout.{Layout, device_size, image_part, layout_of, part_bytes}
use Rattle.meaning.specs.State.{State}

-- the chain bytes of both halves are 1
abbrev pub are_both_chained : Layout → List ℕ → Bool
are_both_chained l c = (chain l 0 c == 1) && (chain l 1 c == 1)

-- A device with these bytes has a header of this geometry and all its parts; `area` is its named area, and `chained` says whether the chain
-- byte of the half there is 1. The image there has no fault, at most one chain byte is 1, and the records of the named half lead from the
-- state of that image to the state x.
pub record NamedHolds (g : Geometry) (c : List ℕ) (area : ℕ) (chained : Bool) (x : State) : Type 0 where
  pub header : HasHeader g c
  pub long_enough : device_size (layout_of g) ≤ length c
  pub named : area ≡ named_area (layout_of g) c
  pub chain : chained ≡ (chain (layout_of g) area c == 1)
  pub one : are_both_chained (layout_of g) c ≡ false
  pub sound : image_fault g (part_bytes (layout_of g) (image_part area) c) ≡ None
  pub first : State
  pub decoded : image_state g (part_bytes (layout_of g) (image_part area) c) ≡ Some first
  pub ran : run (decoding g) (Some first) (front (layout_of g) area c) ≡ Some x
