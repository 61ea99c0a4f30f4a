-- Statement for operators: What a device recovers to: the state of an image with the records in force run on it.
use Rattle.std.specs.Prelude.{ℕ, Bool, not, ◌&&◌, ◌==◌, nat_le, if◌then◌else◌, List, [], ◌∷◌, ◌++◌, length, get_or, Option, Some, None}
use Rattle.affinity.specs.declared.geometry.Geometry.{Geometry}
use Rattle.device_map.specs.Layout.{Layout, layout_of, part_bytes, device_size, header_part, root_part, image_part, other}
use Rattle.oplog.specs.HalfContent.{chain, front}

-- the area that the root zone names: image and half of that number
abbrev pub named_area : Layout → List ℕ → ℕ
named_area l c = if get_or (part_bytes l root_part c) 0 0 == 1 then 1 else 0

-- ---- with area n for the named one

-- the half whose front is the last one in force
abbrev pub current_of : Layout → ℕ → List ℕ → ℕ
current_of l n c = if chain l n c == 1 then other n else n

-- the records in force: the front of the named half, and behind it that of the other one if the chain byte is 1
abbrev pub in_force : Layout → ℕ → List ℕ → List (List ℕ)
in_force l n c = if chain l n c == 1 then front l n c ++ front l (other n) c else front l n c

-- ---- with the area that the root zone names

-- the records in force on a device of this geometry
abbrev pub records_in : Geometry → List ℕ → List (List ℕ)
records_in g c = in_force (layout_of g) (named_area (layout_of g) c) c

-- What the layer above defines: the state that an image's bytes hold, what becomes of a state by the record with these
-- bytes, and whether bytes are a header. `read` is none where the bytes are no image,
-- `apply` where they are no record that can be run on the state.
pub record Decoding (S : Type 0) : Type 0 where
  pub read : List ℕ → Option S
  pub apply : S → List ℕ → Option S
  pub is_header : List ℕ → Bool

module _ {S : Type 0} (decoding : Decoding S) where
  -- the state after these records, run one after the other; none where one of them can't be run
  abbrev pub run : Option S → List (List ℕ) → Option S
  run None rs = None
  run (Some x) [] = Some x
  run (Some x) (r ∷ rs) = run (decoding.apply x r) rs

  -- The bytes of the header are one, the device is long enough for its parts, and at most one chain byte is 1.
  abbrev pub is_laid_out : Layout → List ℕ → Bool
  is_laid_out l c = decoding.is_header (part_bytes l header_part c) && nat_le (device_size l) (length c)
      && not ((chain l 0 c == 1) && (chain l 1 c == 1))

  -- what the device would recover to, were area n the named one
  abbrev pub recovers_by_area : Layout → ℕ → List ℕ → Option S
  recovers_by_area l n c = if is_laid_out l c then run (decoding.read (part_bytes l (image_part n) c)) (in_force l n c) else None

  -- the state that the device recovers to; none where its header, length, chain bytes, image or a record in force is bad
  abbrev pub recovers : Layout → List ℕ → Option S
  recovers l c = recovers_by_area l (named_area l c) c
