-- Format for operators: The map of a device: six parts in a row (header, root zone, half 0, half 1, image 0, image 1). All sizes and
-- places are in bytes.
use Rattle.std.specs.Prelude.{ℕ, zero, suc, ◌+◌, ◌-◌, ◌*◌, List, [], ◌∷◌, take, drop, get_or}
use Rattle.affinity.specs.declared.geometry.Geometry.{Geometry}
use Rattle.protocol.specs.declared.sizes.TheConstants.{RECORD_SIZE}
use Rattle.device_map.specs.declared.layout.TheConstants.{HEADER_SIZE, ROOT_ZONE_SIZE, CHAIN_ZONE_SIZE, IMAGE_HEAD_SIZE, VOLUME_PIECE_SIZE, BLOCK_ENTRY_SIZE}

-- ---- the sizes of one device

-- what the sizes of a device depend on: how many records a half holds, and how many bytes an image has
pub record Layout : Type 0 where
  pub capacity : ℕ
  pub image : ℕ

-- n items of a list, from position `at` on
abbrev pub slice : {X : Type 0} → List X → ℕ → ℕ → List X
slice xs at n = take n (drop at xs)

-- how many bytes a half has: its chain zone, a gate byte for each record, and the records
abbrev pub half_size : ℕ → ℕ
half_size capacity = CHAIN_ZONE_SIZE + (capacity + capacity * RECORD_SIZE)

-- how many bytes an image has: a head, and for each volume its own piece and one for each stripe, with room for a quota of blocks
unfoldable pub image_size : Geometry → ℕ
image_size g = IMAGE_HEAD_SIZE + g.aggregates * g.volumes * (VOLUME_PIECE_SIZE + g.stripes * (g.quota * BLOCK_ENTRY_SIZE))

-- the layout of a device of this geometry
abbrev pub layout_of : Geometry → Layout
layout_of g = record { capacity = g.half; image = image_size g }

-- how many bytes each part has, in their order on the device
abbrev pub sizes : Layout → List ℕ
sizes l = HEADER_SIZE ∷ ROOT_ZONE_SIZE ∷ half_size l.capacity ∷ half_size l.capacity ∷ l.image ∷ l.image ∷ []

-- where part k begins, if parts of these sizes lie in a row
abbrev pub offset : List ℕ → ℕ → ℕ
offset [] k = 0
offset (s ∷ ss) zero = 0
offset (s ∷ ss) (suc k) = s + offset ss k

-- where part k of a device begins, and how many bytes it has
abbrev pub part_at : Layout → ℕ → ℕ
part_at l k = offset (sizes l) k

abbrev pub part_size : Layout → ℕ → ℕ
part_size l k = get_or (sizes l) k 0

-- the bytes of part k of a device whose bytes are c
abbrev pub part_bytes : Layout → ℕ → List ℕ → List ℕ
part_bytes l k c = slice c (part_at l k) (part_size l k)

-- how many bytes all parts have
abbrev pub device_size : Layout → ℕ
device_size l = part_at l 6

-- ---- the numbers of the parts

abbrev pub header_part : ℕ
header_part = 0

abbrev pub root_part : ℕ
root_part = 1

abbrev pub half_part : ℕ → ℕ
half_part h = 2 + h

abbrev pub image_part : ℕ → ℕ
image_part i = 4 + i

-- the other one of 0 and 1
abbrev pub other : ℕ → ℕ
other h = 1 - h
