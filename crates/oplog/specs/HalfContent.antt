-- Format for operators: What a half holds: its chain byte, its gates, its records, and its front: those before the first gate that isn't 1.
use Rattle.std.specs.Prelude.{ℕ, zero, suc, ◌+◌, ◌*◌, ◌==◌, List, [], ◌∷◌, take, drop, get_or}
use Rattle.std.specs.List.{prefix_len}
use Rattle.device_map.specs.Layout.{Layout, slice, part_bytes, half_part}
use Rattle.device_map.specs.declared.layout.TheConstants.{CHAIN_ZONE_SIZE}
use Rattle.protocol.specs.declared.sizes.TheConstants.{RECORD_SIZE}

-- how many gates are 1 before the first that isn't
abbrev pub count_open : List ℕ → ℕ
count_open gates = prefix_len (λ gate. gate == 1) gates

-- the first n rows of this width into which bytes are cut
abbrev pub rows : ℕ → ℕ → List ℕ → List (List ℕ)
rows width zero bytes = []
rows width (suc n) bytes = take width bytes ∷ rows width n (drop width bytes)

-- ---- of the bytes h of a half with room for `capacity` records

-- the chain byte, and the gates, a byte for each record
abbrev pub chain_in : List ℕ → ℕ
chain_in h = get_or h 0 0

abbrev pub gates_in : ℕ → List ℕ → List ℕ
gates_in capacity h = slice h CHAIN_ZONE_SIZE capacity

-- the front: the records, each as its bytes, before the first gate that isn't 1
abbrev pub front_in : ℕ → List ℕ → List (List ℕ)
front_in capacity h = rows RECORD_SIZE (count_open (gates_in capacity h)) (drop (CHAIN_ZONE_SIZE + capacity) h)

-- ---- of the bytes of a device

-- the chain byte, the gates, the front, and record i (whatever its gate is) of half h
abbrev pub chain : Layout → ℕ → List ℕ → ℕ
chain l h c = chain_in (part_bytes l (half_part h) c)

abbrev pub gates : Layout → ℕ → List ℕ → List ℕ
gates l h c = gates_in l.capacity (part_bytes l (half_part h) c)

abbrev pub front : Layout → ℕ → List ℕ → List (List ℕ)
front l h c = front_in l.capacity (part_bytes l (half_part h) c)

abbrev pub record_at : Layout → ℕ → ℕ → List ℕ → List ℕ
record_at l h i c = slice (part_bytes l (half_part h) c) (CHAIN_ZONE_SIZE + l.capacity + i * RECORD_SIZE) RECORD_SIZE
