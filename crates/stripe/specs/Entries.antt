-- Format for operators: The blocks of a stripe as bytes: an entry of `BLOCK_ENTRY_SIZE` bytes for each.
use Rattle.std.specs.Prelude.{◌≡◌, ℕ, Bool, true, ◌&&◌, nat_lt, zero, suc, ◌*◌, ◌-◌, ◌==◌, List, [], ◌∷◌, ◌++◌, length, take, drop, get_or, replicate, if◌then◌else◌}
use Rattle.std.specs.List.{flat_map, AllByRecursion}
use Rattle.affinity.specs.Geometry.{stripe_of}
use Rattle.affinity.specs.declared.geometry.Geometry.{Geometry}
use Rattle.byteorder.specs.Endian.{little_bytes, little_number}
use Rattle.device_map.specs.declared.layout.TheConstants.{BLOCK_ENTRY_SIZE}
use Rattle.protocol.specs.Replies.{has_file}
use Rattle.stripe.specs.Stripe.{BlockEntry, IsAscending, ComesBefore}

-- an entry: 1, the file, the block with the lower byte first, four zeros, the content
abbrev pub entry_bytes : BlockEntry → List ℕ
entry_bytes e = 1 ∷ e.file ∷ [] ++ little_bytes 2 e.block ++ 0 ∷ 0 ∷ 0 ∷ 0 ∷ [] ++ e.content.0

-- a stripe's piece: its entries one after the other, and zeros after them up to the size of `quota` entries
abbrev pub stripe_bytes : ℕ → List BlockEntry → List ℕ
stripe_bytes quota es = flat_map entry_bytes es ++ replicate (quota * BLOCK_ENTRY_SIZE - length (flat_map entry_bytes es)) 0

-- the entry that so many bytes decode to
abbrev pub entry_in : List ℕ → BlockEntry
entry_in row = record { file = get_or row 1 0; block = little_number 2 (drop 2 row); content = record { 0 = drop 8 row } }

-- the entries that bytes begin with, at most n, each beginning with 1
abbrev pub entries_in : ℕ → List ℕ → List BlockEntry
entries_in zero bytes = []
entries_in (suc n) bytes =
    if get_or bytes 0 0 == 1 then entry_in (take BLOCK_ENTRY_SIZE bytes) ∷ entries_in n (drop BLOCK_ENTRY_SIZE bytes) else []

-- ---- pieces

-- Block b of file f can be in stripe s of a volume whose files are the bits of `files`: f is one of them, b is in range, and the block lies
-- in that stripe.
abbrev pub fits_stripe : Geometry → ℕ → ℕ → ℕ → ℕ → Bool
fits_stripe g files s f b = has_file files f && nat_lt b g.blocks && (stripe_of g f b == s)

-- The bytes are a piece of stripe s: they spell the entries that they begin with, which ascend and can be in that stripe.
pub record IsStripePiece (g : Geometry) (files s : ℕ) (bytes : List ℕ) : Type 0 where
  pub spelled : bytes ≡ stripe_bytes g.quota (entries_in g.quota bytes)
  pub ascending : IsAscending (entries_in g.quota bytes)
  pub fit : AllByRecursion (λ e. fits_stripe g files s e.file e.block ≡ true) (entries_in g.quota bytes)

-- The row is an entry that can be in stripe s after the entries es, in a volume whose files are the bits of `files`.
pub record IsNextEntry (g : Geometry) (files s : ℕ) (es : List BlockEntry) (row : List ℕ) : Type 0 where
  pub spelled : row ≡ entry_bytes (entry_in row)
  pub fits : fits_stripe g files s (entry_in row).file (entry_in row).block ≡ true
  pub behind : AllByRecursion (λ e. ComesBefore e (entry_in row)) es
