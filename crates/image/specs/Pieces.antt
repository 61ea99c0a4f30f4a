-- Format for operators: The pieces of an image: for each volume one piece with its flags, files and label, and one for each of its stripes.
use Rattle.std.specs.Prelude.{ℕ, zero, suc, ◌+◌, ◌*◌, ◌/◌, ◌%◌, Bool, true, ◌&&◌, ◌==◌, nat_lt, if◌then◌else◌, List, [], ◌∷◌, ◌++◌, get_or, replicate, unwrap_or, Option, Some, None}
use Rattle.affinity.specs.Geometry.{stripe_of}
use Rattle.affinity.specs.declared.geometry.Geometry.{Geometry}
use Rattle.byteorder.specs.Endian.{little_bytes, little_number}
use Rattle.protocol.specs.declared.sizes.TheConstants.{LABEL_SIZE}
use Rattle.protocol.specs.Replies.{has_file}
use Rattle.protocol.specs.declared.messages.Block.{Block}
use Rattle.device_map.specs.Layout.{slice}
use Rattle.device_map.specs.declared.layout.TheConstants.{BLOCK_ENTRY_SIZE, IMAGE_HEAD_SIZE, VOLUME_PIECE_SIZE}
use Rattle.stripe.specs.Stripe.{BlockEntry, content_at}
use Rattle.meaning.specs.Step.{file_bits, no_label}
use Rattle.meaning.specs.State.{State, VolumeKey, is_volume, is_file_of, is_block_of, sum_below}
use Rattle.stripe.specs.Entries.{stripe_bytes, entries_in}
use Rattle.image.specs.declared.layout.TheConstants.{VERSION}

-- ---- which pieces there are

-- a volume's piece, and one for each of its stripes
abbrev pub pieces_of_volume : Geometry → ℕ
pieces_of_volume g = suc g.stripes

abbrev pub piece_count : Geometry → ℕ
piece_count g = g.aggregates * g.volumes * pieces_of_volume g

-- the number of a volume's piece, and of a stripe's
abbrev pub volume_piece_number : Geometry → ℕ → ℕ → ℕ
volume_piece_number g a v = (a * g.volumes + v) * pieces_of_volume g

abbrev pub stripe_piece_number : Geometry → ℕ → ℕ → ℕ → ℕ
stripe_piece_number g a v s = volume_piece_number g a v + suc s

-- What a piece is of, by its number: the aggregate and the volume, and there 0 for the volume's piece and `suc s` for stripe s.
abbrev pub aggregate_of : Geometry → ℕ → ℕ
aggregate_of g n = n / pieces_of_volume g / g.volumes

abbrev pub volume_of : Geometry → ℕ → ℕ
volume_of g n = n / pieces_of_volume g % g.volumes

abbrev pub part_of : Geometry → ℕ → ℕ
part_of g n = n % pieces_of_volume g

-- how many bytes a piece has; that of a stripe has room for an entry for each block that the stripe can hold
abbrev pub piece_part_size : Geometry → ℕ → ℕ
piece_part_size g zero = VOLUME_PIECE_SIZE
piece_part_size g (suc s) = g.quota * BLOCK_ENTRY_SIZE

abbrev pub piece_size : Geometry → ℕ → ℕ
piece_size g n = piece_part_size g (part_of g n)

-- where a piece begins in an image: after the head and the pieces before it
abbrev pub piece_at : Geometry → ℕ → ℕ
piece_at g n = IMAGE_HEAD_SIZE + sum_below n (piece_size g)

-- ---- how a state is spelled

-- the lists f 0, f 1, .. up to f (n - 1), joined
abbrev pub joined_below : {X : Type 0} → ℕ → (ℕ → List X) → List X
joined_below zero f = []
joined_below (suc n) f = joined_below n f ++ f n

-- the entry of block b of file f, if the test holds and there is a block; else none
abbrev pub entry_if : Bool → ℕ → ℕ → Option Block → List BlockEntry
entry_if true f b (Some content) = record { file = f; block = b; content = content } ∷ []
entry_if _ f b _ = []

-- the blocks of a stripe, by file and then by block; only a file that is there has blocks
abbrev pub stripe_entries : Geometry → State → ℕ → ℕ → ℕ → List BlockEntry
stripe_entries g x a v s = joined_below g.files
    (λ f. joined_below g.blocks (λ b. entry_if (x.files (a, v, f) && (stripe_of g f b == s)) f b (x.blocks (a, v, f, b))))

-- the piece of a stripe, as bytes
abbrev pub stripe_piece : Geometry → State → ℕ → ℕ → ℕ → List ℕ
stripe_piece g x a v s = stripe_bytes g.quota (stripe_entries g x a v s)

-- Images of version 2 have the label. Those of version 1 have zeros there.
abbrev pub label_bytes : ℕ → Option (List ℕ) → List ℕ
label_bytes version label = if version == VERSION then unwrap_or label no_label else no_label

-- A volume that is made: 1, whether it is sealed, six zeros, its files as the bits of a number, its label, 16 zeros. One that isn't: zeros.
abbrev pub volume_bytes : Bool → Bool → ℕ → List ℕ → List ℕ
volume_bytes made sealed files label =
    if made
    then 1 ∷ (if sealed then 1 else 0) ∷ [] ++ replicate 6 0 ++ little_bytes 8 files ++ label ++ replicate 16 0
    else replicate VOLUME_PIECE_SIZE 0

abbrev pub volume_piece : ℕ → Geometry → State → ℕ → ℕ → List ℕ
volume_piece version g x a v = volume_bytes (x.made (a, v)) (x.sealed (a, v)) (file_bits g x a v) (label_bytes version (x.labels (a, v)))

-- a volume's own piece, or for `suc s` that of stripe s
abbrev pub part_piece : ℕ → Geometry → State → ℕ → ℕ → ℕ → List ℕ
part_piece version g x a v zero = volume_piece version g x a v
part_piece version g x a v (suc s) = stripe_piece g x a v s

-- piece n of a state, in an image of this version
abbrev pub piece_of : ℕ → Geometry → State → ℕ → List ℕ
piece_of version g x n = part_piece version g x (aggregate_of g n) (volume_of g n) (part_of g n)

-- ---- what bytes decode to, whether or not they are the encoding of that

-- whether there is this volume in a server of this geometry
abbrev pub has_volume : Geometry → VolumeKey → Bool
has_volume g k = nat_lt k.0 g.aggregates && nat_lt k.1 g.volumes

-- what the bytes of a volume's piece decode to: whether it is made, whether it is sealed, which files it has, and its label
abbrev pub is_made_in : List ℕ → Bool
is_made_in bytes = get_or bytes 0 0 == 1

abbrev pub is_sealed_in : List ℕ → Bool
is_sealed_in bytes = get_or bytes 1 0 == 1

abbrev pub has_file_in : List ℕ → ℕ → Bool
has_file_in bytes f = has_file (little_number 8 (slice bytes 8 8)) f

abbrev pub label_in : ℕ → List ℕ → Option (List ℕ)
label_in version bytes = if is_made_in bytes then Some (if version == VERSION then slice bytes 16 LABEL_SIZE else no_label) else None

-- the block that the bytes of a stripe's piece decode to
abbrev pub block_in : Geometry → List ℕ → ℕ → ℕ → Option Block
block_in g bytes f b = content_at (entries_in g.quota bytes) f b

-- the state that pieces decode to, where these are the bytes of each
abbrev pub decoded_by : ℕ → Geometry → (ℕ → List ℕ) → State
decoded_by version g pieces =
    let of_volume : VolumeKey → List ℕ = λ k. pieces (volume_piece_number g k.0 k.1) in
    record {
      made = λ k. has_volume g k && is_made_in (of_volume k);
      sealed = λ k. has_volume g k && is_sealed_in (of_volume k);
      files = λ k. has_volume g (k.0, k.1) && has_file_in (of_volume (k.0, k.1)) k.2;
      blocks = λ k. if has_volume g (k.0, k.1)
          then block_in g (pieces (stripe_piece_number g k.0 k.1 (stripe_of g k.2 k.3))) k.2 k.3 else None;
      labels = λ k. if has_volume g k then label_in version (of_volume k) else None;
    }

-- ---- a state in which one piece is replaced by what bytes decode to

abbrev pub with_volume_piece : ℕ → State → ℕ → ℕ → List ℕ → State
with_volume_piece version x a v bytes = record {
  made = λ k. if is_volume a v k then is_made_in bytes else x.made k;
  sealed = λ k. if is_volume a v k then is_sealed_in bytes else x.sealed k;
  files = λ k. if is_file_of a v k then has_file_in bytes k.2 else x.files k;
  blocks = x.blocks;
  labels = λ k. if is_volume a v k then label_in version bytes else x.labels k;
}

abbrev pub with_stripe_piece : Geometry → State → ℕ → ℕ → ℕ → List ℕ → State
with_stripe_piece g x a v s bytes = record {
  made = x.made;
  sealed = x.sealed;
  files = x.files;
  blocks = λ k. if is_block_of a v k && (stripe_of g k.2 k.3 == s) then block_in g bytes k.2 k.3 else x.blocks k;
  labels = x.labels;
}

abbrev pub with_part : ℕ → Geometry → State → ℕ → ℕ → ℕ → List ℕ → State
with_part version g x a v zero bytes = with_volume_piece version x a v bytes
with_part version g x a v (suc s) bytes = with_stripe_piece g x a v s bytes

-- the state with these bytes taken in as its piece n
abbrev pub with_piece : ℕ → Geometry → State → ℕ → List ℕ → State
with_piece version g x n bytes = with_part version g x (aggregate_of g n) (volume_of g n) (part_of g n) bytes
