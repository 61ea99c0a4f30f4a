-- Statement for engineers: The pieces of one volume of the tree, and what the volume has once one of them was read.
use Rattle.std.specs.Prelude.{◌≡◌, ◌↔◌, ℕ, ◌<◌, Bool, zero, suc, ◌==◌, ◌%◌, ◌^◌, if◌then◌else◌, List, [], ◌∷◌, length, unwrap_or, Option, Some, None, IfSome, IsTrue, Result, IsOk, OnOk}
use Rattle.std.specs.Option.{option_map}
use Rattle.affinity.specs.Geometry.{stripe_of}
use Rattle.affinity.specs.declared.geometry.Geometry.{Geometry}
use Rattle.byteorder.specs.Endian.{little_number}
use Rattle.protocol.specs.declared.sizes.TheConstants.{LABEL_SIZE}
use Rattle.stripe.specs.Entries.{IsStripePiece}
use Rattle.stripe.specs.Stripe.{StripePart}
use Rattle.device_map.specs.Layout.{slice}
use Rattle.meaning.specs.State.{State, IsState}
use Rattle.meaning.specs.Step.{no_label}
use Rattle.image.specs.Pieces.{aggregate_of, volume_of, part_of, piece_count, piece_of, piece_size, with_piece, is_made_in, is_sealed_in, has_file_in, label_in as decoded_label_in, block_in, part_piece, volume_bytes, with_part}
use Rattle.image.specs.declared.layout.TheConstants.{VERSION}
use Rattle.parcel.specs.Fits.{FitsStripe, FitsVolume}
use Rattle.parcel.specs.Whole.{IsWholeChild, IsWholeVolume}
use Rattle.parcel.specs.Nodes.{volume_nodes, node_files}
use Rattle.parcel.specs.Shown.{blocks_in, volume_facts, shown_label}
use Rattle.parcel.specs.Tree.{TreeView, IsWholeTree, state_in}
use Rattle.parcel.specs.Volume.{VolumeFacts, HasFacts}
use Rattle.parcel.specs.declared.parts.Logical.{Logical}
use Rattle.parcel.specs.declared.parts.Vol.{Vol}
use Rattle.parcel.specs.declared.pieces.volumes.VolumePiece.{VolumePiece}

-- the bytes of a volume's piece with these flags, files and label
abbrev pub spelled : VolumePiece → List ℕ
spelled p = volume_bytes p.made p.sealed p.files p.label

-- the label that bytes decode to: before version 2 there is none, and zeros are given for it
abbrev pub decoded_label : ℕ → List ℕ → List ℕ
decoded_label version bytes = if version == VERSION then slice bytes 16 LABEL_SIZE else no_label

-- what bytes decode to as a volume's piece; bits of files that the geometry doesn't have are dropped
abbrev pub decoded_piece : ℕ → Geometry → List ℕ → VolumePiece
decoded_piece version g bytes = record {
  made = is_made_in bytes;
  sealed = is_sealed_in bytes;
  files = little_number 8 (slice bytes 8 8) % 2 ^ g.files;
  label = decoded_label version bytes;
}

-- the piece of a volume of the tree; `0 ∷ []` is the path from the volume to its Logical, which has the files
abbrev pub volume_piece_of : Vol → VolumePiece
volume_piece_of w = record {
  made = w.made;
  sealed = w.sealed;
  files = node_files (volume_nodes w (0 ∷ []));
  label = unwrap_or (shown_label w.label) no_label;
}

-- a volume with the flags, the files and the label of a piece
abbrev pub volume_with : VolumePiece → Vol → Vol
volume_with p w = record {
  made = p.made;
  sealed = p.sealed;
  logical = option_map (λ (l : Logical). record l { files = p.files }) w.logical;
  label = Some (record { bytes = if p.made then Some p.label else None });
}

-- what the volume has once these bytes were taken in as its piece, or as that of one of its stripes
abbrev pub facts_with : ℕ → Geometry → VolumeFacts → ℕ → List ℕ → VolumeFacts
facts_with version g h zero bytes = record {
  made = is_made_in bytes;
  sealed = is_sealed_in bytes;
  files = has_file_in bytes;
  blocks = h.blocks;
  label = decoded_label_in version bytes;
}
facts_with version g h (suc s) bytes = record h { blocks = λ f b. if stripe_of g f b == s then block_in g bytes f b else h.blocks f b }

-- The bytes were read into a volume as its own piece (part 0) or as that of the stripe with number `part` - 1. They are good exactly if
-- they are the encoding of what they decode to, and then the volume has what they decode to.
pub record IsPieceOfVolumeRead (version : ℕ) (g : Geometry) (part : ℕ) (bytes : List ℕ) (good : Bool) (old new : Vol) : Type 0 where
  pub fits : FitsVolume g new
  pub whole : IsWholeVolume new
  pub spelled : (x : State) (a v : ℕ) → IsState g x → HasFacts x a v (volume_facts g old)
      → IsTrue good ↔ (bytes ≡ part_piece version g (with_part version g x a v part bytes) a v part)
  pub facts : IsTrue good → volume_facts g new ≡ facts_with version g (volume_facts g old) part bytes

-- The bytes were read as the piece of stripe s of a volume with these files.
pub record IsStripeRead (g : Geometry) (files s : ℕ) (bytes : List ℕ) (good : Bool) (new : Option StripePart) : Type 0 where
  pub fits : IfSome new (FitsStripe g s)
  pub whole : IsWholeChild (λ (p : StripePart). Unit {0}) new
  pub piece : IsTrue good ↔ IsStripePiece g files s bytes
  pub blocks : IsTrue good → (f b : ℕ) → blocks_in new f b ≡ block_in g bytes f b

-- Bytes can be read into the tree as piece n: nothing is out, and where the piece is a volume's own the tree has no block of the volume.
pub record CanReadPiece (n : ℕ) (bytes : List ℕ) (t : TreeView) : Type 0 where
  pub whole : IsWholeTree t
  pub piece : n < piece_count t.geometry
  pub size : length bytes ≡ piece_size t.geometry n
  pub empty : part_of t.geometry n ≡ 0 → (f b : ℕ) → (state_in t).blocks (aggregate_of t.geometry n, volume_of t.geometry n, f, b) ≡ None

-- The bytes were read as piece n of an image of this version: `Ok` exactly if they encode what they decode to, which the tree then has.
pub record ReadsPiece {E : Type 0} (version n : ℕ) (bytes : List ℕ) (result : Result (Unit {0}) E) (old new : TreeView) : Type 0 where
  pub good : IsOk result ↔ (bytes ≡ piece_of version old.geometry (with_piece version old.geometry (state_in old) n bytes) n)
  pub taken : OnOk result (state_in new ≡ with_piece version old.geometry (state_in old) n bytes)
  pub whole : OnOk result (IsWholeTree new)
  pub geometry : new.geometry ≡ old.geometry
