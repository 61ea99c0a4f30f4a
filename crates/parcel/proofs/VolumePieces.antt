-- A volume's piece: it encodes what the volume has; and a state stays valid if bytes that encode what they decode to are taken in.
use Rattle.std.proofs.Common.{◌≡◌, ℕ, zero, ◌%◌, ◌^◌, ◌<◌, ◌≤◌, Bool, true, false, List, [], ◌∷◌, ◌++◌, replicate, unwrap_or, Option, Some, None, IfSome, is_some, refl, sym, ◌∙◌, ap, subst, arith, ⊎_elim, true≢false, mod-lt}
use Rattle.std.specs.Prelude.{◌==◌, if◌then◌else◌}
use Rattle.std.proofs.lemmas.Bool.{cases_lt, and_parts, eqb-true}
use Rattle.std.proofs.lemmas.Nat.{pow_pos}
use Rattle.std.proofs.lemmas.Nat.Bits.{bit_at_above}
use Rattle.std.proofs.Math.Nat.{pow-le-pow_right}
use Rattle.meaning.proofs.Keys.{picks_volume}
use Rattle.affinity.specs.declared.geometry.Geometry.{Geometry}
use Rattle.byteorder.specs.Endian.{little_bytes, little_number}
use Rattle.device_map.specs.Layout.{slice}
use Rattle.protocol.specs.declared.sizes.TheConstants.{LABEL_SIZE}
use Rattle.protocol.specs.Messages.{AreSizedBytes}
use Rattle.protocol.specs.declared.messages.Block.{Block}
use Rattle.meaning.specs.Step.{file_bits, no_label}
use Rattle.meaning.specs.State.{State, VolumeKey, FileKey, BlockKey, IsState, is_volume, sum_below}
use Rattle.meaning.proofs.Sums.{one_if}
use Rattle.meaning.specs.Facts.{OfMade, OfSealed, OfLabel, OfFile}
use Rattle.image.specs.Pieces.{volume_piece, label_bytes, is_made_in, is_sealed_in, has_file_in, with_volume_piece}
use Rattle.parcel.specs.Fits.{FitsLogical, FitsVolume}
use Rattle.parcel.specs.Whole.{IsWholeChild, IsWholeLogical, IsWholeVolume}
use Rattle.parcel.specs.Nodes.{child_nodes, logical_nodes, node_files}
use Rattle.parcel.specs.Volume.{HasFacts}
use Rattle.parcel.specs.Pieces.{spelled, decoded_label, decoded_piece, volume_piece_of, volume_with, facts_with}
use Rattle.parcel.specs.Shown.{volume_facts, files_in}
use Rattle.parcel.specs.declared.parts.Logical.{Logical}
use Rattle.parcel.specs.declared.parts.Vol.{Vol}
use Rattle.parcel.specs.declared.pieces.volumes.VolumePiece.{VolumePiece}
use Rattle.meaning.proofs.FileNumber.{sum_bits, bits_back}
use Rattle.image.proofs.DecodedBy.{label_is}
use Rattle.image.proofs.ReadImage.{eight_bytes}
use Rattle.image.specs.declared.layout.TheConstants.{VERSION}

-- ---- what is spelled

-- the flags, the files and the label, where the volume is made
volume_spelled : (version : ℕ) (g : Geometry) (x : State) (k : VolumeKey) {p : VolumePiece} → x.made k ≡ p.made → x.sealed k ≡ p.sealed → file_bits g x k.0 k.1 ≡ p.files
    → (p.made ≡ true → label_bytes version (x.labels k) ≡ p.label) → volume_piece version g x k.0 k.1 ≡ spelled p
volume_spelled version g x k {p} made sealed files label = grind arith

files_are : (g : Geometry) (x : State) (a v : ℕ) (o : Option Logical) → IfSome o (FitsLogical g) → IsWholeChild IsWholeLogical o → ((f : ℕ) → x.files (a, v, f) ≡ files_in o f)
    → file_bits g x a v ≡ node_files (child_nodes logical_nodes o [])
files_are g x a v None fits whole has = absurd whole
files_are g x a v (Some l) fits whole has = (λ i. sum_below g.files (λ f. if has f i then 2 ^ f else 0)) ∙ bits_back g.files l.files fits.files

-- the piece of a volume of the tree is that of volume v of aggregate a in each state in which that volume has the same
pub volume_written : (g : Geometry) (x : State) (a v : ℕ) (w : Vol) → FitsVolume g w → IsWholeVolume w → HasFacts x a v (volume_facts g w) → volume_piece VERSION g x a v ≡ spelled (volume_piece_of w)
volume_written g x a v w fits whole has =
    volume_spelled 2 g x (a, v) {p = volume_piece_of w} (has OfMade) (has OfSealed) (files_are g x a v w.logical fits.logical whole.0 (λ f. has (OfFile f)))
    (λ on. ap (λ (o : Option (List ℕ)). unwrap_or o no_label) (has OfLabel))

-- what bytes decode to, spelled in the state that they lead to
pub volume_decoded : (version : ℕ) (g : Geometry) (x : State) (a v : ℕ) (bytes : List ℕ) → volume_piece version g (with_volume_piece version x a v bytes) a v ≡ spelled (decoded_piece version g bytes)
volume_decoded version g x a v bytes = grind (arith, picks_volume a v, sum_bits g.files (little_number 8 (slice bytes 8 8)))

-- ---- bytes that spell what they decode to

module _ (version : ℕ) (g : Geometry) (bytes : List ℕ) (good : bytes ≡ spelled (decoded_piece version g bytes)) where
  abbrev number : ℕ
  number = little_number 8 (slice bytes 8 8)

  small : number % 2 ^ g.files < 2 ^ g.files
  small = mod-lt number (pow_pos g.files)

  fits_eight : number % 2 ^ g.files < 2 ^ 64
  fits_eight = let most : 2 ^ g.files ≤ 2 ^ 64 = pow-le-pow_right {n = 2} (omega arith) {i = g.files} {j = 64} g.files_range.1 in omega (arith, small, most)

  not_made : is_made_in bytes ≡ false → bytes ≡ replicate 64 0
  not_made off = grind arith

  -- the bytes encode no file that the geometry doesn't have
  pub number_whole : number % 2 ^ g.files ≡ number
  number_whole = by (is_made_in bytes) refl
    where
      by : (t : Bool) → is_made_in bytes ≡ t → number % 2 ^ g.files ≡ number
      by true on =
          sym (eight_bytes (number % 2 ^ g.files) fits_eight)
          ∙ sym (ap (λ (l : List ℕ). little_number 8 (slice l 8 8))
          (good ∙ ap (λ (t : Bool). if t then 1 ∷ one_if (is_sealed_in bytes) ∷ [] ++ replicate 6 0 ++ little_bytes 8 (number % 2 ^ g.files)
          ++ decoded_label version bytes ++ replicate 16 0 else replicate 64 0) on))
      by false off =
          let none : number ≡ 0 = ap (λ (l : List ℕ). little_number 8 (slice l 8 8)) (not_made off) in
          let least = pow_pos g.files in
          ap (λ (n : ℕ). n % 2 ^ g.files) none ∙ zero_left (2 ^ g.files) least ∙ sym none
        where
          zero_left : (k : ℕ) → 0 < k → 0 % k ≡ 0
          zero_left k least = omega (arith, least, mod-lt 0 least)

  file_is_made : (f : ℕ) → has_file_in bytes f ≡ true → is_made_in bytes ≡ true
  file_is_made f there = grind arith

  file_within : (f : ℕ) → has_file_in bytes f ≡ true → f < g.files
  file_within f there =
      ⊎_elim
      (λ (less : f < g.files). less)
      (λ (no_less : g.files ≤ f). absurd (true≢false (sym there ∙ ap (λ (n : ℕ). n == 1) (bit_at_above number g.files f (subst (λ (n : ℕ). n < 2 ^ g.files) number_whole small) no_less))))
      (cases_lt f g.files)

  -- what a volume has with these bytes taken in
  pub facts_decoded : (w : Vol) → IsWholeVolume w → volume_facts g (volume_with (decoded_piece version g bytes) w) ≡ facts_with version g (volume_facts g w) zero bytes
  facts_decoded w whole = grind (arith, number_whole)

  -- ---- the state that they lead to

  module _ (x : State) (is : IsState g x) (a v : ℕ) (aggregate : a < g.aggregates) (volume : v < g.volumes) (empty : (f b : ℕ) → x.blocks (a, v, f, b) ≡ None) (are : AreSizedBytes 64 bytes) where
    abbrev taken : State
    taken = with_volume_piece version x a v bytes

    same_volume : (k : VolumeKey) → is_volume a v k ≡ true → (a ≡ k.0) × (v ≡ k.1)
    same_volume k on = let parts = and_parts (a == k.0) (v == k.1) on in (eqb-true a k.0 parts.0, eqb-true v k.1 parts.1)

    made_there : (k : VolumeKey) → is_volume a v k ≡ true → is_made_in bytes ≡ true → taken.made k ≡ true
    made_there k on made = ap (λ (t : Bool). if t then is_made_in bytes else x.made k) on ∙ made

    made_elsewhere : (k : VolumeKey) → is_volume a v k ≡ false → x.made k ≡ true → taken.made k ≡ true
    made_elsewhere k off made = ap (λ (t : Bool). if t then is_made_in bytes else x.made k) off ∙ made

    made_range : (k : VolumeKey) → taken.made k ≡ true → (k.0 < g.aggregates) × (k.1 < g.volumes)
    made_range k = grind arith

    sealed_made : (k : VolumeKey) → taken.sealed k ≡ true → taken.made k ≡ true
    sealed_made k = grind arith

    files_range : (k : FileKey) → taken.files k ≡ true → (k.2 < g.files) × (taken.made (k.0, k.1) ≡ true)
    files_range k = by (is_volume a v (k.0, k.1)) refl
      where
        by : (t : Bool) → is_volume a v (k.0, k.1) ≡ t → (if t then has_file_in bytes k.2 else x.files k) ≡ true → (k.2 < g.files) × (taken.made (k.0, k.1) ≡ true)
        by true on there = (file_within k.2 there, made_there (k.0, k.1) on (file_is_made k.2 there))
        by false off there = let was = is.files k there in (was.0, made_elsewhere (k.0, k.1) off was.1)

    blocks_range : (k : BlockKey) → is_some (taken.blocks k) ≡ true → (k.3 < g.blocks) × (taken.files (k.0, k.1, k.2) ≡ true)
    blocks_range k some = let was = is.blocks k some in (was.0, by (is_volume a v (k.0, k.1)) refl was.1)
      where
        by : (t : Bool) → is_volume a v (k.0, k.1) ≡ t → x.files (k.0, k.1, k.2) ≡ true → taken.files (k.0, k.1, k.2) ≡ true
        by true on there =
            let same = same_volume (k.0, k.1) on in
            let none : x.blocks k ≡ None = sym (λ i. x.blocks (same.0 i, same.1 i, k.2, k.3)) ∙ empty k.2 k.3 in
            absurd (true≢false (sym some ∙ ap (λ (o : Option Block). is_some o) none))
        by false off there = ap (λ (t : Bool). if t then has_file_in bytes k.2 else x.files (k.0, k.1, k.2)) off ∙ there

    labels_made : (k : VolumeKey) → is_some (taken.labels k) ≡ taken.made k
    labels_made k = grind arith

    label_bounds : (k : VolumeKey) → IfSome (taken.labels k) (AreSizedBytes LABEL_SIZE)
    label_bounds k = grind (arith, label_is version bytes are)

    pub volume_state : IsState g taken
    volume_state = assumption (made_range, sealed_made, files_range, blocks_range, labels_made, is, label_bounds)
