-- What pieces decode to has blocks and labels of the right size and keeps the quotas; it is a valid state if each piece is its encoding.
use Rattle.std.proofs.Common.{◌≡◌, ℕ, suc, ◌+◌, ◌*◌, ◌-◌, ◌^◌, ◌<◌, ◌≤◌, Bool, true, false, ◌&&◌, List, [], length, drop, Option, Some, None, is_some, IfSome, refl, sym, ◌∙◌, ap, subst, arith, true≢false, length-take, length-drop}
use Rattle.std.specs.Prelude.{◌==◌, if◌then◌else◌}
use Rattle.std.specs.List.{AllByRecursion, flat_map}
use Rattle.std.proofs.lemmas.Bool.{and_parts}
use Rattle.std.proofs.Math.Nat.{pow-le-pow_right}
use Rattle.std.proofs.lemmas.Nat.Bits.{bit_at_above}
use Rattle.meaning.proofs.IsState.{zeros_are_bytes}
use Rattle.affinity.specs.Geometry.{stripe_of}
use Rattle.affinity.specs.declared.geometry.Geometry.{Geometry}
use Rattle.affinity.proofs.PlaceLemmas.{group_below}
use Rattle.byteorder.specs.Endian.{little_bytes, little_number}
use Rattle.affinity.proofs.Elements.{all_take, all_drop}
use Rattle.device_map.specs.Layout.{slice}
use Rattle.device_map.specs.declared.layout.TheConstants.{BLOCK_ENTRY_SIZE}
use Rattle.protocol.specs.declared.sizes.TheConstants.{LABEL_SIZE}
use Rattle.protocol.specs.Messages.{IsBlock, AreSizedBytes}
use Rattle.protocol.specs.Replies.{has_file}
use Rattle.protocol.specs.declared.messages.Block.{Block}
use Rattle.meaning.specs.Step.{file_bits, no_label}
use Rattle.meaning.specs.State.{State, VolumeKey, FileKey, BlockKey, IsState, blocks_in_stripe}
use Rattle.stripe.specs.Entries.{entry_bytes, entries_in}
use Rattle.stripe.specs.Stripe.{BlockEntry, content_at}
use Rattle.stripe.proofs.EntryBytes.{entries_again}
use Rattle.image.specs.Pieces.{piece_count, pieces_of_volume, piece_size, piece_of, decoded_by, has_volume, volume_piece_number, stripe_piece_number, volume_piece, stripe_piece, part_piece, piece_part_size, stripe_entries, entry_if, is_made_in, has_file_in, label_in}
use Rattle.image.proofs.EntryCounts.{entries_are_blocks, entries_few, content_is, content_of, few_of_stripe}
use Rattle.image.proofs.PieceIn.{is_piece, piece_there}
use Rattle.image.proofs.PieceNumbers.{size_there}
use Rattle.meaning.proofs.FileNumber.{number_of, number_small}
use Rattle.image.proofs.Measures.{IsMeasured, all_joined, entries_good, entries_most}
use Rattle.image.proofs.EntryOrder.{one_of}
use Rattle.image.proofs.ReadImage.{number_decoded, eight_bytes}
use Rattle.image.specs.declared.layout.TheConstants.{VERSION}

pub is_volume_there : (g : Geometry) (k : VolumeKey) → has_volume g k ≡ true → (k.0 < g.aggregates) × (k.1 < g.volumes)
is_volume_there g k there = grind arith

if_is : {X : Type 0} (P : X → Type 0) (h : Bool) (o : Option X) → (h ≡ true → IfSome o P) → IfSome (if h then o else None) P
if_is P true o is = is refl
if_is P false o is = tt

pub label_is : (version : ℕ) (bytes : List ℕ) → AreSizedBytes 64 bytes → IfSome (label_in version bytes) (AreSizedBytes LABEL_SIZE)
label_is version bytes are = by (is_made_in bytes) (version == VERSION)
  where
    by : (made told : Bool) → IfSome (if made then Some (if told then slice bytes 16 LABEL_SIZE else no_label) else None) (AreSizedBytes LABEL_SIZE)
    by true true = (
      omega (arith, are.0, length-drop 16 bytes, length-take LABEL_SIZE (drop 16 bytes)),
      all_take (λ b. b < 256) LABEL_SIZE (drop 16 bytes) (all_drop (λ b. b < 256) 16 bytes are.1),
    )
    by true false = (refl, zeros_are_bytes LABEL_SIZE)
    by false told = tt

-- ---- the sizes

module _ (version : ℕ) (g : Geometry) (pieces : ℕ → List ℕ)
    (sized : (n : ℕ) → n < piece_count g → AreSizedBytes (piece_size g n) (pieces n)) where
  bytes_of_part : (k : VolumeKey) → has_volume g k ≡ true → (p : ℕ) → p < pieces_of_volume g → AreSizedBytes (piece_part_size g p) (pieces (volume_piece_number g k.0 k.1 + p))
  bytes_of_part k there p part =
      let within = is_volume_there g k there in
      subst (λ (size : ℕ). AreSizedBytes size (pieces (volume_piece_number g k.0 k.1 + p))) (size_there g k.0 k.1 p part)
      (sized (volume_piece_number g k.0 k.1 + p) (is_piece g k.0 k.1 within.0 within.1 p part))

  bytes_of_volume : (k : VolumeKey) → has_volume g k ≡ true → AreSizedBytes 64 (pieces (volume_piece_number g k.0 k.1))
  bytes_of_volume k there = grind (arith, bytes_of_part k there 0 (omega arith))

  bytes_of_stripe : (k : VolumeKey) → has_volume g k ≡ true → (s : ℕ) → s < g.stripes → AreSizedBytes (g.quota * BLOCK_ENTRY_SIZE) (pieces (stripe_piece_number g k.0 k.1 s))
  bytes_of_stripe k there s below = bytes_of_part k there (suc s) (omega (arith, below))

  blocks_decoded : (a v s f b : ℕ) (t : Bool) → has_volume g (a, v) ≡ t → stripe_of g f b ≡ s → (decoded_by version g pieces).blocks (a, v, f, b)
      ≡ content_at (if t then entries_in g.quota (pieces (stripe_piece_number g a v s)) else []) f b
  blocks_decoded a v s f b true there on = grind arith
  blocks_decoded a v s f b false out on = grind arith

  few_blocks : (a v s : ℕ) → blocks_in_stripe g (decoded_by version g pieces) a v s ≤ g.quota
  few_blocks a v s = by (has_volume g (a, v)) refl
    where
      by : (t : Bool) → has_volume g (a, v) ≡ t → blocks_in_stripe g (decoded_by version g pieces) a v s ≤ g.quota
      by t is =
          let es : List BlockEntry = if t then entries_in g.quota (pieces (stripe_piece_number g a v s)) else [] in
          let held = few_of_stripe g s (λ f b. (decoded_by version g pieces).blocks (a, v, f, b)) es
          (λ f b on. blocks_decoded a v s f b t is on) in
          let few : length es ≤ g.quota = elim t as
          (λ t. length (if t then entries_in g.quota (pieces (stripe_piece_number g a v s)) else []) ≤ g.quota) [
            | true ↦ entries_few g.quota (pieces (stripe_piece_number g a v s))
            | false ↦ omega arith
          ] in
          omega (arith, held, few)

  content_decoded : (k : BlockKey) → IfSome ((decoded_by version g pieces).blocks k) IsBlock
  content_decoded k =
      let s : ℕ = stripe_of g k.2 k.3 in
      if_is IsBlock (has_volume g (k.0, k.1)) _
      (λ there.
      let are = bytes_of_stripe (k.0, k.1) there s (group_below g k.2 k.3) in
      content_is IsBlock k.2 k.3 (entries_in g.quota (pieces (stripe_piece_number g k.0 k.1 s)))
      (entries_are_blocks g.quota (pieces (stripe_piece_number g k.0 k.1 s)) are.0 are.1))

  label_decoded : (k : VolumeKey) → IfSome ((decoded_by version g pieces).labels k) (AreSizedBytes LABEL_SIZE)
  label_decoded k = if_is (AreSizedBytes LABEL_SIZE) (has_volume g k) _
      (λ there. label_is version (pieces (volume_piece_number g k.0 k.1)) (bytes_of_volume k there))

  pub is_measured : IsMeasured g (decoded_by version g pieces)
  is_measured = grind (arith, content_decoded, label_decoded, entries_most, few_blocks)

-- ---- pieces that spell what they decode to

-- if a number has n bits, each file that it encodes is below n
bit_within : (n : ℕ) (t : ℕ → Bool) (f : ℕ) → has_file (number_of n t) f ≡ true → f < n
bit_within n t f on = grind (arith, number_small n t, bit_at_above)

module _ (version : ℕ) (g : Geometry) (pieces : ℕ → List ℕ) (sized : (n : ℕ) → n < piece_count g → AreSizedBytes (piece_size g n) (pieces n))
    (good : (n : ℕ) → n < piece_count g → pieces n ≡ piece_of version g (decoded_by version g pieces) n) where
  part_spelled : (k : VolumeKey) → has_volume g k ≡ true → (p : ℕ) → p < pieces_of_volume g → pieces (volume_piece_number g k.0 k.1 + p) ≡ part_piece version g (decoded_by version g pieces) k.0 k.1 p
  part_spelled k there p part = grind (arith, is_volume_there g k there, piece_there)

  volume_spelled : (k : VolumeKey) → has_volume g k ≡ true → pieces (volume_piece_number g k.0 k.1) ≡ volume_piece version g (decoded_by version g pieces) k.0 k.1
  volume_spelled k there = grind (arith, part_spelled k there 0 (omega arith))

  stripe_spelled : (k : VolumeKey) → has_volume g k ≡ true → (s : ℕ) → s < g.stripes → pieces (stripe_piece_number g k.0 k.1 s) ≡ stripe_piece g (decoded_by version g pieces) k.0 k.1 s
  stripe_spelled k there s below = part_spelled k there (suc s) (omega (arith, below))

  made_in_range : (k : VolumeKey) → (decoded_by version g pieces).made k ≡ true → (k.0 < g.aggregates) × (k.1 < g.volumes)
  made_in_range k made = is_volume_there g k (and_parts (has_volume g k) (is_made_in (pieces (volume_piece_number g k.0 k.1))) made).0

  sealed_is_made : (k : VolumeKey) → (decoded_by version g pieces).sealed k ≡ true → (decoded_by version g pieces).made k ≡ true
  sealed_is_made k sealed = grind (arith, volume_spelled)

  files_in_range : (k : FileKey) → (decoded_by version g pieces).files k ≡ true → (k.2 < g.files) × ((decoded_by version g pieces).made (k.0, k.1) ≡ true)
  files_in_range k there =
      let x : State = decoded_by version g pieces in
      let parts = and_parts (has_volume g (k.0, k.1)) (has_file_in (pieces (volume_piece_number g k.0 k.1)) k.2) there in
      let number : slice (pieces (volume_piece_number g k.0 k.1)) 8 8
      ≡ little_bytes 8 (if x.made (k.0, k.1) then file_bits g x k.0 k.1 else 0) =
      ap (λ (l : List ℕ). slice l 8 8) (volume_spelled (k.0, k.1) parts.0) ∙ number_decoded g x k.0 k.1 version in
      by (x.made (k.0, k.1)) refl (sym (ap (λ (l : List ℕ). has_file (little_number 8 l) k.2) number) ∙ parts.1)
    where
      by : (t : Bool) → (decoded_by version g pieces).made (k.0, k.1) ≡ t → has_file (little_number 8 (little_bytes 8 (if t then file_bits g (decoded_by version g pieces) k.0 k.1 else 0))) k.2 ≡ true
          → (k.2 < g.files) × ((decoded_by version g pieces).made (k.0, k.1) ≡ true)
      by true made on =
          let picks : ℕ → Bool = λ f. (decoded_by version g pieces).files (k.0, k.1, f) in
          let small = number_small g.files picks in
          let most : 2 ^ g.files ≤ 2 ^ 64 = pow-le-pow_right {n = 2} (omega arith) {i = g.files} {j = 64} g.files_range.1 in (
            bit_within g.files picks k.2 (sym (ap (λ (m : ℕ). has_file m k.2)
                (eight_bytes (number_of g.files picks) (omega (arith, small, most)))) ∙ on),
            made,
          )
      by false made on = absurd (omega (arith, bit_within 0 (λ f. false) k.2 on))

  -- of every entry of a stripe the file exists, and the block is in range
  entry_within : (a v s : ℕ) → AllByRecursion
      (λ (e : BlockEntry). (e.block < g.blocks) × ((decoded_by version g pieces).files (a, v, e.file) ≡ true))
      (stripe_entries g (decoded_by version g pieces) a v s)
  entry_within a v s =
      let x : State = decoded_by version g pieces in
      all_joined (λ (e : BlockEntry). (e.block < g.blocks) × (x.files (a, v, e.file) ≡ true)) g.files _
      (λ f in_files. all_joined (λ (e : BlockEntry). (e.block < g.blocks) × (x.files (a, v, e.file) ≡ true)) g.blocks _
      (λ b below. by f b below (x.files (a, v, f)) refl))
    where
      by : (f b : ℕ) → b < g.blocks → (t : Bool) → (decoded_by version g pieces).files (a, v, f) ≡ t
          → AllByRecursion (λ (e : BlockEntry). (e.block < g.blocks) × ((decoded_by version g pieces).files (a, v, e.file) ≡ true))
          (entry_if (t && (stripe_of g f b == s)) f b ((decoded_by version g pieces).blocks (a, v, f, b)))
      by f b below true there =
          one_of (λ (e : BlockEntry). (e.block < g.blocks) × ((decoded_by version g pieces).files (a, v, e.file) ≡ true)) (stripe_of g f b == s) f b
          ((decoded_by version g pieces).blocks (a, v, f, b)) (λ content. (below, there))
      by f b below false out = tt

  blocks_in_range : (k : BlockKey) → is_some ((decoded_by version g pieces).blocks k) ≡ true → (k.3 < g.blocks) × ((decoded_by version g pieces).files (k.0, k.1, k.2) ≡ true)
  blocks_in_range k some = by (has_volume g (k.0, k.1)) refl
    where
      by : (t : Bool) → has_volume g (k.0, k.1) ≡ t → (k.3 < g.blocks) × ((decoded_by version g pieces).files (k.0, k.1, k.2) ≡ true)
      by true there =
          let x : State = decoded_by version g pieces in
          let s : ℕ = stripe_of g k.2 k.3 in
          let measured = is_measured version g pieces sized in
          let entries : entries_in g.quota (pieces (stripe_piece_number g k.0 k.1 s)) ≡ stripe_entries g x k.0 k.1 s =
          ap (λ (l : List ℕ). entries_in g.quota l) (stripe_spelled (k.0, k.1) there s (group_below g k.2 k.3))
          ∙ entries_again (stripe_entries g x k.0 k.1 s) (entries_good g x measured k.0 k.1 s) g.quota
          (g.quota * BLOCK_ENTRY_SIZE - length (flat_map entry_bytes (stripe_entries g x k.0 k.1 s))) (measured.quota k.0 k.1 s) in
          let held : x.blocks k ≡ content_at (stripe_entries g x k.0 k.1 s) k.2 k.3 =
          blocks_decoded version g pieces sized k.0 k.1 s k.2 k.3 true there refl ∙ ap (λ (es : List BlockEntry). content_at es k.2 k.3) entries in
          content_of (λ f b. (b < g.blocks) × (x.files (k.0, k.1, f) ≡ true)) k.2 k.3 (stripe_entries g x k.0 k.1 s)
          (entry_within k.0 k.1 s)
          (sym (ap (λ (o : Option Block). is_some o) held) ∙ some)
      by false out = absurd (true≢false (sym some ∙ ap (λ (o : Option Block). is_some o) (blocks_decoded version g pieces sized k.0 k.1 (stripe_of g k.2 k.3) k.2 k.3 false out refl)))

  labels_of_made : (k : VolumeKey) → is_some ((decoded_by version g pieces).labels k) ≡ (decoded_by version g pieces).made k
  labels_of_made k = grind arith

  pub is_state : IsState g (decoded_by version g pieces)
  is_state = record {
    made = made_in_range;
    sealed = sealed_is_made;
    files = files_in_range;
    blocks = blocks_in_range;
    labels = labels_of_made;
    content = content_decoded version g pieces sized;
    label_content = label_decoded version g pieces sized;
    quota = few_blocks version g pieces sized;
  }
