-- Pieces that are taken in one after the other decode to the same state as all at once, and zeros in the place of a piece to nothing.
use Rattle.std.proofs.Common.{◌≡◌, ◌≢◌, ℕ, zero, suc, ◌+◌, ◌*◌, ◌-◌, ◌<◌, ◌≤◌, Bool, true, false, ◌&&◌, List, [], ◌++◌, replicate, Option, None, refl, sym, ◌∙◌, ap, arith, true≢false}
use Rattle.std.specs.Prelude.{◌==◌, nat_lt, if◌then◌else◌}
use Rattle.std.proofs.lemmas.Bool.{and_from, and_right, lt-ltb, eqb-true, eq-eqb}
use Rattle.stripe.proofs.EntryBytes.{none_there}
use Rattle.meaning.proofs.AgreeOn.{same_if}
use Rattle.affinity.specs.Geometry.{stripe_of}
use Rattle.affinity.specs.declared.geometry.Geometry.{Geometry}
use Rattle.affinity.proofs.PlaceLemmas.{group_below}
use Rattle.device_map.specs.declared.layout.TheConstants.{BLOCK_ENTRY_SIZE, VOLUME_PIECE_SIZE}
use Rattle.protocol.specs.declared.messages.Block.{Block}
use Rattle.meaning.specs.State.{State, VolumeKey, BlockKey, empty, is_volume, is_block_of}
use Rattle.stripe.specs.Entries.{stripe_bytes}
use Rattle.stripe.specs.Stripe.{BlockEntry, content_at}
use Rattle.image.specs.Pieces.{pieces_of_volume, piece_count, piece_size, piece_part_size, piece_of, part_piece, aggregate_of, volume_of, part_of, volume_piece_number, stripe_piece_number, has_volume, volume_piece, stripe_entries, entry_if, joined_below, is_made_in, is_sealed_in, has_file_in, label_in, block_in, decoded_by, with_piece, with_part}
use Rattle.image.specs.Image.{piece_in, decoded_before}
use Rattle.image.proofs.PieceNumbers.{part_there, size_there, aggregate_there, volume_there, number_there, in_aggregates}
use Rattle.meaning.proofs.FileNumber.{bits_there}
use Rattle.image.proofs.DecodedBy.{is_volume_there}
use Rattle.image.proofs.SamePieces.{entries_same, no_entry_of_none}

-- the first n pieces, and zeros in the place of the others
abbrev pub first_of : Geometry → (ℕ → List ℕ) → ℕ → ℕ → List ℕ
first_of g pieces n i = if nat_lt i n then pieces i else replicate (piece_size g i) 0

module _ (g : Geometry) (pieces : ℕ → List ℕ) (n i : ℕ) where
  pub first_there : i < n → first_of g pieces n i ≡ pieces i
  first_there less = ap (λ (t : Bool). if t then pieces i else replicate (piece_size g i) 0) (lt-ltb i n less)

  pub first_behind : n ≤ i → first_of g pieces n i ≡ replicate (piece_size g i) 0
  first_behind no_less = grind arith

  pub no_block_in_zeros : (f b : ℕ) → n ≤ i → block_in g (first_of g pieces n i) f b ≡ None
  no_block_in_zeros f b behind = ap (λ (l : List ℕ). block_in g l f b) (first_behind behind) ∙ ap (λ es. content_at es f b) (none_there g.quota (piece_size g i))

-- with one more piece the others are as before
first_more : (g : Geometry) (pieces : ℕ → List ℕ) (n i : ℕ) → i ≢ n → first_of g pieces n i ≡ first_of g pieces (suc n) i
first_more g pieces n i other = grind arith

-- ---- zeros decode to nothing

pub zeros_of_volume : (g : Geometry) (pieces : ℕ → List ℕ) (n a v : ℕ) → n ≤ volume_piece_number g a v → first_of g pieces n (volume_piece_number g a v) ≡ replicate 64 0
zeros_of_volume g pieces n a v behind = grind (arith, size_there g a v 0 (omega arith))

-- ---- a field that is decoded where its volume is there

none_decoded : (h p : Bool) → p ≡ false → false ≡ (h && p)
none_decoded true p off = sym off
none_decoded false p off = refl

no_value : {X : Type 0} (h : Bool) (o : Option X) → o ≡ None → None ≡ (if h then o else None)
no_value true o off = sym off
no_value false o off = refl

pub none_before : (version : ℕ) (g : Geometry) (pieces : ℕ → List ℕ) → empty ≡ decoded_by version g (first_of g pieces 0)
none_before version g pieces = λ i. record {
  made = λ k. none_decoded (has_volume g k) _ (ap is_made_in (zeros k)) i;
  sealed = λ k. none_decoded (has_volume g k) _ (ap is_sealed_in (zeros k)) i;
  files = λ k. none_decoded (has_volume g (k.0, k.1)) _ (ap (λ (l : List ℕ). has_file_in l k.2) (zeros (k.0, k.1)) ∙ no_file k.2) i;
  blocks = λ k. no_value (has_volume g (k.0, k.1)) _ (no_block_in_zeros g pieces 0 (stripe_piece_number g k.0 k.1 (stripe_of g k.2 k.3)) k.2 k.3 (omega arith)) i;
  labels = λ k. no_value (has_volume g k) _ (ap (label_in version) (zeros k)) i;
}
  where
    zeros : (k : VolumeKey) → first_of g pieces 0 (volume_piece_number g k.0 k.1) ≡ replicate 64 0
    zeros k = zeros_of_volume g pieces 0 k.0 k.1 (omega arith)

    no_file : (f : ℕ) → has_file_in (replicate 64 0) f ≡ false
    no_file f = bits_there 0 (λ f. false) (λ f e. absurd (true≢false (sym e))) f

-- ---- the pieces of a state that zeros decode to

pub if_none : (p : Bool) (o : Option Block) → o ≡ None → (if p then o else None) ≡ None
if_none true o off = off
if_none false o off = refl

nothing_joined : (n : ℕ) (h : ℕ → List BlockEntry) → ((i : ℕ) → h i ≡ []) → joined_below n h ≡ []
nothing_joined zero h none = refl
nothing_joined (suc n) h none = λ i. nothing_joined n h none i ++ none n i

-- the piece of a volume that isn't made
unmade : (version : ℕ) (g : Geometry) (x : State) (a v : ℕ) → x.made (a, v) ≡ false → volume_piece version g x a v ≡ replicate VOLUME_PIECE_SIZE 0
unmade version g x a v off = rw off refl

module _ (version : ℕ) (g : Geometry) (pieces : ℕ → List ℕ) (n i : ℕ) (behind : n ≤ i) where
  pub zero_piece : piece_of version g (decoded_by version g (first_of g pieces n)) i ≡ replicate (piece_size g i) 0
  zero_piece = by (part_of g i) refl
    where
      by : (p : ℕ) → part_of g i ≡ p → part_piece version g (decoded_by version g (first_of g pieces n)) (aggregate_of g i)
          (volume_of g i) p ≡ replicate (piece_part_size g p) 0
      -- a volume whose piece is zeros isn't made
      by zero part =
          let a : ℕ = aggregate_of g i in
          let v : ℕ = volume_of g i in
          let number = number_there g i in
          let zeros = zeros_of_volume g pieces n a v (omega (arith, number, part, behind)) in
          unmade version g (decoded_by version g (first_of g pieces n)) a v
          (and_right (has_volume g (a, v)) (is_made_in (first_of g pieces n (volume_piece_number g a v))) (ap is_made_in zeros))
      -- a stripe whose piece is zeros has no block, so its entries are those of the empty state: none
      by (suc s) part =
          let a : ℕ = aggregate_of g i in
          let v : ℕ = volume_of g i in
          let number = number_there g i in
          let x : State = decoded_by version g (first_of g pieces n) in
          let none : (f b : ℕ) → stripe_of g f b ≡ s → x.blocks (a, v, f, b) ≡ None =
          λ f b on. if_none (has_volume g (a, v)) _
          (no_block_in_zeros g pieces n (stripe_piece_number g a v (stripe_of g f b)) f b (omega (arith, number, part, on, behind))) in
          let as_empty : stripe_entries g x a v s ≡ stripe_entries g empty a v s =
          entries_same g x empty a v s (λ f b on. ap (entry_if (x.files (a, v, f)) f b) (none f b on) ∙ no_entry_of_none (x.files (a, v, f)) f b) in
          let nothing : stripe_entries g empty a v s ≡ [] =
          nothing_joined g.files (λ f. joined_below g.blocks (λ b. [])) (λ f. nothing_joined g.blocks (λ b. []) (λ b. refl)) in
          let size : g.quota * BLOCK_ENTRY_SIZE - 0 ≡ g.quota * BLOCK_ENTRY_SIZE = omega arith in
          ap (stripe_bytes g.quota) (as_empty ∙ nothing) ∙ ap (λ (k : ℕ). replicate k 0) size

-- ---- one more piece

module _ (version : ℕ) (g : Geometry) (pieces : ℕ → List ℕ) (n : ℕ) (below : n < piece_count g) where
  -- the key of the volume of piece n
  same_volume : (k : VolumeKey) → is_volume (aggregate_of g n) (volume_of g n) k ≡ true → (aggregate_of g n ≡ k.0) × (volume_of g n ≡ k.1)
  same_volume k on = grind arith

  pub its_volume : has_volume g (aggregate_of g n, volume_of g n) ≡ true
  its_volume = grind (arith, in_aggregates g n below)

  there_is : (k : VolumeKey) → is_volume (aggregate_of g n) (volume_of g n) k ≡ true → has_volume g k ≡ true
  there_is k on = let same = same_volume k on in sym (λ i. has_volume g (same.0 i, same.1 i)) ∙ its_volume

  now_there : (k : VolumeKey) (p : ℕ) → is_volume (aggregate_of g n) (volume_of g n) k ≡ true → part_of g n ≡ p → first_of g pieces (suc n) (volume_piece_number g k.0 k.1 + p) ≡ pieces n
  now_there k p on part = grind (arith, same_volume k on, number_there g n)

  -- with piece n, other parts of a volume are as before
  other_part : (a v p : ℕ) → p < pieces_of_volume g → part_of g n ≢ p → first_of g pieces n (volume_piece_number g a v + p) ≡ first_of g pieces (suc n) (volume_piece_number g a v + p)
  other_part a v p few other = first_more g pieces n (volume_piece_number g a v + p)
      (λ same. other (sym (ap (part_of g) same) ∙ part_there g a v p few))

  -- with piece n, other volumes are as before
  other_volume : (k : VolumeKey) (p : ℕ) → p < pieces_of_volume g → is_volume (aggregate_of g n) (volume_of g n) k ≡ false → has_volume g k ≡ true
      → first_of g pieces n (volume_piece_number g k.0 k.1 + p) ≡ first_of g pieces (suc n) (volume_piece_number g k.0 k.1 + p)
  other_volume k p few off there =
      first_more g pieces n (volume_piece_number g k.0 k.1 + p)
      (λ same.
      let inside = (is_volume_there g k there).1 in
      let aggregate : aggregate_of g n ≡ k.0 = sym (ap (aggregate_of g) same) ∙ aggregate_there g k.0 k.1 p few inside in
      let volume : volume_of g n ≡ k.1 = sym (ap (volume_of g) same) ∙ volume_there g k.0 k.1 p few inside in
      let on : is_volume (aggregate_of g n) (volume_of g n) k ≡ true =
      and_from _ _ (eq-eqb (aggregate_of g n) k.0 aggregate) (eq-eqb (volume_of g n) k.1 volume) in
      true≢false (sym on ∙ off))

  first_number : (l : ℕ) (k : VolumeKey) → first_of g pieces l (volume_piece_number g k.0 k.1 + 0) ≡ first_of g pieces l (volume_piece_number g k.0 k.1)
  first_number l k = grind arith

  mark_decoded : (F : List ℕ → Bool) (k : VolumeKey) → part_of g n ≡ 0 → (if is_volume (aggregate_of g n) (volume_of g n) k then F (pieces n) else
      (has_volume g k && F (first_of g pieces n (volume_piece_number g k.0 k.1))))
      ≡ (has_volume g k && F (first_of g pieces (suc n) (volume_piece_number g k.0 k.1)))
  mark_decoded F k part = by (is_volume (aggregate_of g n) (volume_of g n) k) refl
    where
      by : (t : Bool) → is_volume (aggregate_of g n) (volume_of g n) k ≡ t → (if t then F (pieces n) else (has_volume g k && F (first_of g pieces n (volume_piece_number g k.0 k.1))))
          ≡ (has_volume g k && F (first_of g pieces (suc n) (volume_piece_number g k.0 k.1)))
      by true on = sym (λ i. there_is k on i && F ((sym (first_number (suc n) k) ∙ now_there k 0 on part) i))
      by false off = grind (arith, first_number n k, first_number (suc n) k, other_volume)

  label_decoded : (k : VolumeKey) → part_of g n ≡ 0 → (if is_volume (aggregate_of g n) (volume_of g n) k then label_in version (pieces n) else
      (if has_volume g k then label_in version (first_of g pieces n (volume_piece_number g k.0 k.1)) else None))
      ≡ (if has_volume g k then label_in version (first_of g pieces (suc n) (volume_piece_number g k.0 k.1)) else None)
  label_decoded k part = by (is_volume (aggregate_of g n) (volume_of g n) k) refl
    where
      by : (t : Bool) → is_volume (aggregate_of g n) (volume_of g n) k ≡ t → (if t then label_in version (pieces n) else
          (if has_volume g k then label_in version (first_of g pieces n (volume_piece_number g k.0 k.1)) else None))
          ≡ (if has_volume g k then label_in version (first_of g pieces (suc n) (volume_piece_number g k.0 k.1)) else None)
      by true on = sym (λ i. if there_is k on i then label_in version ((sym (first_number (suc n) k) ∙ now_there k 0 on part) i) else None)
      by false off = grind (arith, first_number n k, first_number (suc n) k, other_volume)

  block_decoded : (s : ℕ) (k : BlockKey) → part_of g n ≡ suc s → (if is_block_of (aggregate_of g n) (volume_of g n) k && (stripe_of g k.2 k.3 == s) then block_in g (pieces n) k.2 k.3 else
      (if has_volume g (k.0, k.1) then block_in g
      (first_of g pieces n (stripe_piece_number g k.0 k.1 (stripe_of g k.2 k.3))) k.2 k.3 else None))
      ≡ (if has_volume g (k.0, k.1) then block_in g
      (first_of g pieces (suc n) (stripe_piece_number g k.0 k.1 (stripe_of g k.2 k.3))) k.2 k.3 else None)
  block_decoded s k part = by (is_block_of (aggregate_of g n) (volume_of g n) k) (stripe_of g k.2 k.3 == s) refl refl
    where
      few : suc (stripe_of g k.2 k.3) < pieces_of_volume g
      few = let below = group_below g k.2 k.3 in omega (arith, below)

      by : (t u : Bool) → is_block_of (aggregate_of g n) (volume_of g n) k ≡ t → (stripe_of g k.2 k.3 == s) ≡ u → (if t && u then block_in g (pieces n) k.2 k.3 else
          (if has_volume g (k.0, k.1) then block_in g
          (first_of g pieces n (stripe_piece_number g k.0 k.1 (stripe_of g k.2 k.3))) k.2 k.3 else None))
          ≡ (if has_volume g (k.0, k.1) then block_in g
          (first_of g pieces (suc n) (stripe_piece_number g k.0 k.1 (stripe_of g k.2 k.3))) k.2 k.3 else None)
      by true true on same =
          let its : part_of g n ≡ suc (stripe_of g k.2 k.3) = part ∙ sym (ap suc (eqb-true (stripe_of g k.2 k.3) s same)) in
          sym (λ i. if there_is (k.0, k.1) on i then block_in g (now_there (k.0, k.1) (suc (stripe_of g k.2 k.3)) on its i) k.2 k.3 else None)
      by true false on off =
          same_if (has_volume g (k.0, k.1)) _ _
          (λ there. ap (λ (l : List ℕ). block_in g l k.2 k.3)
          (other_part k.0 k.1 (suc (stripe_of g k.2 k.3)) few
          (λ same. true≢false (sym (eq-eqb (stripe_of g k.2 k.3) s (omega (arith, same, part))) ∙ off))))
      by false u off _ = same_if (has_volume g (k.0, k.1)) _ _
          (λ there. ap (λ (l : List ℕ). block_in g l k.2 k.3) (other_volume (k.0, k.1) (suc (stripe_of g k.2 k.3)) few off there))

  pub one_more_piece : with_piece version g (decoded_by version g (first_of g pieces n)) n (pieces n) ≡ decoded_by version g (first_of g pieces (suc n))
  one_more_piece = by (part_of g n) refl
    where
      same_first : (s : ℕ) (k : VolumeKey) → part_of g n ≡ suc s → first_of g pieces n (volume_piece_number g k.0 k.1) ≡ first_of g pieces (suc n) (volume_piece_number g k.0 k.1)
      same_first s k part = sym (first_number n k) ∙ other_part k.0 k.1 0 (omega arith) (λ first. omega (arith, part, first)) ∙ first_number (suc n) k

      by : (p : ℕ) → part_of g n ≡ p → with_part version g (decoded_by version g (first_of g pieces n)) (aggregate_of g n)
          (volume_of g n) p (pieces n) ≡ decoded_by version g (first_of g pieces (suc n))
      by zero part = λ i. record {
        made = λ k. mark_decoded is_made_in k part i;
        sealed = λ k. mark_decoded is_sealed_in k part i;
        files = λ k. mark_decoded (λ l. has_file_in l k.2) (k.0, k.1) part i;
        blocks = λ k.
            if has_volume g (k.0, k.1)
            then block_in g (other_part k.0 k.1 (suc (stripe_of g k.2 k.3)) (let below = group_below g k.2 k.3 in omega (arith, below))
            (λ same. omega (arith, same, part)) i) k.2 k.3
            else None;
        labels = λ k. label_decoded k part i;
      }
      by (suc s) part = λ i. record {
        made = λ k. has_volume g k && is_made_in (same_first s k part i);
        sealed = λ k. has_volume g k && is_sealed_in (same_first s k part i);
        files = λ k. has_volume g (k.0, k.1) && has_file_in (same_first s (k.0, k.1) part i) k.2;
        blocks = λ k. block_decoded s k part i;
        labels = λ k. if has_volume g k then label_in version (same_first s k part i) else None;
      }

-- what the first n pieces decode to, taken in one after the other
pub taken : (version : ℕ) (g : Geometry) (bytes : List ℕ) (n : ℕ) → n ≤ piece_count g → decoded_before version g bytes n ≡ decoded_by version g (first_of g (piece_in g bytes) n)
taken version g bytes zero few = none_before version g (piece_in g bytes)
taken version g bytes (suc n) few = grind (arith, taken version g bytes n (omega (arith, few)), one_more_piece version g (piece_in g bytes) n few)
