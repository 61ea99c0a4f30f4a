-- An image is read piece by piece, and what is read is a state.
use Rattle.std.proofs.lemmas.Bool.Decides.{nat_tests}
use Rattle.std.proofs.Common.{◌≡◌, ℕ, suc, ◌+◌, ◌<◌, ◌≤◌, Bool, true, false, ◌↔◌, List, drop, Some, None, is_some, refl, sym, ◌∙◌, ap, subst, arith, ⊎_elim, true≢false, length-take, length-drop}
use Rattle.std.specs.Prelude.{if◌then◌else◌}
use Rattle.std.specs.Str.{bytes_eq}
use Rattle.std.proofs.lemmas.Bool.{cases_lt, and_parts, and_from}
use Rattle.std.proofs.lemmas.List.{length-replicate}
use Rattle.std.proofs.lemmas.Slice.Eq.{bytes_eq-Decides}
use Rattle.meaning.proofs.IsState.{zeros_are_bytes}
use Rattle.meaning.proofs.AgreeOn.{same_and, same_if}
use Rattle.affinity.specs.Geometry.{stripe_of}
use Rattle.affinity.specs.declared.geometry.Geometry.{Geometry}
use Rattle.affinity.proofs.PlaceLemmas.{group_below}
use Rattle.affinity.proofs.Elements.{all_take, all_drop}
use Rattle.device_map.specs.Layout.{slice}
use Rattle.protocol.specs.Messages.{AreSizedBytes}
use Rattle.meaning.specs.State.{State, VolumeKey, IsState}
use Rattle.image.specs.Pieces.{pieces_of_volume, piece_count, piece_at, piece_size, piece_of, aggregate_of, volume_of, part_of, volume_piece_number, has_volume, is_made_in, is_sealed_in, has_file_in, label_in, block_in, decoded_by, stripe_piece_number}
use Rattle.image.specs.Image.{image_head, image_of, image_state, is_image, is_version, has_head, version_in, piece_in, decoded_state, decoded_before, is_good, AreGood}
use Rattle.image.proofs.SamePieces.{piece_same}
use Rattle.image.proofs.DecodedBefore.{zero_piece, if_none, first_of, first_there, first_behind, no_block_in_zeros, taken}
use Rattle.image.proofs.PieceIn.{piece_again}
use Rattle.image.proofs.JoinedPieces.{by_pieces, sum_grows}
use Rattle.image.proofs.PieceNumbers.{number_there}
use Rattle.image.proofs.DecodedBy.{is_volume_there, is_measured, is_state}

-- ---- the bytes of pieces

module _ (g : Geometry) (bytes : List ℕ) (are : AreSizedBytes (piece_at g (piece_count g)) bytes) where
  pub piece_bytes : (n : ℕ) → n < piece_count g → AreSizedBytes (piece_size g n) (piece_in g bytes n)
  piece_bytes n below =
      let most = sum_grows (piece_size g) (suc n) (piece_count g) (omega (arith, below)) in
      let more : piece_at g n + piece_size g n ≤ piece_at g (piece_count g) = omega (arith, most) in (
        omega (arith, are.0, more, length-take (piece_size g n) (drop (piece_at g n) bytes), length-drop (piece_at g n) bytes),
        all_take (λ b. b < 256) (piece_size g n) (drop (piece_at g n) bytes) (all_drop (λ b. b < 256) (piece_at g n) bytes are.1),
      )

  first_bytes : (n i : ℕ) → i < piece_count g → AreSizedBytes (piece_size g i) (first_of g (piece_in g bytes) n i)
  first_bytes n i below =
      ⊎_elim
      (λ (less : i < n). subst (AreSizedBytes (piece_size g i)) (sym (first_there g (piece_in g bytes) n i less)) (piece_bytes i below))
      (λ (no_less : n ≤ i). subst (AreSizedBytes (piece_size g i)) (sym (first_behind g (piece_in g bytes) n i no_less))
      (length-replicate (piece_size g i) 0, zeros_are_bytes (piece_size g i)))
      (cases_lt i n)

-- ---- what the first pieces decode to

module _ (version : ℕ) (g : Geometry) (bytes : List ℕ) where
  -- A piece is that of what the image decodes to where it is that of what is decoded so far.
  so_far : (n i : ℕ) → i < n → piece_of version g (decoded_state version g bytes) i ≡ piece_of version g (decoded_by version g (first_of g (piece_in g bytes) n)) i
  so_far n i less =
      let number = number_there g i in
      piece_same version g (piece_in g bytes) (first_of g (piece_in g bytes) n) i
      (sym (first_there g (piece_in g bytes) n (volume_piece_number g (aggregate_of g i) (volume_of g i)) (omega (arith, number, less))))
      (sym (first_there g (piece_in g bytes) n i less))

  pub no_blocks_yet : (n : ℕ) → n < piece_count g → part_of g n ≡ 0 → (f b : ℕ) → (decoded_before version g bytes n).blocks (aggregate_of g n, volume_of g n, f, b) ≡ None
  no_blocks_yet n below part f b =
      let number = number_there g n in
      ap (λ (x : State). x.blocks (aggregate_of g n, volume_of g n, f, b)) (taken version g bytes n (omega (arith, below)))
      ∙ if_none (has_volume g (aggregate_of g n, volume_of g n)) _
      (no_block_in_zeros g (piece_in g bytes) n (stripe_piece_number g (aggregate_of g n) (volume_of g n) (stripe_of g f b)) f b (omega (arith, number, part)))

  -- all pieces, taken in one after the other
  all_taken : decoded_before version g bytes (piece_count g) ≡ decoded_state version g bytes
  all_taken =
      taken version g bytes (piece_count g) (omega arith)
      ∙ (λ i. record {
        made = λ k. same_and (has_volume g k) _ _ (λ there. ap is_made_in (first k there)) i;
        sealed = λ k. same_and (has_volume g k) _ _ (λ there. ap is_sealed_in (first k there)) i;
        files = λ k. same_and (has_volume g (k.0, k.1)) _ _ (λ there. ap (λ (l : List ℕ). has_file_in l k.2) (first (k.0, k.1) there)) i;
        blocks = λ k.
            same_if (has_volume g (k.0, k.1)) _ _
            (λ there. ap (λ (l : List ℕ). block_in g l k.2 k.3)
            (part (k.0, k.1) (suc (stripe_of g k.2 k.3)) (let below = group_below g k.2 k.3 in omega (arith, below)) there)) i;
        labels = λ k. same_if (has_volume g k) _ _ (λ there. ap (label_in version) (first k there)) i;
      })
    where
      part : (k : VolumeKey) (p : ℕ) → p < pieces_of_volume g → has_volume g k ≡ true
          → first_of g (piece_in g bytes) (piece_count g) (volume_piece_number g k.0 k.1 + p)
          ≡ piece_in g bytes (volume_piece_number g k.0 k.1 + p)
      part k p few there = grind (arith, nat_tests, is_volume_there g k there)

      first : (k : VolumeKey) → has_volume g k ≡ true
          → first_of g (piece_in g bytes) (piece_count g) (volume_piece_number g k.0 k.1)
          ≡ piece_in g bytes (volume_piece_number g k.0 k.1)
      first k there = grind (arith, part k 0 (omega arith) there)

module _ (g : Geometry) (bytes : List ℕ) where
  pub good_is_seen : (n : ℕ) → n < piece_count g
      → (is_good g bytes n ≡ true) ↔ (piece_in g bytes n
      ≡ piece_of (version_in bytes) g (decoded_before (version_in bytes) g bytes (suc n)) n)
  good_is_seen n below =
      let version : ℕ = version_in bytes in
      let same : piece_of version g (decoded_state version g bytes) n ≡ piece_of version g (decoded_before version g bytes (suc n)) n =
      so_far version g bytes (suc n) n (omega arith)
      ∙ ap (λ (x : State). piece_of version g x n) (sym (taken version g bytes (suc n) below)) in
      let decides = bytes_eq-Decides (piece_in g bytes n) (piece_of version g (decoded_state version g bytes) n) in
      ((λ on. decides.0 on ∙ same), (λ e. decides.1 (e ∙ sym same)))

  pub good_is_spelled : (n : ℕ) → is_good g bytes n ≡ true
      → piece_in g bytes n ≡ piece_of (version_in bytes) g (decoded_state (version_in bytes) g bytes) n
  good_is_spelled n on = (bytes_eq-Decides (piece_in g bytes n) (piece_of (version_in bytes) g (decoded_state (version_in bytes) g bytes) n)).0 on

  pub first_are_a_state : AreSizedBytes (piece_at g (piece_count g)) bytes → (n : ℕ) → n ≤ piece_count g → AreGood g bytes n
      → IsState g (decoded_before (version_in bytes) g bytes n)
  first_are_a_state are n few good =
      let version : ℕ = version_in bytes in
      let first : ℕ → List ℕ = first_of g (piece_in g bytes) n in
      subst (IsState g) (sym (taken version g bytes n few))
      (is_state version g first (first_bytes g bytes are n)
      (λ i below.
      ⊎_elim
      (λ (less : i < n). first_there g (piece_in g bytes) n i less ∙ good_is_spelled i (good i less) ∙ so_far version g bytes n i less)
      (λ (no_less : n ≤ i). first_behind g (piece_in g bytes) n i no_less ∙ sym (zero_piece version g (piece_in g bytes) n i no_less))
      (cases_lt i n)))

  pub good_is_read : AreSizedBytes (piece_at g (piece_count g)) bytes → has_head bytes ≡ true → AreGood g bytes (piece_count g)
      → image_state g bytes ≡ Some (decoded_before (version_in bytes) g bytes (piece_count g))
  good_is_read are head good =
      let version : ℕ = version_in bytes in
      let parts = and_parts (is_version version) (bytes_eq (slice bytes 0 64) (image_head version)) head in
      let begins = (bytes_eq-Decides (slice bytes 0 64) (image_head version)).0 parts.1 in
      let spelled : bytes ≡ image_of version g (decoded_state version g bytes) =
      by_pieces version g (decoded_state version g bytes) bytes begins are.0 (λ i below. good_is_spelled i (good i below)) in
      let is : is_image g bytes ≡ true = and_from _ _ parts.0
      ((bytes_eq-Decides bytes (image_of version g (decoded_state version g bytes))).1 spelled) in
      ap (λ (t : Bool). if t then Some (decoded_state version g bytes) else None) is ∙ ap (λ (x : State). Some x) (sym (all_taken version g bytes))

  pub read_is_good : AreSizedBytes (piece_at g (piece_count g)) bytes → is_some (image_state g bytes) ≡ true
      → (has_head bytes ≡ true) × AreGood g bytes (piece_count g)
  read_is_good are some = by (is_image g bytes) refl some
    where
      by : (t : Bool) → is_image g bytes ≡ t → is_some (if t then Some (decoded_state (version_in bytes) g bytes) else None) ≡ true
          → (has_head bytes ≡ true) × AreGood g bytes (piece_count g)
      by false off none = absurd (true≢false (sym none))
      by true on _ =
          let version : ℕ = version_in bytes in
          let parts = and_parts (is_version version) (bytes_eq bytes (image_of version g (decoded_state version g bytes))) on in
          let spelled : bytes ≡ image_of version g (decoded_state version g bytes) =
          (bytes_eq-Decides bytes (image_of version g (decoded_state version g bytes))).0 parts.1 in
          let begins : slice bytes 0 64 ≡ image_head version = ap (λ (l : List ℕ). slice l 0 64) spelled in (
            and_from _ _ parts.0 ((bytes_eq-Decides (slice bytes 0 64) (image_head version)).1 begins),
            λ n below.
                (bytes_eq-Decides (piece_in g bytes n) (piece_of version g (decoded_state version g bytes) n)).1
                (ap (λ (l : List ℕ). piece_in g l n) spelled
                ∙ piece_again version g (decoded_state version g bytes)
                (is_measured version g (piece_in g bytes) (piece_bytes g bytes are)) n below),
          )

  pub read_is_a_state : AreSizedBytes (piece_at g (piece_count g)) bytes → (x : State) → image_state g bytes ≡ Some x → IsState g x
  read_is_a_state are x is = grind (arith, read_is_good, good_is_read, first_are_a_state)
