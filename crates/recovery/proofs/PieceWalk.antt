-- The pieces of an image, taken in one after the other.
use Rattle.std.proofs.Common.{◌≡◌, ℕ, zero, suc, ◌+◌, ◌<◌, ◌≤◌, Bool, true, false, ◌&&◌, ◌==◌, List, length, take, drop, Option, Some, None, Result, Ok, Err, is_err, is_ok, ⊎_elim, refl, sym, ◌∙◌, ap, subst, arith, add-one}
use Rattle.std.specs.Prelude.{if◌then◌else◌}
use Rattle.std.proofs.lemmas.Bool.{and_parts, cases_lt, cond-false, cond-true, eqb-true, false_from_ne_true, false≢true, or_cases}
use Rattle.std.proofs.lemmas.List.{length-drop, length-take, length-take-le}
use Rattle.affinity.specs.declared.geometry.Geometry.{Geometry}
use Rattle.affinity.specs.Geometry.{stripe_of}
use Rattle.recovery.specs.declared.fault.OpenFault.{OpenFault}
use Rattle.recovery.specs.declared.fault.OpenFault.TheVariants.{BadPiece}
use Rattle.recovery.specs.OpenFaults.{IsConsistentFault}
use Rattle.recovery.specs.Refusals.{fault_or_later, first_bad, first_bad_piece}
use Rattle.disk.specs.CrashImages.{AreBytes}
use Rattle.disk.proofs.Bytes.{bytes-range, bytes_by_recursion}
use Rattle.image.specs.Image.{AreGood, has_head, is_good, is_version, piece_in, image_state, decoded_before, version_in}
use Rattle.image.specs.Pieces.{aggregate_of, block_in, part_of, piece_at, piece_count, piece_of, piece_size, volume_of, volume_piece_number, with_part, with_piece}
use Rattle.image.proofs.JoinedPieces.{piece_inside, whole_image}
use Rattle.image.proofs.PieceNumbers.{number_there}
use Rattle.image.proofs.GoodPieces.{good_is_read, good_is_seen}
use Rattle.protocol.specs.Messages.{AreSizedBytes as Holds}
use Rattle.device_map.specs.Layout.{device_size, image_part, layout_of, part_bytes, part_at, part_size, slice}
use Rattle.oplog.proofs.PartLemmas.{image_sized, part_inside, slice_slice}
use Rattle.meaning.specs.State.{State, empty, is_block_of}

-- ---- where pieces lie

pub piece_there : (g : Geometry) (number n : ℕ) {at : ℕ} (now : List ℕ) {out : List ℕ} → number < 2 → n < piece_count g → at ≡ part_at (layout_of g) (image_part number) + piece_at g n
    → out ≡ slice now at (piece_size g n) → out ≡ piece_in g (part_bytes (layout_of g) (image_part number) now) n
piece_there g number n now is_image below place is =
    is ∙ ap (λ (a : ℕ). slice now a (piece_size g n)) place
    ∙ sym (slice_slice now (part_at (layout_of g) (image_part number)) (part_size (layout_of g) (image_part number)) (piece_at g n) (piece_size g n)
    (omega (arith, piece_inside g n below, image_sized (layout_of g) number is_image)))

-- ---- volumes of which no piece was taken in have no block

pub record AreFree (g : Geometry) (n : ℕ) (x : State) : Type 0 where
  pub blocks : (m f b : ℕ) → n ≤ m → part_of g m ≡ 0 → x.blocks (aggregate_of g m, volume_of g m, f, b) ≡ None

pub free_at_first : (g : Geometry) (x : State) → x ≡ empty → AreFree g 0 x
free_at_first g x is = record { blocks = λ m f b behind part. ap (λ (y : State). y.blocks (aggregate_of g m, volume_of g m, f, b)) is }

module _ (version : ℕ) (g : Geometry) (n : ℕ) (x : State) (bytes : List ℕ) (before : AreFree g n x) where
  apart : (m : ℕ) → n + 1 ≤ m → part_of g m ≡ 0 → (f b : ℕ) → is_block_of (aggregate_of g n) (volume_of g n) (aggregate_of g m, volume_of g m, f, b) ≡ false
  apart m behind part f b =
      false_from_ne_true (is_block_of (aggregate_of g n) (volume_of g n) (aggregate_of g m, volume_of g m, f, b))
      (λ same.
      let parts = and_parts (aggregate_of g n == aggregate_of g m) (volume_of g n == volume_of g m) same in
      let a = eqb-true (aggregate_of g n) (aggregate_of g m) parts.0 in
      let v = eqb-true (volume_of g n) (volume_of g m) parts.1 in
      let number : volume_piece_number g (aggregate_of g n) (volume_of g n) ≡ volume_piece_number g (aggregate_of g m) (volume_of g m) = λ i. volume_piece_number g (a i) (v i) in
      absurd (omega (arith, number, number_there g n, number_there g m, part, behind)))

  pub free_next : AreFree g (n + 1) (with_piece version g x n bytes)
  free_next = record { blocks = λ m f b behind part. by m f b behind part (part_of g n) }
    where
      by : (m f b : ℕ) → n + 1 ≤ m → part_of g m ≡ 0 → (p : ℕ) → (with_part version g x (aggregate_of g n) (volume_of g n) p bytes).blocks (aggregate_of g m, volume_of g m, f, b) ≡ None
      by m f b behind part zero = before.blocks m f b (omega (arith, behind)) part
      by m f b behind part (suc s) =
          ap (λ (t : Bool). if t && (stripe_of g f b == s) then block_in g bytes f b else x.blocks (aggregate_of g m, volume_of g m, f, b)) (apart m behind part f b)
          ∙ before.blocks m f b (omega (arith, behind)) part

-- ---- one piece

module _ (g : Geometry) (bytes : List ℕ) (n : ℕ) {version : ℕ} (ver : version ≡ version_in bytes) (below : n < piece_count g)
    {x : State} (so_far : x ≡ decoded_before (version_in bytes) g bytes n) {out : List ℕ} (there : out ≡ piece_in g bytes n) where
  pub decoded_next : with_piece version g x n out ≡ decoded_before (version_in bytes) g bytes (n + 1)
  decoded_next = (λ i. with_piece (ver i) g (so_far i) n (there i)) ∙ ap (λ (k : ℕ). decoded_before (version_in bytes) g bytes k) (sym (add-one n))

  spelled : piece_of version g (with_piece version g x n out) n ≡ piece_of (version_in bytes) g (decoded_before (version_in bytes) g bytes (suc n)) n
  spelled = λ i. piece_of (ver i) g (with_piece (ver i) g (so_far i) n (there i)) n

  pub is_good_here : out ≡ piece_of version g (with_piece version g x n out) n → is_good g bytes n ≡ true
  is_good_here good = (good_is_seen g bytes n below).1 (sym there ∙ good ∙ spelled)

  pub is_bad_here : (out ≡ piece_of version g (with_piece version g x n out) n → ⊥) → is_good g bytes n ≡ false
  is_bad_here bad = false_from_ne_true (is_good g bytes n) (λ good. bad (there ∙ (good_is_seen g bytes n below).0 good ∙ sym spelled))

-- ---- the first bad piece

none_bad : (is_fine : ℕ → Bool) (n i : ℕ) → ((k : ℕ) → k < i + n → is_fine k ≡ true) → first_bad is_fine i n ≡ None
none_bad is_fine zero i fine = refl
none_bad is_fine (suc n) i fine =
    cond-true (is_fine i) (first_bad is_fine (suc i) n) (Some i) (fine i (omega arith))
    ∙ none_bad is_fine n (suc i) (λ k few. fine k (omega (arith, few)))

bad_at : (is_fine : ℕ → Bool) (n i k : ℕ) → i ≤ k → k < i + n → ((j : ℕ) → j < k → is_fine j ≡ true) → is_fine k ≡ false → first_bad is_fine i n ≡ Some k
bad_at is_fine zero i k behind below fine bad = absurd (omega (arith, behind, below))
bad_at is_fine (suc n) i k behind below fine bad =
    ⊎_elim
    (λ (less : i < k).
    cond-true (is_fine i) (first_bad is_fine (suc i) n) (Some i) (fine i less)
    ∙ bad_at is_fine n (suc i) k (omega (arith, less)) (omega (arith, below)) fine bad)
    (λ (no_less : k ≤ i).
    let same : i ≡ k = omega (arith, behind, no_less) in
    cond-false (is_fine i) (first_bad is_fine (suc i) n) (Some i) (ap is_fine same ∙ bad) ∙ ap (λ (j : ℕ). Some j) same)
    (cases_lt i k)

pub no_bad_piece : (g : Geometry) (bytes : List ℕ) → AreGood g bytes (piece_count g) → first_bad_piece g bytes ≡ None
no_bad_piece g bytes good = none_bad (is_good g bytes) (piece_count g) 0 (λ k few. good k (omega (arith, few)))

pub bad_piece : (g : Geometry) (bytes : List ℕ) (n : ℕ) → n < piece_count g → AreGood g bytes n → is_good g bytes n ≡ false → first_bad_piece g bytes ≡ Some n
bad_piece g bytes n below good bad = bad_at (is_good g bytes) (piece_count g) 0 n (omega arith) (omega (arith, below)) good bad

pub good_next : (g : Geometry) (bytes : List ℕ) (n : ℕ) → AreGood g bytes n → is_good g bytes n ≡ true → AreGood g bytes (n + 1)
good_next g bytes n good here i few =
    ⊎_elim
    (λ (less : i < n). good i less)
    (λ (no_less : n ≤ i). let same : i ≡ n = omega (arith, few, no_less) in ap (λ (k : ℕ). is_good g bytes k) same ∙ here)
    (cases_lt i n)

-- ---- what reading the next piece gives, by the geometry of the tree, which is equal to g

module _ {g h : Geometry} (same : h ≡ g) (number n : ℕ) {at size : ℕ} (buffer : List ℕ) (is_image : number < 2) (below : n < piece_count g)
    (place : at ≡ part_at (layout_of g) (image_part number) + piece_at g n) (sized : size ≡ piece_size h n) where
  its_size : size ≡ piece_size g n
  its_size = sized ∙ ap (λ (k : Geometry). piece_size k n) same

  pub room_left : (len : ℕ) → device_size (layout_of g) ≤ len → at + length (take size buffer) ≤ len
  room_left len long =
      let inside = piece_inside g n below in
      omega (arith, its_size, length-take size buffer, inside, image_sized (layout_of g) number is_image, part_inside (layout_of g) (image_part number))

  pub read_there : {now seen out : List ℕ} → size ≤ length buffer → seen ≡ now → out ≡ slice seen at (length (take size buffer)) → out ≡ piece_in g (part_bytes (layout_of g) (image_part number) now) n
  read_there {now} room are is =
      let long : length (take size buffer) ≡ piece_size g n = omega (arith, length-take size buffer, room, its_size) in
      piece_there g number n now is_image below place (is ∙ (λ i. slice (are i) at (long i)))

  pub next_place : (len : ℕ) → size ≤ length buffer → len ≡ length (take size buffer) → at + len ≡ part_at (layout_of g) (image_part number) + piece_at g (n + 1)
  next_place len room is =
      omega (arith, place, its_size, length-take size buffer, room, is, ap (λ (k : ℕ). piece_at g k) (add-one n))

module _ {g h : Geometry} (same : h ≡ g) (bytes : List ℕ) (n : ℕ) {version : ℕ} (ver : version ≡ version_in bytes) (below : n < piece_count g)
    {x : State} (so_far : x ≡ decoded_before (version_in bytes) g bytes n) {out : List ℕ} (there : out ≡ piece_in g bytes n) where
  pub good_queued : out ≡ piece_of version h (with_piece version h x n out) n → AreGood g bytes n → AreGood g bytes (n + 1)
  good_queued here good = good_next g bytes n good (is_good_here g bytes n ver below so_far there (rw (← same) here))

  pub decoded_turn : {y : State} → y ≡ with_piece version h x n out → y ≡ decoded_before (version_in bytes) g bytes (n + 1)
  decoded_turn is = is ∙ ap (λ (k : Geometry). with_piece version k x n out) same ∙ decoded_next g bytes n ver below so_far there

  pub bad_queued : (out ≡ piece_of version h (with_piece version h x n out) n → false ≡ true) → AreGood g bytes n → (e : OpenFault) → e ≡ BadPiece n
      → IsConsistentFault (fault_or_later BadPiece (first_bad_piece g bytes) None) e
  bad_queued bad good e is =
      rw is (ap (λ (o : Option ℕ). fault_or_later BadPiece o None)
      (bad_piece g bytes n below good
      (is_bad_here g bytes n ver below so_far there
      (λ here. false≢true (bad (subst (λ (k : Geometry). out ≡ piece_of version k (with_piece version k x n out) n) (sym same) here))))))

pub free_queued : (version : ℕ) {g h : Geometry} {n : ℕ} {x y : State} → h ≡ g → (out : List ℕ) → y ≡ with_piece version h x n out → AreFree g n x → AreFree g (n + 1) y
free_queued version {g} {n} {x} same out is before =
    subst (λ (z : State). AreFree g (n + 1) z) (sym (is ∙ ap (λ (k : Geometry). with_piece version k x n out) same)) (free_next version g n x out before)

-- ---- the whole image

module _ (g : Geometry) (number : ℕ) (now : List ℕ) (is_image : number < 2) (long : device_size (layout_of g) ≤ length now) (are : AreBytes now) where
  abbrev bytes : List ℕ
  bytes = part_bytes (layout_of g) (image_part number) now

  pub image_bytes : Holds (piece_at g (piece_count g)) bytes
  image_bytes =
      let at = part_at (layout_of g) (image_part number) in
      let size = part_size (layout_of g) (image_part number) in (
        length-take-le size (drop at now) (omega (arith, length-drop at now, long, part_inside (layout_of g) (image_part number))) ∙ image_sized (layout_of g) number is_image ∙ sym (whole_image g),
        bytes_by_recursion bytes (bytes-range at size now are),
      )

  pub all_read : {n : ℕ} {x : State} → has_head bytes ≡ true → n ≡ piece_count g → x ≡ decoded_before (version_in bytes) g bytes n → AreGood g bytes n → image_state g bytes ≡ Some x
  all_read head all decoded good =
      good_is_read g bytes image_bytes head (subst (λ (k : ℕ). AreGood g bytes k) all good)
      ∙ ap (λ (y : State). Some y) (sym (decoded ∙ ap (λ (k : ℕ). decoded_before (version_in bytes) g bytes k) all))

-- ---- a piece of either version

pub second_version : (v : ℕ) → is_version v ≡ true → (v ≡ 1 → ⊥) → v ≡ 2
second_version v known differs =
    ⊎_elim (λ (one : (v == 1) ≡ true). absurd (differs (eqb-true v 1 one))) (λ (two : (v == 2) ≡ true). eqb-true v 2 two) (or_cases (v == 1) (v == 2) known)

pub not_taken : {A E : Type 0} {taken r : Result A E} {v w : ℕ} → taken ≡ r → is_err taken ≡ true → v ≡ w → (P : ℕ → Type 0)
    → (is_ok r ≡ true → P w) × (P w → is_ok r ≡ true) → (false ≡ true → P v) × (P v → false ≡ true)
not_taken {A} {E} {taken} is err same P good = (λ f. absurd (false≢true f), λ p. absurd (by taken err (ap (λ (s : Result A E). is_ok s) is ∙ good.1 (subst P same p))))
  where
    by : (s : Result A E) → is_err s ≡ true → is_ok s ≡ true → ⊥
    by (Ok a) err ok = false≢true err
    by (Err e) err ok = false≢true ok

pub was_taken : {A E : Type 0} {taken r : Result A E} {v w : ℕ} → taken ≡ r → is_err taken ≡ false → v ≡ w → (P : ℕ → Type 0)
    → (is_ok r ≡ true → P w) × (P w → is_ok r ≡ true) → (true ≡ true → P v) × (P v → true ≡ true)
was_taken {A} {E} {taken} is fine same P good = (λ t. subst P (sym same) (good.0 (sym (ap (λ (s : Result A E). is_ok s) is) ∙ by taken fine)), λ p. refl)
  where
    by : (s : Result A E) → is_err s ≡ false → is_ok s ≡ true
    by (Ok a) fine = refl
    by (Err e) fine = absurd (false≢true (sym fine))
