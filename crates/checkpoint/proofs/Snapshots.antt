-- How an image is put together, piece by piece, and the snapshot that it becomes.
use Rattle.std.proofs.Common.{◌≡◌, ℕ, zero, suc, ◌+◌, ◌<◌, ◌≤◌, Bool, true, false, List, ◌++◌, length, take, drop, get_or, refl, sym, ◌∙◌, ap, subst, arith, length-append, length-drop, Option, Some, unwrap_or, true≢false}
use Rattle.std.proofs.lemmas.List.{append_assoc, append-nil, drop-drop, drop-take, drop_at, length-take-le, take_all, take_at}
use Rattle.std.proofs.Math.Seq.{take-add}
use Rattle.affinity.specs.declared.geometry.Geometry.{Geometry}
use Rattle.image.specs.Image.{image_head, image_of, image_state}
use Rattle.image.specs.Pieces.{joined_below, piece_at, piece_count, piece_of, piece_size}
use Rattle.image.proofs.JoinedPieces.{piece_inside, whole_image}
use Rattle.image.proofs.PieceIn.{piece_again}
use Rattle.image.proofs.Measures.{state_is_measured}
use Rattle.image.proofs.ReadImage.{read_again}
use Rattle.image.specs.declared.layout.TheConstants.{VERSION}
use Rattle.checkpoint.specs.Extents.{AreCleanExtentsOf, extent_in, extent_of, IsUpToDate, AgreeOnClean, AreAllDirty}
use Rattle.device_map.specs.Layout.{image_size, slice}
use Rattle.meaning.specs.State.{State, sum_below, IsState}

-- where the next piece begins
pub piece_after : (g : Geometry) (n : ℕ) → piece_at g (n + 1) ≡ piece_at g n + piece_size g n
piece_after g n = let next : n + 1 ≡ suc n = omega arith in ap (piece_at g) next ∙ omega arith

-- the first pieces of a state, behind the head
abbrev pub first_pieces : Geometry → State → ℕ → List ℕ
first_pieces g x n = image_head VERSION ++ joined_below n (piece_of VERSION g x)

pub piece_put : (at k : ℕ) (bytes part : List ℕ) → at ≤ length bytes → length part ≡ k → take (at + k) (take at bytes ++ (part ++ drop k (drop at bytes))) ≡ take at bytes ++ part
piece_put at k bytes part inside size =
    ap (take (at + k)) (sym (append_assoc (take at bytes) part (drop k (drop at bytes))))
    ∙ take_at (take at bytes ++ part) (drop k (drop at bytes)) (at + k) (length-append (take at bytes) part ∙ (λ i. length-take-le at bytes inside i + size i))

pub one_more : (g : Geometry) (x : State) (n : ℕ) (bytes part : List ℕ) → bytes ≡ first_pieces g x n → part ≡ piece_of VERSION g x n → bytes ++ part ≡ first_pieces g x (n + 1)
one_more g x n bytes part is is' =
    let next : n + 1 ≡ suc n = omega arith in
    (λ i. is i ++ is' i) ∙ append_assoc (image_head VERSION) (joined_below n (piece_of VERSION g x)) (piece_of VERSION g x n) ∙ ap (first_pieces g x) (sym next)

pub none_behind : (g : Geometry) (x : State) (bytes : List ℕ) → take 64 bytes ≡ image_head VERSION → take 64 bytes ≡ first_pieces g x 0
none_behind g x bytes head = head ∙ sym (append-nil (image_head VERSION))

pub all_put : (g : Geometry) (x : State) → {n at : ℕ} {bytes : List ℕ} → n ≡ piece_count g → at ≡ piece_at g n → length bytes ≡ image_size g
    → take at bytes ≡ first_pieces g x n → bytes ≡ image_of VERSION g x
all_put g x {at} {bytes} all place size so_far =
    sym (take_all at bytes (omega (arith, place ∙ ap (piece_at g) all ∙ whole_image g, size))) ∙ so_far ∙ ap (first_pieces g x) all

pub put_long : (at k : ℕ) (bytes part : List ℕ) → at + k ≤ length bytes → length part ≡ k → length (take at bytes ++ (part ++ drop k (drop at bytes))) ≡ length bytes
put_long at k bytes part inside size =
    omega (arith, length-append {A = ℕ}, length-drop {A = ℕ}, length-take-le at bytes (omega arith))

-- ---- a piece that is there already

-- behind the bytes that were put in, all is as it was
pub rest_put : (at k : ℕ) (bytes part : List ℕ) → at ≤ length bytes → length part ≡ k → drop (at + k) (take at bytes ++ (part ++ drop k (drop at bytes))) ≡ drop (at + k) bytes
rest_put at k bytes part inside size =
    ap (drop (at + k)) (sym (append_assoc (take at bytes) part (drop k (drop at bytes))))
    ∙ drop_at (take at bytes ++ part) (drop k (drop at bytes)) (at + k) (length-append (take at bytes) part ∙ (λ i. length-take-le at bytes inside i + size i))
    ∙ drop-drop k at bytes

-- what is as it was from one place on is so from a later one on
pub rest_more : (at k : ℕ) (now old : List ℕ) → drop at now ≡ drop at old → drop (at + k) now ≡ drop (at + k) old
rest_more at k now old same = sym (drop-drop k at now) ∙ ap (drop k) same ∙ drop-drop k at old

-- what a clean extent shows of its piece
pub piece_there : (g : Geometry) (x : State) (n : ℕ) (bytes : List ℕ) → extent_in g bytes n ≡ extent_of g x n → slice bytes (piece_at g n) (piece_size g n) ≡ piece_of VERSION g x n
piece_there g x zero bytes is = sym (drop-take 64 (piece_size g 0) bytes) ∙ ap (drop 64) is ∙ drop_at (image_head VERSION) (piece_of VERSION g x 0) 64 refl
piece_there g x (suc n) bytes is = is

-- Once the head is written, each clean extent is still that of the state.
pub headed : (g : Geometry) (x : State) (dirty : List Bool) (old new : List ℕ) → take 64 new ≡ image_head VERSION → drop 64 new ≡ drop 64 old → AreCleanExtentsOf g x dirty old
    → AreCleanExtentsOf g x dirty new
headed g x dirty old new head rest right zero few clean =
    take-add 64 (piece_size g 0) new ∙ (λ i. head i ++ take (piece_size g 0) (rest i)) ∙ ap (λ (l : List ℕ). image_head VERSION ++ l) (piece_there g x 0 old (right 0 few clean))
headed g x dirty old new head rest right (suc n) few clean =
    ap (take (piece_size g (suc n))) (rest_more 64 (sum_below (suc n) (piece_size g)) new old rest) ∙ right (suc n) few clean

-- ---- one piece after the other

-- The first n pieces are done, and the rest is as it was at first. If the clean pieces were those of the state then, the first n are now.
pub record IsSnapshotTo (g : Geometry) (x : State) (dirty : List Bool) (first : List ℕ) (n at : ℕ) (bytes : List ℕ) : Type 0 where
  pub place : at ≡ piece_at g n
  pub size : length bytes ≡ length first
  pub rest : drop at bytes ≡ drop at first
  pub so_far : AreCleanExtentsOf g x dirty first → take at bytes ≡ first_pieces g x n

module _ (g : Geometry) (x : State) (dirty : List Bool) (first : List ℕ) (n at k : ℕ) (bytes : List ℕ) (long : length first ≡ image_size g) (few : n < piece_count g) (size : k ≡ piece_size g n)
    (so_far : IsSnapshotTo g x dirty first n at bytes) where
  inside : at + k ≤ length bytes
  inside = let in_image = piece_inside g n few in omega (arith, in_image, long, size, so_far.place, so_far.size)

  -- a dirty piece is encoded
  pub put_one : (k' : ℕ) (part : List ℕ) → k' ≡ k → length part ≡ k → part ≡ piece_of VERSION g x n → IsSnapshotTo g x dirty first (n + 1) (at + k) (take at bytes ++ (part ++ drop k' (drop at bytes)))
  put_one k' part same size' is =
      subst (λ (j : ℕ). IsSnapshotTo g x dirty first (n + 1) (at + k) (take at bytes ++ (part ++ drop j (drop at bytes)))) (sym same)
      (record {
        place = (λ i. so_far.place i + size i) ∙ sym (piece_after g n);
        size = put_long at k bytes part inside size' ∙ so_far.size;
        rest = rest_put at k bytes part (omega (arith, inside)) size' ∙ rest_more at k bytes first so_far.rest;
        so_far = λ right. piece_put at k bytes part (omega (arith, inside)) size' ∙ one_more g x n (take at bytes) part (so_far.so_far right) is;
      })

  -- a clean one is there already
  pub pass_one : get_or dirty n true ≡ false → IsSnapshotTo g x dirty first (n + 1) (at + k) bytes
  pass_one clean = record {
    place = (λ i. so_far.place i + size i) ∙ sym (piece_after g n);
    size = so_far.size;
    rest = rest_more at k bytes first so_far.rest;
    so_far = λ right.
        let piece : take k (drop at bytes) ≡ piece_of VERSION g x n = ap (take k) so_far.rest ∙ (λ i. take (size i) (drop (so_far.place i) first)) ∙ piece_there g x n first (right n few clean) in
        take-add at k bytes ∙ one_more g x n (take at bytes) (take k (drop at bytes)) (so_far.so_far right) piece;
  }

pub snapshot_is : (g : Geometry) (y : State) → IsState g y → (n : ℕ) → n < piece_count g → extent_in g (image_of VERSION g y) n ≡ extent_of g y n
snapshot_is g y is zero few =
    take-add 64 (piece_size g 0) (image_of VERSION g y)
    ∙ (λ i. take_at (image_head VERSION) (joined_below (piece_count g) (piece_of VERSION g y)) 64 refl i ++ piece_again VERSION g y (state_is_measured g y is) 0 few i)
snapshot_is g y is (suc n) few = piece_again VERSION g y (state_is_measured g y is) (suc n) few

module _ (g : Geometry) (x : Option State) (y : State) (snapshot : List ℕ) (is : x ≡ Some y) (is_state : IsState g y) (spelled : snapshot ≡ image_of VERSION g y) where
  pub snapshot_reads : image_state g snapshot ≡ x
  snapshot_reads = ap (image_state g) spelled ∙ read_again g y is_state ∙ sym is

  pub snapshot_up_to_date : (dirty : List Bool) → IsUpToDate g x dirty snapshot
  snapshot_up_to_date dirty z is' n few clean =
      let same : y ≡ z = ap (λ (o : Option State). unwrap_or o y) (sym is ∙ is') in
      ap (λ (l : List ℕ). extent_in g l n) spelled ∙ snapshot_is g y is_state n few ∙ ap (λ (s : State). extent_of g s n) same

  pub snapshot_agrees : (dirty : List Bool) (bytes : List ℕ) → IsUpToDate g x dirty bytes → AgreeOnClean g dirty bytes snapshot
  snapshot_agrees dirty bytes fresh n few clean = fresh y is n few clean ∙ sym (snapshot_is g y is_state n few) ∙ sym (ap (λ (l : List ℕ). extent_in g l n) spelled)

-- where all pieces are dirty, no piece has to be that of the state: the snapshot is made anew, and is the whole image
pub whole_again : {g h : Geometry} {row dirty : List Bool} {new items : List ℕ} → (x : State) (old : List ℕ) → g ≡ h → AreAllDirty h row → dirty ≡ row
    → (AreCleanExtentsOf g x dirty old → new ≡ image_of VERSION g x) → items ≡ new → items ≡ image_of VERSION h x
whole_again x old same all is image put =
    put ∙ image (rw (same, is) (λ n few clean. absurd (true≢false (sym (all n few) ∙ clean)))) ∙ ap (λ (z : Geometry). image_of VERSION z x) same
