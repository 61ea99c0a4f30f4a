-- An image is cut again into the pieces that it was joined of.
use Rattle.std.proofs.Common.{◌≡◌, ℕ, zero, suc, ◌+◌, ◌<◌, ◌≤◌, List, [], ◌++◌, length, take, drop, refl, sym, ◌∙◌, ap, subst, arith, ⊎_elim}
use Rattle.std.proofs.lemmas.Bool.{cases_lt}
use Rattle.std.proofs.lemmas.List.{take_at, drop_at, drop-drop, append_assoc, append-nil}
use Rattle.affinity.specs.declared.geometry.Geometry.{Geometry}
use Rattle.meaning.specs.State.{State, sum_below}
use Rattle.image.specs.Pieces.{pieces_of_volume, piece_count, volume_piece_number, stripe_piece_number, piece_size, piece_of, part_piece, volume_piece, stripe_piece, joined_below}
use Rattle.image.specs.Image.{image_head, image_of, piece_in}
use Rattle.image.proofs.PieceNumbers.{part_there, aggregate_there, volume_there}
use Rattle.image.proofs.Measures.{IsMeasured, length-piece, length-joined}

-- ---- lists that were joined

module _ {X : Type 0} (f : ℕ → List X) (size : ℕ → ℕ) (sized : (i : ℕ) → length (f i) ≡ size i) where
  joined_cut : (count n : ℕ) (rest : List X) → n < count → take (size n) (drop (sum_below n size) (joined_below count f ++ rest)) ≡ f n
  joined_cut zero n rest below = absurd (omega (arith, below))
  joined_cut (suc count) n rest below =
      let apart : joined_below (suc count) f ++ rest ≡ joined_below count f ++ (f count ++ rest) = append_assoc (joined_below count f) (f count) rest in
      ap (λ (l : List X). take (size n) (drop (sum_below n size) l)) apart
      ∙ ⊎_elim
      (λ (less : n < count). joined_cut count n (f count ++ rest) less)
      (λ (no_less : count ≤ n).
      let last : n ≡ count = omega (arith, below, no_less) in
      subst (λ (k : ℕ). take (size k) (drop (sum_below k size) (joined_below count f ++ (f count ++ rest))) ≡ f k) (sym last)
      (ap (λ (l : List X). take (size count) l) (drop_at (joined_below count f) (f count ++ rest) (sum_below count size)
      (length-joined count f size (λ i few. sized i))) ∙ take_at (f count) rest (size count) (sized count)))
      (cases_lt n count)

-- ---- the pieces of an image

pub piece_again : (version : ℕ) (g : Geometry) (x : State) → IsMeasured g x → (n : ℕ) → n < piece_count g → piece_in g (image_of version g x) n ≡ piece_of version g x n
piece_again version g x is n below =
    let all : List ℕ = joined_below (piece_count g) (piece_of version g x) in
    let behind : drop (64 + sum_below n (piece_size g)) (image_head version ++ all) ≡ drop (sum_below n (piece_size g)) all =
    sym (drop-drop (sum_below n (piece_size g)) 64 (image_head version ++ all)) ∙ ap (λ (l : List ℕ). drop (sum_below n (piece_size g)) l) (drop_at (image_head version) all 64 refl) in
    ap (λ (l : List ℕ). take (piece_size g n) l) behind ∙ ap (λ (l : List ℕ). take (piece_size g n) (drop (sum_below n (piece_size g)) l)) (sym (append-nil all))
    ∙ joined_cut (piece_of version g x) (piece_size g) (length-piece version g x is) (piece_count g) n [] below

-- ---- the numbers of pieces

module _ (g : Geometry) (a v : ℕ) (in_aggregates : a < g.aggregates) (in_volumes : v < g.volumes) where
  pub is_piece : (p : ℕ) → p < pieces_of_volume g → volume_piece_number g a v + p < piece_count g
  is_piece p part = grind arith

  pub piece_there : (version : ℕ) (x : State) (p : ℕ) → p < pieces_of_volume g → piece_of version g x (volume_piece_number g a v + p) ≡ part_piece version g x a v p
  piece_there version x p part = λ i. part_piece version g x (aggregate_there g a v p part in_volumes i) (volume_there g a v p part in_volumes i) (part_there g a v p part i)

  pub volume_again : (version : ℕ) (x : State) → IsMeasured g x → piece_in g (image_of version g x) (volume_piece_number g a v) ≡ volume_piece version g x a v
  volume_again version x is =
      grind (arith, piece_again version g x is (volume_piece_number g a v + 0) (is_piece 0 (omega arith)), piece_there version x 0 (omega arith))

  pub stripe_again : (version : ℕ) (x : State) → IsMeasured g x → (s : ℕ) → s < g.stripes → piece_in g (image_of version g x) (stripe_piece_number g a v s) ≡ stripe_piece g x a v s
  stripe_again version x is s below =
      piece_again version g x is (stripe_piece_number g a v s) (is_piece (suc s) (omega (arith, below))) ∙ piece_there version x (suc s) (omega (arith, below))
