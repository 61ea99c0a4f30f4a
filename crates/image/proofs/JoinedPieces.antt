-- An image is as long as all its pieces, and bytes that have its head and each of its pieces are the image.
use Rattle.std.proofs.Common.{◌≡◌, ℕ, zero, suc, ◌+◌, ◌*◌, ◌%◌, ◌<◌, ◌≤◌, List, ◌++◌, length, take, ⊎_elim, sym, ◌∙◌, ap, arith, append_assoc, append-nil}
use Rattle.std.proofs.lemmas.Bool.{cases_lt}
use Rattle.std.proofs.lemmas.List.{take_all}
use Rattle.std.proofs.Math.Seq.{take-add}
use Rattle.std.proofs.lemmas.Nat.{mod-mul-add}
use Rattle.affinity.specs.declared.geometry.Geometry.{Geometry}
use Rattle.device_map.specs.Layout.{image_size}
use Rattle.device_map.specs.declared.layout.TheConstants.{BLOCK_ENTRY_SIZE}
use Rattle.meaning.specs.State.{State, sum_below}
use Rattle.image.specs.Pieces.{pieces_of_volume, piece_count, piece_part_size, piece_size, piece_at, piece_of, joined_below}
use Rattle.image.specs.Image.{image_head, image_of, piece_in}

-- ---- sums of a function that repeats after k numbers

module _ (k : ℕ) (h : ℕ → ℕ) where
  part_of_a_round : (m : ℕ) → sum_below (m * k) (λ n. h (n % k)) ≡ m * sum_below k h → (j : ℕ) → j ≤ k → sum_below (m * k + j) (λ n. h (n % k)) ≡ m * sum_below k h + sum_below j h
  part_of_a_round m whole zero few = grind arith
  part_of_a_round m whole (suc j) few =
      let next : m * k + suc j ≡ suc (m * k + j) = omega arith in
      let before = part_of_a_round m whole j (omega (arith, few)) in
      let last : h ((m * k + j) % k) ≡ h j = ap h (mod-mul-add m k j (omega (arith, few))) in
      let same : sum_below (m * k + suc j) (λ n. h (n % k)) ≡ sum_below (suc (m * k + j)) (λ n. h (n % k)) = ap (λ (n : ℕ). sum_below n (λ n. h (n % k))) next in
      omega (arith, before, last, same)

  pub rounds : (m : ℕ) → sum_below (m * k) (λ n. h (n % k)) ≡ m * sum_below k h
  rounds zero = grind arith
  rounds (suc m) = grind (arith, part_of_a_round m (rounds m) k (omega arith))

parts_sum : (g : Geometry) (s : ℕ) → sum_below (suc s) (piece_part_size g) ≡ 64 + s * (g.quota * BLOCK_ENTRY_SIZE)
parts_sum g zero = omega arith
parts_sum g (suc s) = let before = parts_sum g s in omega (arith, before)

pub length-pieces : (g : Geometry) → piece_at g (piece_count g) ≡ 64 + g.aggregates * g.volumes * (64 + g.stripes * (g.quota * BLOCK_ENTRY_SIZE))
length-pieces g = grind (arith, rounds (pieces_of_volume g) (piece_part_size g) (g.aggregates * g.volumes), parts_sum g g.stripes)

pub whole_image : (g : Geometry) → piece_at g (piece_count g) ≡ image_size g
unfolding image_size
whole_image g = length-pieces g

pub sum_grows : (f : ℕ → ℕ) (n m : ℕ) → n ≤ m → sum_below n f ≤ sum_below m f
sum_grows f n zero few = let same : n ≡ 0 = omega (arith, few) in omega (arith, ap (λ (k : ℕ). sum_below k f) same)
sum_grows f n (suc m) few =
    ⊎_elim
    (λ (less : n < suc m). omega (arith, sum_grows f n m (omega (arith, less))))
    (λ (beyond : suc m ≤ n).
    let same : n ≡ suc m = omega (arith, few, beyond) in
    omega (arith, ap (λ (k : ℕ). sum_below k f) same))
    (cases_lt n (suc m))

-- a piece lies inside its image
pub piece_inside : (g : Geometry) (n : ℕ) → n < piece_count g → piece_at g n + piece_size g n ≤ image_size g
piece_inside g n below = omega (arith, sum_grows (piece_size g) (suc n) (piece_count g) (omega (arith, below)), whole_image g)

-- ---- bytes, by their pieces

module _ (version : ℕ) (g : Geometry) (x : State) (bytes : List ℕ) (head : take 64 bytes ≡ image_head version) where
  first_pieces : (n : ℕ) → ((i : ℕ) → i < n → piece_in g bytes i ≡ piece_of version g x i) → take (piece_at g n) bytes ≡ image_head version ++ joined_below n (piece_of version g x)
  first_pieces zero each = head ∙ sym (append-nil (image_head version))
  first_pieces (suc n) each =
      let place : piece_at g (suc n) ≡ piece_at g n + piece_size g n = omega arith in
      ap (λ (k : ℕ). take k bytes) place ∙ take-add (piece_at g n) (piece_size g n) bytes
      ∙ (λ i. first_pieces n (λ i few. each i (omega (arith, few))) i ++ each n (omega arith) i)
      ∙ append_assoc (image_head version) (joined_below n (piece_of version g x)) (piece_of version g x n)

  pub by_pieces : length bytes ≡ piece_at g (piece_count g) → ((i : ℕ) → i < piece_count g → piece_in g bytes i ≡ piece_of version g x i) → bytes ≡ image_of version g x
  by_pieces long each = sym (take_all (piece_at g (piece_count g)) bytes (omega (arith, long))) ∙ first_pieces (piece_count g) each
