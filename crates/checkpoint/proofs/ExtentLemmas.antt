-- Where the extents of an image lie, and what agrees if they do.
use Rattle.std.proofs.Common.{◌≡◌, ℕ, zero, suc, ◌+◌, ◌*◌, ◌<◌, ◌≤◌, ⊎_elim, refl, sym, ◌∙◌, ap, subst, arith, List, ◌++◌, length, take}
use Rattle.std.proofs.lemmas.Bool.{cases_lt}
use Rattle.std.proofs.lemmas.List.{take_all}
use Rattle.std.proofs.Math.Seq.{take-add}
use Rattle.affinity.specs.declared.geometry.Geometry.{Geometry}
use Rattle.image.specs.Pieces.{part_of, pieces_of_volume, piece_at, piece_count, piece_part_size}
use Rattle.image.proofs.JoinedPieces.{whole_image}
use Rattle.checkpoint.specs.Extents.{extent_at, extent_size, extent_in}
use Rattle.device_map.specs.Layout.{image_size}

-- an extent ends where the next one begins
pub extent_next : (g : Geometry) (n : ℕ) → extent_at g (suc n) ≡ extent_at g n + extent_size g n
extent_next g zero = omega arith
extent_next g (suc n) = omega arith

-- each part of a volume has a piece of at least one byte
part_some : (g : Geometry) (p : ℕ) → 0 < piece_part_size g p
part_some g zero = omega arith
part_some g (suc s) = let some : 1 ≤ g.quota = g.quota_range.0 in omega (arith, some)

-- An extent has at least one byte.
pub extent_some : (g : Geometry) (n : ℕ) → 0 < extent_size g n
extent_some g zero = omega arith
extent_some g (suc n) = part_some g (part_of g (suc n))

-- an extent ends where the next one begins, whose number is given by a sum
pub extent_after : (g : Geometry) (n : ℕ) → extent_at g (n + 1) ≡ extent_at g n + extent_size g n
extent_after g n = let next : n + 1 ≡ suc n = omega arith in ap (extent_at g) next ∙ extent_next g n

pub extent_rises : (g : Geometry) (m n : ℕ) → m ≤ n → extent_at g m ≤ extent_at g n
extent_rises g zero zero less = omega arith
extent_rises g (suc m) zero less = absurd (omega (arith, less))
extent_rises g m (suc n) less =
    ⊎_elim
    (λ (before : m < suc n). let rises = extent_rises g m n (omega (arith, before)) in let next = extent_next g n in omega (arith, rises, next))
    (λ (last : suc n ≤ m). let same : m ≡ suc n = omega (arith, less, last) in subst (λ (k : ℕ). extent_at g k ≤ extent_at g (suc n)) (sym same) (omega arith))
    (cases_lt m (suc n))

-- there is a piece
pub some_piece : (g : Geometry) → 0 < piece_count g
some_piece g = some g.aggregates g.volumes g.aggregates_range.0 g.volumes_range.0
  where
    some : (a v : ℕ) → 1 ≤ a → 1 ≤ v → 0 < a * v * pieces_of_volume g
    some zero v first second = absurd (omega (arith, first))
    some (suc a) zero first second = absurd (omega (arith, second))
    some (suc a) (suc v) first second = omega arith

pub extent_end : (g : Geometry) → extent_at g (piece_count g) ≡ image_size g
extent_end g = is_place (piece_count g) (some_piece g) ∙ whole_image g
  where
    is_place : (n : ℕ) → 0 < n → extent_at g n ≡ piece_at g n
    is_place zero some = absurd (omega (arith, some))
    is_place (suc n) some = refl

pub extent_inside : (g : Geometry) (n : ℕ) → n < piece_count g → extent_at g n + extent_size g n ≤ image_size g
extent_inside g n few = let rises = extent_rises g (suc n) (piece_count g) (omega (arith, few)) in let next = extent_next g n in let end = extent_end g in omega (arith, rises, next, end)

-- Lists of bytes that agree in every extent are equal.
module _ (g : Geometry) (xs ys : List ℕ) (agree : (n : ℕ) → n < piece_count g → extent_in g xs n ≡ extent_in g ys n) where
  first_agree : (n : ℕ) → n ≤ piece_count g → take (extent_at g n) xs ≡ take (extent_at g n) ys
  first_agree zero few = refl
  first_agree (suc n) few =
      ap (λ (k : ℕ). take k xs) (extent_next g n) ∙ take-add (extent_at g n) (extent_size g n) xs
      ∙ (λ i. first_agree n (omega (arith, few)) i ++ agree n (omega (arith, few)) i)
      ∙ sym (take-add (extent_at g n) (extent_size g n) ys) ∙ sym (ap (λ (k : ℕ). take k ys) (extent_next g n))

  pub all_agree : length xs ≡ image_size g → length ys ≡ image_size g → xs ≡ ys
  all_agree long long' =
      let end = extent_end g in
      sym (take_all (extent_at g (piece_count g)) xs (omega (arith, long, end))) ∙ first_agree (piece_count g) (omega arith)
      ∙ take_all (extent_at g (piece_count g)) ys (omega (arith, long', end))
