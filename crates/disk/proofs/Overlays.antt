-- What a list holds after some of its places were written over.
use Rattle.std.proofs.Common.{◌≡◌, ℕ, zero, suc, ◌+◌, ◌<◌, ◌≤◌, Bool, true, List, [], ◌∷◌, ◌++◌, length, take, drop, get_or, replicate, refl, sym, ◌∙◌, ap, arith}
use Rattle.std.proofs.lemmas.List.{drop-drop, length-replicate}
use borrow.Rule.Slice.PartMut.{put_mid}
use Rattle.disk.specs.Device.{overlaid, marked, SameOutside}

module _ {X : Type 0} where
  pub length-overlaid : (xs : List X) (at : ℕ) (items : List X) → length (overlaid xs at items) ≡ length xs
  length-overlaid [] at items = refl
  length-overlaid (x ∷ xs) zero [] = refl
  length-overlaid (x ∷ xs) zero (y ∷ items) = ap (λ (n : ℕ). suc n) (length-overlaid xs zero items)
  length-overlaid (x ∷ xs) (suc at) items = ap (λ (n : ℕ). suc n) (length-overlaid xs at items)

  -- what lies before the places that are written over
  pub take-overlaid : (xs : List X) (at : ℕ) (items : List X) → take at (overlaid xs at items) ≡ take at xs
  take-overlaid [] at items = refl
  take-overlaid (x ∷ xs) zero items = refl
  take-overlaid (x ∷ xs) (suc at) items = ap (λ (l : List X). x ∷ l) (take-overlaid xs at items)

  back : (xs : List X) (at : ℕ) (items : List X) → drop (length items) (drop at (overlaid xs at items)) ≡ drop (length items) (drop at xs)
  back [] at items = refl
  back (x ∷ xs) zero [] = refl
  back (x ∷ xs) zero (y ∷ items) = back xs zero items
  back (x ∷ xs) (suc at) items = back xs at items

  -- what lies behind these places
  pub drop-overlaid : (xs : List X) (at : ℕ) (items : List X) → drop (at + length items) (overlaid xs at items) ≡ drop (at + length items) xs
  drop-overlaid xs at items = sym (drop-drop (length items) at (overlaid xs at items)) ∙ back xs at items ∙ drop-drop (length items) at xs

  front : (xs items : List X) → length items ≤ length xs → overlaid xs zero items ≡ items ++ drop (length items) xs
  front [] [] inside = refl
  front [] (y ∷ items) inside = absurd (omega (arith, inside))
  front (x ∷ xs) [] inside = refl
  front (x ∷ xs) (y ∷ items) inside = ap (λ (l : List X). y ∷ l) (front xs items (omega (arith, inside)))

  -- the list as what lies before these places, the items, and what lies behind
  pub overlaid_parts : (xs : List X) (at : ℕ) (items : List X) → at + length items ≤ length xs → overlaid xs at items ≡ take at xs ++ (items ++ drop (length items) (drop at xs))
  overlaid_parts xs zero items inside = front xs items (omega (arith, inside))
  overlaid_parts [] (suc at) items inside = absurd (omega (arith, inside))
  overlaid_parts (x ∷ xs) (suc at) items inside = ap (λ (l : List X). x ∷ l) (overlaid_parts xs at items (omega (arith, inside)))

  -- the whole slice, once these items were written through a borrow of a part of it (`put_mid`)
  pub overlaid_part : (xs : List X) (at k : ℕ) (items part : List X) → at + length items ≤ length xs → k ≡ length items → part ≡ items → put_mid at k xs part ≡ overlaid xs at items
  overlaid_part xs at k items part inside size is = rw (size, is) (sym (overlaid_parts xs at items inside))

  -- what these places hold
  pub range-overlaid : (xs : List X) (at : ℕ) (items : List X) → at + length items ≤ length xs → take (length items) (drop at (overlaid xs at items)) ≡ items
  range-overlaid xs zero [] inside = refl
  range-overlaid [] zero (y ∷ items) inside = absurd (omega (arith, inside))
  range-overlaid (x ∷ xs) zero (y ∷ items) inside = ap (λ (l : List X). y ∷ l) (range-overlaid xs zero items (omega (arith, inside)))
  range-overlaid [] (suc at) items inside = absurd (omega (arith, inside))
  range-overlaid (x ∷ xs) (suc at) items inside = range-overlaid xs at items (omega (arith, inside))

  -- what the first of them holds
  pub item-overlaid : (xs : List X) (at : ℕ) (y d : X) (items : List X) → at < length xs → get_or (overlaid xs at (y ∷ items)) at d ≡ y
  item-overlaid [] at y d items inside = absurd (omega (arith, inside))
  item-overlaid (x ∷ xs) zero y d items inside = refl
  item-overlaid (x ∷ xs) (suc at) y d items inside = item-overlaid xs at y d items (omega (arith, inside))

-- the same of the flags that mark offsets as unsynced
module _ (unsynced : List Bool) (at n : ℕ) where
  pub length-marked : length (marked unsynced at n) ≡ length unsynced
  length-marked = length-overlaid unsynced at (replicate n true)

  pub take-marked : take at (marked unsynced at n) ≡ take at unsynced
  take-marked = take-overlaid unsynced at (replicate n true)

  pub drop-marked : drop (at + n) (marked unsynced at n) ≡ drop (at + n) unsynced
  drop-marked = rw (length-replicate n true) at (drop-overlaid unsynced at (replicate n true))

-- A write differs within its range alone.
pub overlaid_outside : {X : Type 0} (xs : List X) (at : ℕ) (items : List X) → SameOutside at (length items) xs (overlaid xs at items)
overlaid_outside xs at items = record {
  before = take-overlaid xs at items;
  after = drop-overlaid xs at items;
  size = length-overlaid xs at items;
}

pub marked_outside : (unsynced : List Bool) (at n : ℕ) → SameOutside at n unsynced (marked unsynced at n)
marked_outside unsynced at n = record {
  before = take-marked unsynced at n;
  after = drop-marked unsynced at n;
  size = length-marked unsynced at n;
}
