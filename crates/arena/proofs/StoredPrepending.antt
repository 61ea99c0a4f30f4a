-- The slot is put first on a list.
use Rattle.std.proofs.Common.{◌≡◌, ◌≢◌, ℕ, ◌+◌, ◌<◌, List, ◌∷◌, length, arith, slice_index, slice_set}
use Rattle.arena.specs.Linked.{list_at, KeepLists, stored}
use Rattle.arena.proofs.Alone.{alone-from_times}
use Rattle.arena.proofs.Inserted.{IsInserted, rings-prepended, IsLinked-prepended}
use Rattle.arena.proofs.Stored.{MayAdd, stored-same, end-below, list-below}
use Rattle.arena.proofs.StoredInserting.{long_next, inserted, KeepLists-by}

module _ (slots slot list after : ℕ) (next previous : List ℕ) (ok : KeepLists slots next previous) (may : MayAdd (stored slots next) slot list)
    (after_is : after ≡ slice_index next (slots + list)) where
  end_below : slots + list < length next
  end_below = end-below slots next previous list ok may.list_is_there

  alone : slice_index next slot ≡ slot
  alone = alone-from_times slots (length next) (λ x. slice_index next x) (λ x. slice_index previous x) ok.linked slot may.slot_is_there may.alone

  end_apart : slots + list ≢ slot
  end_apart same = absurd (omega arith)

  abbrev pub next_row : List ℕ
  next_row = slice_set (slice_set next (slots + list) slot) slot after

  abbrev pub previous_row : List ℕ
  previous_row = slice_set (slice_set previous slot (slots + list)) after slot

  at_first : IsInserted slot (slots + list) (λ x. slice_index next x) (λ x. slice_index previous x) (λ x. slice_index next_row x) (λ x. slice_index previous_row x)
  at_first = inserted slots slot (slots + list) after next previous ok may.slot_is_there may.alone end_below end_apart after_is

  pub KeepLists-prepended : KeepLists slots next_row previous_row
  KeepLists-prepended = KeepLists-by slots slot (slots + list) after next previous ok may.slot_is_there may.alone end_below end_apart after_is
      (IsLinked-prepended slots (length next) slot list (λ x. slice_index next x) (λ x. slice_index previous x)
      (λ x. slice_index next_row x) (λ x. slice_index previous_row x) ok.linked may.slot_is_there alone (list-below slots next list may.list_is_there) at_first)

  pub lists-prepended : (stored slots next_row).lists ≡ slice_set (stored slots next).lists list (slot ∷ list_at (stored slots next) list)
  lists-prepended = stored-same slots next next_row (slice_set (stored slots next).lists list (slot ∷ list_at (stored slots next) list))
      (long_next slots slot (slots + list) after next previous ok may.slot_is_there may.alone end_below end_apart after_is)
      (rings-prepended slots (length next) slot list (λ x. slice_index next x) (λ x. slice_index previous x)
      (λ x. slice_index next_row x) (λ x. slice_index previous_row x) ok.linked may.slot_is_there alone (list-below slots next list may.list_is_there) at_first)
