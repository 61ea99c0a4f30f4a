-- The slot is put last on a list.
use Rattle.std.proofs.Common.{◌≡◌, ◌≢◌, ℕ, ◌+◌, ◌<◌, List, [], ◌∷◌, ◌++◌, length, sym, ap, subst, ◌∙◌, arith, slice_index, slice_set}
use Rattle.arena.specs.Linked.{list_at, KeepLists, stored}
use Rattle.arena.proofs.Alone.{alone-from_times}
use Rattle.arena.proofs.Inserted.{IsInserted, rings-appended, IsLinked-appended}
use Rattle.arena.proofs.Stored.{MayAdd, stored-same, end-below, list-below}
use Rattle.arena.proofs.StoredInserting.{long_next, inserted, KeepLists-by}

module _ (slots slot list before : ℕ) (next previous : List ℕ) (ok : KeepLists slots next previous) (may : MayAdd (stored slots next) slot list)
    (before_is : before ≡ slice_index previous (slots + list)) where
  end_below : slots + list < length next
  end_below = end-below slots next previous list ok may.list_is_there

  alone : slice_index next slot ≡ slot
  alone = alone-from_times slots (length next) (λ x. slice_index next x) (λ x. slice_index previous x) ok.linked slot may.slot_is_there may.alone

  before_below : before < length next
  before_below = rw before_is (ok.linked.previous_below (slots + list) end_below)

  to_end : slots + list ≡ slice_index next before
  to_end = sym (ok.linked.next_undoes (slots + list) end_below) ∙ ap (λ x. slice_index next x) (sym before_is)

  before_apart : before ≢ slot
  before_apart same = absurd (let loop : slots + list ≡ slot = to_end ∙ ap (λ x. slice_index next x) same ∙ alone in omega arith)

  abbrev pub next_row : List ℕ
  next_row = slice_set (slice_set next before slot) slot (slots + list)

  abbrev pub previous_row : List ℕ
  previous_row = slice_set (slice_set previous slot before) (slots + list) slot

  at_last : IsInserted slot (slice_index previous (slots + list)) (λ x. slice_index next x) (λ x. slice_index previous x) (λ x. slice_index next_row x) (λ x. slice_index previous_row x)
  at_last =
      let P : ℕ → Type 0 = λ b. IsInserted slot b (λ x. slice_index next x) (λ x. slice_index previous x) (λ x. slice_index next_row x) (λ x. slice_index previous_row x) in
      subst P before_is (inserted slots slot before (slots + list) next previous ok may.slot_is_there may.alone before_below before_apart to_end)

  pub KeepLists-appended : KeepLists slots next_row previous_row
  KeepLists-appended = KeepLists-by slots slot before (slots + list) next previous ok may.slot_is_there may.alone before_below before_apart to_end
      (IsLinked-appended slots (length next) slot list (λ x. slice_index next x) (λ x. slice_index previous x)
      (λ x. slice_index next_row x) (λ x. slice_index previous_row x) ok.linked may.slot_is_there alone (list-below slots next list may.list_is_there) at_last)

  pub lists-appended : (stored slots next_row).lists ≡ slice_set (stored slots next).lists list (list_at (stored slots next) list ++ slot ∷ [])
  lists-appended = stored-same slots next next_row (slice_set (stored slots next).lists list (list_at (stored slots next) list ++ slot ∷ []))
      (long_next slots slot before (slots + list) next previous ok may.slot_is_there may.alone before_below before_apart to_end)
      (rings-appended slots (length next) slot list (λ x. slice_index next x) (λ x. slice_index previous x)
      (λ x. slice_index next_row x) (λ x. slice_index previous_row x) ok.linked may.slot_is_there alone (list-below slots next list may.list_is_there) at_last)
