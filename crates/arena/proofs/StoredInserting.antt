-- The slot is put between a node and the node behind that one.
use Rattle.std.proofs.Common.{◌≡◌, ◌≢◌, ℕ, ◌<◌, List, length, sym, ap, subst, ◌∙◌, arith, slice_index, slice_set}
use Rattle.std.proofs.lemmas.List.{length-set, get_or-set_same, get_or-set_other}
use Rattle.std.specs.List.{concat}
use Rattle.arena.specs.Lists.{count_of}
use Rattle.arena.specs.Linked.{IsLinked, KeepLists, stored}
use Rattle.arena.proofs.Alone.{alone-from_times, alone_back}
use Rattle.arena.proofs.Inserted.{IsInserted}

module _ (slots slot before after : ℕ) (next previous : List ℕ) (ok : KeepLists slots next previous) (within : slot < slots)
    (nowhere : count_of slot (concat (stored slots next).lists) ≡ 0) (before_below : before < length next) (before_apart : before ≢ slot)
    (after_is : after ≡ slice_index next before) where
  abbrev pub next_row : List ℕ
  next_row = slice_set (slice_set next before slot) slot after

  abbrev pub previous_row : List ℕ
  previous_row = slice_set (slice_set previous slot before) after slot

  slot_below : slot < length next
  slot_below = omega (arith, ok.linked.slots_fit)

  alone : slice_index next slot ≡ slot
  alone = alone-from_times slots (length next) (λ x. slice_index next x) (λ x. slice_index previous x) ok.linked slot within nowhere

  after_below : after < length next
  after_below = rw after_is (ok.linked.next_below before before_below)

  after_apart : after ≢ slot
  after_apart same = before_apart (sym (ok.linked.previous_undoes before before_below) ∙ ap (λ x. slice_index previous x) (sym after_is ∙ same)
      ∙ alone_back slots (length next) slot (λ x. slice_index next x) (λ x. slice_index previous x) ok.linked within alone)

  pub long_next : length next_row ≡ length next
  long_next = length-set (slice_set next before slot) slot after ∙ length-set next before slot

  pub long_previous : length previous_row ≡ length previous
  long_previous = length-set (slice_set previous slot before) after slot ∙ length-set previous slot before

  pub inserted : IsInserted slot before (λ x. slice_index next x) (λ x. slice_index previous x) (λ x. slice_index next_row x) (λ x. slice_index previous_row x)
  inserted = record {
    to_slot = get_or-set_other (slice_set next before slot) slot before after 0 before_apart ∙ get_or-set_same next before slot 0 before_below;
    from_slot = get_or-set_same (slice_set next before slot) slot after 0 (omega (arith, length-set next before slot, slot_below)) ∙ after_is;
    back_to_slot = ap (λ x. slice_index previous_row x) (sym after_is)
        ∙ get_or-set_same (slice_set previous slot before) after slot 0 (omega (arith, length-set previous slot before, after_below, ok.as_long));
    back_from_slot = get_or-set_other (slice_set previous slot before) after slot slot 0 (λ same. after_apart (sym same))
        ∙ get_or-set_same previous slot before 0 (omega (arith, slot_below, ok.as_long));
    rest_next = λ a other away.
        get_or-set_other (slice_set next before slot) slot a after 0 other ∙ get_or-set_other next before a slot 0 away;
    rest_previous = λ a other away.
        get_or-set_other (slice_set previous slot before) after a slot 0 (λ same. away (same ∙ after_is))
        ∙ get_or-set_other previous slot a before 0 other;
  }

  pub KeepLists-by : IsLinked slots (length next) (λ x. slice_index next_row x) (λ x. slice_index previous_row x) → KeepLists slots next_row previous_row
  KeepLists-by linked = record {
    as_long = long_previous ∙ ok.as_long ∙ sym long_next;
    linked = let P : ℕ → Type 0 = λ n. IsLinked slots n (λ x. slice_index next_row x) (λ x. slice_index previous_row x) in subst P (sym long_next) linked;
  }
