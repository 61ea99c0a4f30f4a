-- The slot's neighbors are tied to one another, and the slot to itself.
use Rattle.std.proofs.lemmas.Grind.{common_steps}
use Rattle.std.proofs.Common.{◌≡◌, ℕ, ◌<◌, List, map, length, sym, subst, ◌∙◌, arith, slice_index, slice_set}
use Rattle.std.proofs.lemmas.List.{length-set}
use Rattle.arena.specs.Lists.{without}
use Rattle.arena.specs.Linked.{IsLinked, KeepLists, stored}
use Rattle.arena.proofs.Unlinked.{IsUnlinked, rings-unlinked, IsLinked-unlinked}
use Rattle.arena.proofs.Stored.{stored-same}

module _ (slots slot before after : ℕ) (next previous : List ℕ) (ok : KeepLists slots next previous) (within : slot < slots)
    (before_is : before ≡ slice_index previous slot) (after_is : after ≡ slice_index next slot) where
  abbrev pub next_row : List ℕ
  next_row = slice_set (slice_set next before after) slot slot

  abbrev pub previous_row : List ℕ
  previous_row = slice_set (slice_set previous after before) slot slot

  long_next : length next_row ≡ length next
  long_next = length-set (slice_set next before after) slot slot ∙ length-set next before after

  long_previous : length previous_row ≡ length previous
  long_previous = length-set (slice_set previous after before) slot slot ∙ length-set previous after before

  unlinked : IsUnlinked slot (λ x. slice_index next x) (λ x. slice_index previous x) (λ x. slice_index next_row x) (λ x. slice_index previous_row x)
  unlinked = grind (arith, common_steps)

  linked : IsLinked slots (length next) (λ x. slice_index next_row x) (λ x. slice_index previous_row x)
  linked = IsLinked-unlinked slots (length next) slot (λ x. slice_index next x) (λ x. slice_index previous x)
      (λ x. slice_index next_row x) (λ x. slice_index previous_row x) ok.linked within unlinked

  pub KeepLists-unlinked : KeepLists slots (slice_set (slice_set next before after) slot slot) (slice_set (slice_set previous after before) slot slot)
  KeepLists-unlinked = record {
    as_long = long_previous ∙ ok.as_long ∙ sym long_next;
    linked = let P : ℕ → Type 0 = λ n. IsLinked slots n (λ x. slice_index next_row x) (λ x. slice_index previous_row x) in subst P (sym long_next) linked;
  }

  pub lists-unlinked : (stored slots (slice_set (slice_set next before after) slot slot)).lists ≡ map (without slot) (stored slots next).lists
  lists-unlinked = stored-same slots next next_row (map (without slot) (stored slots next).lists) long_next
      (rings-unlinked slots (length next) slot (λ x. slice_index next x) (λ x. slice_index previous x)
      (λ x. slice_index next_row x) (λ x. slice_index previous_row x) ok.linked within unlinked)
