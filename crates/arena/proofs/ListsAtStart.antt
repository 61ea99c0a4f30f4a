-- The lists as they are at the start: all slots in order on the first list.
use Rattle.std.proofs.lemmas.Grind.{common_steps}
use Rattle.std.proofs.Common.{◌≡◌, ℕ, zero, suc, ◌+◌, ◌-◌, ◌<◌, ◌≤◌, List, [], ◌∷◌, ◌++◌, length, slice_index, replicate, refl, sym, ap, subst, ◌∙◌, inl, inr, arith}
use Rattle.std.proofs.lemmas.Bool.{le-ltb, eq-eqb, ne_eqb, cases_eq}
use Rattle.std.proofs.lemmas.Bool.Decides.{nat_tests}
use Rattle.std.specs.List.{concat}
use Rattle.arena.specs.Lists.{numbers_from}
use Rattle.arena.specs.Linked.{IsWay, ring, rings, IsLinked, next_at_start, previous_at_start}
use Rattle.arena.proofs.Counts.{count_of-append, length-numbers, count_of-numbers, count_of-numbers_in, count_of-empties}
use Rattle.arena.proofs.Ways.{AreSlots, walk-way, table}

numbers-inside : (first count slots : ℕ) → first + count ≤ slots → AreSlots slots (numbers_from first count)
numbers-inside first zero slots fit = tt
numbers-inside first (suc count) slots fit = (omega arith, numbers-inside (suc first) count slots (omega arith))

-- a row whose elements a function gives, and one more
pub given-more : (f : ℕ → ℕ) (row : List ℕ) (x : ℕ) {at : ℕ} → length row ≡ at → x ≡ f at → ((a : ℕ) → a < at → slice_index row a ≡ f a)
    → (a : ℕ) → a < at + 1 → slice_index (row ++ x ∷ []) a ≡ f a
given-more f row x long is given a below = grind (arith, common_steps, given a)

next-first_end : (slots : ℕ) → next_at_start slots slots ≡ 0
next-first_end slots = rw (le-ltb slots slots (omega arith), eq-eqb slots slots refl) refl

next-end : (slots node : ℕ) → slots < node → next_at_start slots node ≡ node
next-end slots node high = rw (le-ltb node slots (omega arith), ne_eqb node slots (λ same. omega arith)) refl

module _ (slots nodes : ℕ) (next previous : ℕ → ℕ) (fit : slots < nodes)
    (next_is : (a : ℕ) → a < nodes → next a ≡ next_at_start slots a)
    (previous_is : (a : ℕ) → a < nodes → previous a ≡ previous_at_start slots a) where
  way-numbers : (a first count : ℕ) → next a ≡ first → first + count ≡ slots → IsWay next a (numbers_from first count) slots
  way-numbers a first zero onward total = onward ∙ omega arith
  way-numbers a first (suc count) onward total = grind (arith, common_steps, way-numbers first (suc first) count)

  first_way : IsWay next slots (numbers_from 0 slots) slots
  first_way = way-numbers slots 0 slots (next_is slots fit ∙ next-first_end slots) (omega arith)

  ring-first : ring next slots slots ≡ numbers_from 0 slots
  ring-first = walk-way next slots slots slots (numbers_from 0 slots) slots first_way (numbers-inside 0 slots slots (omega arith)) (omega arith)
      (omega (arith, length-numbers 0 slots))

  other_way : (end : ℕ) → slots < end → end < nodes → IsWay next end [] end
  other_way end outside below = next_is end below ∙ next-end slots end outside

  ring-other : (end : ℕ) → slots < end → end < nodes → ring next slots end ≡ []
  ring-other end outside below = walk-way next slots slots end [] end (other_way end outside below) tt (omega arith) (omega arith)

  table-empty : (from count : ℕ) → slots < from → from + count ≤ nodes → table (ring next slots) from count ≡ replicate count []
  table-empty from zero outside below = refl
  table-empty from (suc count) outside below =
      let here = ring-other from outside (omega arith) in
      let later = table-empty (suc from) count (omega arith) (omega arith) in
      cc

  pub rings-start : (others : ℕ) → nodes ≡ slots + suc others → rings next slots nodes ≡ numbers_from 0 slots ∷ replicate others []
  rings-start others total =
      let count : nodes - slots ≡ suc others = omega arith in
      let later = table-empty (suc slots) others (omega arith) (omega arith) in
      rw (count, ring-first, later) refl

  next_below : (a : ℕ) → a < nodes → next a < nodes
  next_below a below = rw (next_is a below) (grind (arith, nat_tests))

  previous_below : (a : ℕ) → a < nodes → previous a < nodes
  previous_below a below = rw (previous_is a below) (grind (arith, nat_tests))

  start_next_undoes : (a : ℕ) → next_at_start slots (previous_at_start slots a) ≡ a
  start_next_undoes a = grind (arith, nat_tests)

  start_previous_undoes : (a : ℕ) → previous_at_start slots (next_at_start slots a) ≡ a
  start_previous_undoes a = grind (arith, nat_tests)

  next_undoes : (a : ℕ) → a < nodes → next (previous a) ≡ a
  next_undoes a below = next_is (previous a) (previous_below a below) ∙ ap (next_at_start slots) (previous_is a below) ∙ start_next_undoes a

  previous_undoes : (a : ℕ) → a < nodes → previous (next a) ≡ a
  previous_undoes a below = previous_is (next a) (next_below a below) ∙ ap (previous_at_start slots) (next_is a below) ∙ start_previous_undoes a

  closed : (end : ℕ) → slots ≤ end → end < nodes → IsWay next end (ring next slots end) end
  closed end outside below = elim (cases_eq slots end) [
    | inl e ↦ (let P : ℕ → Type 0 = λ x. IsWay next x (ring next slots x) x in
        let Q : List ℕ → Type 0 = λ xs. IsWay next slots xs slots in
        subst P e (subst Q (sym ring-first) first_way))
    | inr n ↦ (let Q : List ℕ → Type 0 = λ xs. IsWay next end xs end in
        let high : slots < end = omega arith in
        subst Q (sym (ring-other end high below)) (other_way end high below))
  ]

  pub IsLinked-start : (others : ℕ) → nodes ≡ slots + suc others → IsLinked slots nodes next previous
  IsLinked-start others total =
      let all = λ (i : ℕ). count_of-append i (numbers_from 0 slots) (concat (replicate others [])) in
      record {
        slots_fit = omega arith;
        next_below = next_below;
        previous_below = previous_below;
        next_undoes = next_undoes;
        previous_undoes = previous_undoes;
        closed = closed;
        once = λ i. rw (rings-start others total) (omega (arith, all i, count_of-empties i others, count_of-numbers i 0 slots));
        placed = λ a low moves. rw (rings-start others total)
            (omega (arith, all a, count_of-numbers_in a 0 slots (omega arith) (omega arith)));
      }
