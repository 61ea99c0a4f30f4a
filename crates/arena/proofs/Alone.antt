-- A slot that is its own neighbor is on no list.
use Rattle.std.proofs.lemmas.Grind.{common_steps}
use Rattle.std.proofs.Common.{◌≡◌, ◌≢◌, ℕ, zero, suc, ◌+◌, ◌-◌, ◌<◌, ◌≤◌, List, [], ◌∷◌, refl, sym, ap, ◌∙◌, arith}
use Rattle.std.specs.List.{concat, AllByRecursion}
use Rattle.arena.specs.Lists.{count_of}
use Rattle.arena.specs.Linked.{IsWay, ring, rings, IsLinked}
use Rattle.arena.proofs.Counts.{count_of-append, count_of-nowhere}
use Rattle.arena.proofs.Ways.{AreSlots, walk-inside, slots-below, table}

-- a number that is in none of the lists of a table
pub count_of-table : (i : ℕ) (at : ℕ → List ℕ) (from count : ℕ) → ((e : ℕ) → from ≤ e → e < from + count → count_of i (at e) ≡ 0) → count_of i (concat (table at from count)) ≡ 0
count_of-table i at from zero none = refl
count_of-table i at from (suc count) none = grind (arith, common_steps, count_of-table i at (suc from) count, count_of-append)

module _ (slots nodes slot : ℕ) (next previous : ℕ → ℕ) (linked : IsLinked slots nodes next previous)
    (within : slot < slots) (alone : next slot ≡ slot) where
  is_node : slot < nodes
  is_node = omega (arith, linked.slots_fit)

  pub alone_back : previous slot ≡ slot
  alone_back = ap previous (sym alone) ∙ linked.previous_undoes slot is_node

  -- no way from another node leads over the slot
  pub way-passes : (a : ℕ) (xs : List ℕ) (z : ℕ) → a < nodes → AreSlots nodes xs → a ≢ slot → IsWay next a xs z → AllByRecursion (λ x. x ≢ slot) xs
  way-passes a [] z below inside apart way = tt
  way-passes a (x ∷ xs) z below inside apart way = grind (arith, common_steps, way-passes x xs z inside.0 inside.1)

  pub ring-passes : (end : ℕ) → slots ≤ end → end < nodes → AllByRecursion (λ x. x ≢ slot) (ring next slots end)
  ring-passes end outside below =
      way-passes end (ring next slots end) end below
      (slots-below slots nodes (ring next slots end) linked.slots_fit (walk-inside next slots slots (next end)))
      (λ same. omega arith) (linked.closed end outside below)

  pub count_of-alone : count_of slot (concat (rings next slots nodes)) ≡ 0
  count_of-alone = count_of-table slot (ring next slots) slots (nodes - slots)
      (λ e low high. count_of-nowhere slot (ring next slots e) (ring-passes e low (omega (arith, linked.slots_fit))))

-- a slot that is on no list is its own neighbor
pub alone-from_times : (slots nodes : ℕ) (next previous : ℕ → ℕ) → IsLinked slots nodes next previous → (a : ℕ) → a < slots → count_of a (concat (rings next slots nodes)) ≡ 0 → next a ≡ a
alone-from_times slots nodes next previous linked a within none = grind (arith, common_steps)
