-- The slot that comes after a slot, or first in a list.
use Rattle.std.proofs.lemmas.Grind.{common_steps}
use Rattle.std.proofs.Common.{◌≡◌, ◌≢◌, ℕ, zero, suc, ◌+◌, ◌-◌, ◌<◌, ◌≤◌, List, [], ◌∷◌, refl, arith, Option, Some, None, nat_lt, if◌then◌else◌}
use Rattle.std.proofs.lemmas.Bool.{lt-ltb, le-ltb}
use Rattle.std.specs.List.{concat}
use Rattle.arena.specs.Lists.{count_of, first_of, behind, behind_in}
use Rattle.arena.specs.Linked.{IsWay, ring, rings, IsLinked}
use Rattle.arena.proofs.Counts.{count_of-append}
use Rattle.arena.proofs.Ways.{AreSlots, walk-inside, table}
use Rattle.arena.proofs.Alone.{count_of-alone}

-- a node, where it is a slot
abbrev pub slot_or_none : ℕ → ℕ → Option ℕ
slot_or_none slots node = if nat_lt node slots then Some node else None

pub slot_or_none-slot : (slots node : ℕ) → node < slots → slot_or_none slots node ≡ Some node
slot_or_none-slot slots node low = rw (lt-ltb node slots low) refl

pub slot_or_none-end : (slots node : ℕ) → slots ≤ node → slot_or_none slots node ≡ None
slot_or_none-end slots node high = rw (le-ltb node slots high) refl

pub behind_in-nowhere : (i : ℕ) (lists : List (List ℕ)) → count_of i (concat lists) ≡ 0 → behind_in i lists ≡ None
behind_in-nowhere i [] none = refl
behind_in-nowhere i (xs ∷ lists) none = grind (arith, common_steps, behind_in-nowhere i lists, count_of-append, le-ltb)

module _ (next : ℕ → ℕ) (slots : ℕ) where
  pub behind-way : (a i : ℕ) (xs : List ℕ) (z : ℕ) → IsWay next a xs z → AreSlots slots xs → slots ≤ z → 0 < count_of i xs → behind i xs ≡ slot_or_none slots (next i)
  behind-way a i [] z way inside outside some = absurd (omega arith)
  behind-way a i (x ∷ xs) z way inside outside some = grind (arith, common_steps, behind-way x i xs z way.1 inside.1 outside)

  behind_in-table : (i : ℕ) (at : ℕ → List ℕ) (from count : ℕ) → ((e : ℕ) → from ≤ e → e < from + count → 0 < count_of i (at e) → behind i (at e) ≡ slot_or_none slots (next i))
      → 0 < count_of i (concat (table at from count)) → behind_in i (table at from count) ≡ slot_or_none slots (next i)
  behind_in-table i at from zero each some = absurd (omega arith)
  behind_in-table i at from (suc count) each some = grind (arith, common_steps, behind_in-table i at (suc from) count, count_of-append)

module _ (slots nodes : ℕ) (next previous : ℕ → ℕ) (linked : IsLinked slots nodes next previous) where
  pub behind_in-linked : (slot : ℕ) → slot < slots → next slot ≢ slot → behind_in slot (rings next slots nodes) ≡ slot_or_none slots (next slot)
  behind_in-linked slot within moves = behind_in-table next slots slot (ring next slots) slots (nodes - slots)
      (λ e low high some. behind-way next slots e slot (ring next slots e) e (linked.closed e low (omega (arith, linked.slots_fit)))
      (walk-inside next slots slots (next e)) low some)
      (linked.placed slot within moves)

  pub behind_in-alone : (slot : ℕ) → slot < slots → next slot ≡ slot → behind_in slot (rings next slots nodes) ≡ None
  behind_in-alone slot within alone = behind_in-nowhere slot (rings next slots nodes) (count_of-alone slots nodes slot next previous linked within alone)

  pub first_of-ring : (end : ℕ) → slots ≤ end → end < nodes → first_of (ring next slots end) ≡ slot_or_none slots (next end)
  first_of-ring end outside below = grind (arith, common_steps)
