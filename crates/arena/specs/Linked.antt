-- Statement for engineers: How two arrays of numbers (each node's next and previous node) keep lists of slots.
use Rattle.std.specs.Prelude.{◌≡◌, ◌≢◌, ℕ, zero, suc, ◌+◌, ◌-◌, ◌<◌, ◌≤◌, List, [], ◌∷◌, map, length, nat_lt, nat_le, ◌==◌, if◌then◌else◌, slice_index, slice_index_or}
use Rattle.std.specs.List.{concat}
use Rattle.arena.specs.Lists.{count_of, numbers_from}

-- what contracts see of `Links`: the number of slots, and the lists of slots
pub record Linked : Type 0 where
  pub slots : ℕ
  pub lists : List (List ℕ)

-- list number k
abbrev pub list_at : Linked → ℕ → List ℕ
list_at m k = slice_index_or m.lists k []

-- the slots met from a node on by following `next`, up to a node that is no slot, and no more than `steps` of them
abbrev pub walk : (ℕ → ℕ) → ℕ → ℕ → ℕ → List ℕ
walk next slots zero node = []
walk next slots (suc steps) node = if nat_lt node slots then node ∷ walk next slots steps (next node) else []

-- the list of this sentinel (a node that is no slot): the slots from the node after it on, up to a sentinel
abbrev pub ring : (ℕ → ℕ) → ℕ → ℕ → List ℕ
ring next slots end = walk next slots slots (next end)

-- all lists: one for each sentinel
abbrev pub rings : (ℕ → ℕ) → ℕ → ℕ → List (List ℕ)
rings next slots nodes = map (ring next slots) (numbers_from slots (nodes - slots))

-- from node a, `next` leads over these nodes, in their order, to node z
abbrev pub IsWay : (ℕ → ℕ) → ℕ → List ℕ → ℕ → Type 0
IsWay next a [] z = next a ≡ z
IsWay next a (x ∷ xs) z = (next a ≡ x) × IsWay next x xs z

-- the node after a node in new `Links`: the first list has all slots in order, and the others are empty
abbrev pub next_at_start : ℕ → ℕ → ℕ
next_at_start slots node = if nat_lt node slots then node + 1 else (if node == slots then 0 else node)

-- the node before a node in new `Links`
abbrev pub previous_at_start : ℕ → ℕ → ℕ
previous_at_start slots node = if node == 0 then slots else (if nat_le node slots then node - 1 else node)

-- Each number on the lists is a slot, and is on them once.
pub record IsWellLinked (m : Linked) : Type 0 where
  pub once : (i : ℕ) → count_of i (concat m.lists) ≤ 1
  pub within : (i : ℕ) → 0 < count_of i (concat m.lists) → i < m.slots

-- The nodes below `slots` are slots, and each of the others is the sentinel (`end`) of a list.
pub record IsLinked (slots nodes : ℕ) (next previous : ℕ → ℕ) : Type 0 where
  pub slots_fit : slots ≤ nodes
  pub next_below : (a : ℕ) → a < nodes → next a < nodes
  pub previous_below : (a : ℕ) → a < nodes → previous a < nodes
  pub next_undoes : (a : ℕ) → a < nodes → next (previous a) ≡ a
  pub previous_undoes : (a : ℕ) → a < nodes → previous (next a) ≡ a
  -- each list goes round to its own sentinel
  pub closed : (end : ℕ) → slots ≤ end → end < nodes → IsWay next end (ring next slots end) end
  pub once : (i : ℕ) → count_of i (concat (rings next slots nodes)) ≤ 1
  -- a slot that is on no list is its own neighbor
  pub placed : (a : ℕ) → a < slots → next a ≢ a → 0 < count_of a (concat (rings next slots nodes))

-- the lists that an array of next nodes keeps
abbrev pub stored : ℕ → List ℕ → Linked
stored slots next = record { slots = slots; lists = rings (λ x. slice_index next x) slots (length next) }

-- Arrays of next and previous nodes that keep lists.
pub record KeepLists (slots : ℕ) (next previous : List ℕ) : Type 0 where
  pub as_long : length previous ≡ length next
  pub linked : IsLinked slots (length next) (λ x. slice_index next x) (λ x. slice_index previous x)
