-- A slot that is on no list is put behind a node.
use Rattle.std.proofs.lemmas.Grind.{common_steps}
use Rattle.std.proofs.Common.{◌≡◌, ◌≢◌, ℕ, suc, ◌+◌, ◌-◌, ◌<◌, ◌≤◌, List, [], ◌∷◌, ◌++◌, length, refl, sym, ap, subst, ◌∙◌, inl, inr, arith, slice_set, slice_index_or}
use Rattle.std.proofs.lemmas.Bool.{cases_eq}
use Rattle.std.specs.List.{concat, AllByRecursion}
use Rattle.arena.specs.Lists.{count_of}
use Rattle.arena.specs.Linked.{IsWay, ring, rings, IsLinked}
use Rattle.arena.proofs.Counts.{count_of-last, count_of-cons_same, count_of-cons_other, count_of-set, count_of-at, length-once}
use Rattle.arena.proofs.Ways.{AreSlots, walk-way, walk-inside, length-walk, slots-append, way-kept, table-set, table-at, length-table}
use Rattle.arena.proofs.Alone.{alone_back, ring-passes, count_of-alone}

-- The slot was tied to a node and to the node behind that one.
pub record IsInserted (slot before : ℕ) (next previous next' previous' : ℕ → ℕ) : Type 0 where
  pub to_slot : next' before ≡ slot
  pub from_slot : next' slot ≡ next before
  pub back_to_slot : previous' (next before) ≡ slot
  pub back_from_slot : previous' slot ≡ before
  pub rest_next : (a : ℕ) → a ≢ slot → a ≢ before → next' a ≡ next a
  pub rest_previous : (a : ℕ) → a ≢ slot → a ≢ next before → previous' a ≡ previous a

-- `next` stays along a way that leads over neither the slot nor the node before it
rest-kept : (slot before : ℕ) (next next' : ℕ → ℕ) → ((a : ℕ) → a ≢ slot → a ≢ before → next' a ≡ next a) → (xs : List ℕ)
    → AllByRecursion (λ x. x ≢ slot) xs → AllByRecursion (λ x. x ≢ before) xs → AllByRecursion (λ x. next' x ≡ next x) xs
rest-kept slot before next next' rest [] passes avoids = tt
rest-kept slot before next next' rest (x ∷ xs) passes avoids = grind (arith, common_steps, rest-kept slot before next next' rest xs passes.1 avoids.1)

module _ (slots nodes slot before : ℕ) (next previous next' previous' : ℕ → ℕ) (linked : IsLinked slots nodes next previous)
    (within : slot < slots) (alone : next slot ≡ slot) (before_below : before < nodes) (before_apart : before ≢ slot)
    (inserted : IsInserted slot before next previous next' previous') where
  next_below : (a : ℕ) → a < nodes → next' a < nodes
  next_below a below = grind (arith, common_steps)

  previous_below : (a : ℕ) → a < nodes → previous' a < nodes
  previous_below a below = grind (arith, common_steps)

  next_undoes : (a : ℕ) → a < nodes → next' (previous' a) ≡ a
  next_undoes a below = grind (arith, common_steps)

  previous_undoes : (a : ℕ) → a < nodes → previous' (next' a) ≡ a
  previous_undoes a below = grind (arith, common_steps, alone_back slots nodes slot next previous linked within alone)

  -- the list becomes `made`, where no other list leads over the node before the slot
  module _ (list : ℕ) (made : List ℕ) (list_below : list < nodes - slots)
      (way : IsWay next' (slots + list) made (slots + list)) (inside : AreSlots slots made)
      (more : (i : ℕ) → count_of i made ≡ count_of i (slot ∷ ring next slots (slots + list)))
      (before_moves : before < slots → next before ≢ before)
      (avoids : (end : ℕ) → slots ≤ end → end < nodes → end ≢ slots + list
      → (end ≢ before) × AllByRecursion (λ x. x ≢ before) (ring next slots end)) where
    nowhere : count_of slot (concat (rings next slots nodes)) ≡ 0
    nowhere = count_of-alone slots nodes slot next previous linked within alone

    ring_at : slice_index_or (rings next slots nodes) list [] ≡ ring next slots (slots + list)
    ring_at = table-at (ring next slots) slots (nodes - slots) list list_below

    made_once : (i : ℕ) → count_of i made ≤ 1
    made_once i =
        let in_all : count_of i (ring next slots (slots + list)) ≤ count_of i (concat (rings next slots nodes)) =
        rw (← ring_at) (count_of-at i (rings next slots nodes) list) in
        elim (cases_eq slot i) [
          | inl e ↦ (let count : count_of i made ≡ suc (count_of i (ring next slots (slots + list))) = more i ∙ rw e (count_of-cons_same i (ring next slots (slots + list))) in
              let none : count_of i (concat (rings next slots nodes)) ≡ 0 = rw (← e) nowhere in omega arith)
          | inr n ↦ (let count = more i ∙ count_of-cons_other i slot (ring next slots (slots + list)) n in omega (arith, linked.once i))
        ]

    ring-made : ring next' slots (slots + list) ≡ made
    ring-made = walk-way next' slots slots (slots + list) made (slots + list) way inside (omega arith) (length-once slots made made_once inside)

    other_way : (end : ℕ) → slots ≤ end → end < nodes → end ≢ slots + list → IsWay next' end (ring next slots end) end
    other_way end outside below other =
        let away = avoids end outside below other in
        way-kept next next' (ring next slots end) end (inserted.rest_next end (λ same. omega arith) away.0)
        (rest-kept slot before next next' inserted.rest_next (ring next slots end)
        (ring-passes slots nodes slot next previous linked within alone end outside below) away.1)
        (linked.closed end outside below)

    ring-other : (end : ℕ) → slots ≤ end → end < nodes → end ≢ slots + list → ring next' slots end ≡ ring next slots end
    ring-other end outside below other =
        walk-way next' slots slots end (ring next slots end) end (other_way end outside below other)
        (walk-inside next slots slots (next end)) outside (length-walk next slots slots (next end))

    pub rings-inserted : rings next' slots nodes ≡ slice_set (rings next slots nodes) list made
    rings-inserted =
        table-set (ring next slots) (ring next' slots) slots (nodes - slots) list list_below
        (λ e low high other. ring-other e low (omega (arith, linked.slots_fit)) other)
        ∙ ap (λ (xs : List ℕ). slice_set (rings next slots nodes) list xs) ring-made

    closed : (end : ℕ) → slots ≤ end → end < nodes → IsWay next' end (ring next' slots end) end
    closed end outside below = elim (cases_eq end (slots + list)) [
      | inl e ↦ (let P : ℕ → Type 0 = λ x. IsWay next' x (ring next' slots x) x in
          let Q : List ℕ → Type 0 = λ xs. IsWay next' (slots + list) xs (slots + list) in
          subst P (sym e) (subst Q (sym ring-made) way))
      | inr n ↦ (let Q : List ℕ → Type 0 = λ xs. IsWay next' end xs end in
          subst Q (sym (ring-other end outside below n)) (other_way end outside below n))
    ]

    -- the slot is in the lists one time more, and each other slot as often as before
    count : (i : ℕ) → count_of i (concat (rings next' slots nodes)) ≡ count_of i (slot ∷ concat (rings next slots nodes))
    count i =
        let long : list < length (rings next slots nodes) = omega (arith, length-table (ring next slots) slots (nodes - slots)) in
        let changed = count_of-set i (rings next slots nodes) list made long in
        let here : count_of i (slice_index_or (rings next slots nodes) list []) ≡ count_of i (ring next slots (slots + list)) = ap (λ (xs : List ℕ). count_of i xs) ring_at in
        let now : count_of i (concat (rings next' slots nodes)) ≡ count_of i (concat (slice_set (rings next slots nodes) list made)) =
        ap (λ (xs : List (List ℕ)). count_of i (concat xs)) rings-inserted in
        elim (cases_eq slot i) [
          | inl e ↦ grind (arith, common_steps)
          | inr n ↦ grind (arith, common_steps)
        ]

    once : (i : ℕ) → count_of i (concat (rings next' slots nodes)) ≤ 1
    once i = elim (cases_eq slot i) [
      | inl e ↦ (let two : count_of i (slot ∷ concat (rings next slots nodes)) ≡ suc (count_of i (concat (rings next slots nodes))) = rw e (count_of-cons_same i (concat (rings next slots nodes))) in
          let none : count_of i (concat (rings next slots nodes)) ≡ 0 = rw (← e) nowhere in omega (arith, count i))
      | inr n ↦ (let two = count_of-cons_other i slot (concat (rings next slots nodes)) n in omega (arith, count i, linked.once i))
    ]

    placed : (a : ℕ) → a < slots → next' a ≢ a → 0 < count_of a (concat (rings next' slots nodes))
    placed a low moves = elim (cases_eq slot a) [
      | inl e ↦ (let two : count_of a (slot ∷ concat (rings next slots nodes)) ≡ suc (count_of a (concat (rings next slots nodes))) = rw e (count_of-cons_same a (concat (rings next slots nodes))) in
          omega (arith, count a))
      | inr n ↦ (let two = count_of-cons_other a slot (concat (rings next slots nodes)) n in
          elim (cases_eq (next a) a) [
            | inl loop ↦ grind (arith, common_steps)
            | inr onward ↦ omega (arith, count a, linked.placed a low onward)
          ])
    ]

    pub IsLinked-inserted : IsLinked slots nodes next' previous'
    IsLinked-inserted = assumption (linked, next_below, previous_below, next_undoes, previous_undoes, closed, once, placed)

-- The two places at which a slot is put: last, behind the node before the end, and first, behind the end.
module _ (slots nodes slot list : ℕ) (next previous next' previous' : ℕ → ℕ) (linked : IsLinked slots nodes next previous)
    (within : slot < slots) (alone : next slot ≡ slot) (list_below : list < nodes - slots) where
  end_below : slots + list < nodes
  end_below = omega (arith, linked.slots_fit)

  -- no way over slots to the end of another list leads over the node before the end of this one
  way-avoids : (a : ℕ) (xs : List ℕ) (z : ℕ) → AreSlots slots xs → z ≢ slots + list → IsWay next a xs z → (a ≢ previous (slots + list)) × AllByRecursion (λ x. x ≢ previous (slots + list)) xs
  way-avoids a [] z inside other way = grind (arith, common_steps)
  way-avoids a (x ∷ xs) z inside other way = grind (arith, common_steps, way-avoids x xs z inside.1 other way.1)

  avoids_last : (end : ℕ) → slots ≤ end → end < nodes → end ≢ slots + list → (end ≢ previous (slots + list)) × AllByRecursion (λ x. x ≢ previous (slots + list)) (ring next slots end)
  avoids_last end outside below other =
      way-avoids end (ring next slots end) end (walk-inside next slots slots (next end)) other (linked.closed end outside below)

  apart-from_slots : (node : ℕ) → slots ≤ node → (xs : List ℕ) → AreSlots slots xs → AllByRecursion (λ x. x ≢ node) xs
  apart-from_slots node outside [] inside = tt
  apart-from_slots node outside (x ∷ xs) inside = grind (arith, common_steps, apart-from_slots node outside xs inside.1)

  avoids_first : (end : ℕ) → slots ≤ end → end < nodes → end ≢ slots + list → (end ≢ slots + list) × AllByRecursion (λ x. x ≢ slots + list) (ring next slots end)
  avoids_first end outside below other =
      (other, apart-from_slots (slots + list) (omega arith) (ring next slots end) (walk-inside next slots slots (next end)))

  last_apart : previous (slots + list) ≢ slot
  last_apart same = grind (arith, common_steps)

  more_last : (i : ℕ) → count_of i (ring next slots (slots + list) ++ slot ∷ []) ≡ count_of i (slot ∷ ring next slots (slots + list))
  more_last i = count_of-last i slot (ring next slots (slots + list))

  module _ (inserted : IsInserted slot (previous (slots + list)) next previous next' previous') where
    to_end : next (previous (slots + list)) ≡ slots + list
    to_end = linked.next_undoes (slots + list) end_below

    way-last : (a : ℕ) (xs : List ℕ) → a < nodes → AreSlots slots xs → a ≢ slot → AllByRecursion (λ x. x ≢ slot) xs → IsWay next a xs (slots + list) → IsWay next' a (xs ++ slot ∷ []) (slots + list)
    way-last a [] below inside other others way = grind (arith, common_steps)
    way-last a (x ∷ xs) below inside other others way = grind (arith, common_steps, way-last x xs)

    last_way : IsWay next' (slots + list) (ring next slots (slots + list) ++ slot ∷ []) (slots + list)
    last_way = way-last (slots + list) (ring next slots (slots + list)) end_below (walk-inside next slots slots (next (slots + list)))
        (λ same. omega arith) (ring-passes slots nodes slot next previous linked within alone (slots + list) (omega arith) end_below)
        (linked.closed (slots + list) (omega arith) end_below)

    last_inside : AreSlots slots (ring next slots (slots + list) ++ slot ∷ [])
    last_inside = slots-append slots slot (ring next slots (slots + list)) (walk-inside next slots slots (next (slots + list))) within

    last_moves : previous (slots + list) < slots → next (previous (slots + list)) ≢ previous (slots + list)
    last_moves low same = absurd (let at_end = sym to_end ∙ same in omega arith)

    pub rings-appended : rings next' slots nodes ≡ slice_set (rings next slots nodes) list (slice_index_or (rings next slots nodes) list [] ++ slot ∷ [])
    rings-appended = rw (table-at (ring next slots) slots (nodes - slots) list list_below)
        (rings-inserted slots nodes slot (previous (slots + list)) next previous next' previous' linked within alone
        (linked.previous_below (slots + list) end_below) last_apart inserted list (ring next slots (slots + list) ++ slot ∷ [])
        list_below last_way last_inside more_last last_moves avoids_last)

    pub IsLinked-appended : IsLinked slots nodes next' previous'
    IsLinked-appended = IsLinked-inserted slots nodes slot (previous (slots + list)) next previous next' previous' linked within alone
        (linked.previous_below (slots + list) end_below) last_apart inserted list (ring next slots (slots + list) ++ slot ∷ [])
        list_below last_way last_inside more_last last_moves avoids_last

  module _ (inserted : IsInserted slot (slots + list) next previous next' previous') where
    first_way : IsWay next' (slots + list) (slot ∷ ring next slots (slots + list)) (slots + list)
    first_way = (
      inserted.to_slot,
      way-kept next next' (ring next slots (slots + list)) (slots + list) inserted.from_slot
          (rest-kept slot (slots + list) next next' inserted.rest_next (ring next slots (slots + list))
          (ring-passes slots nodes slot next previous linked within alone (slots + list) (omega arith) end_below)
          (apart-from_slots (slots + list) (omega arith) (ring next slots (slots + list)) (walk-inside next slots slots (next (slots + list)))))
          (linked.closed (slots + list) (omega arith) end_below),
    )

    first_apart : slots + list ≢ slot
    first_apart same = absurd (omega arith)

    first_moves : slots + list < slots → next (slots + list) ≢ slots + list
    first_moves low = absurd (omega arith)

    pub rings-prepended : rings next' slots nodes ≡ slice_set (rings next slots nodes) list (slot ∷ slice_index_or (rings next slots nodes) list [])
    rings-prepended = rw (table-at (ring next slots) slots (nodes - slots) list list_below)
        (rings-inserted slots nodes slot (slots + list) next previous next' previous' linked within alone
        end_below first_apart inserted list (slot ∷ ring next slots (slots + list))
        list_below first_way (within, walk-inside next slots slots (next (slots + list))) (λ _. refl) first_moves avoids_first)

    pub IsLinked-prepended : IsLinked slots nodes next' previous'
    IsLinked-prepended = IsLinked-inserted slots nodes slot (slots + list) next previous next' previous' linked within alone
        end_below first_apart inserted list (slot ∷ ring next slots (slots + list))
        list_below first_way (within, walk-inside next slots slots (next (slots + list))) (λ _. refl) first_moves avoids_first
