-- A slot is taken off its list.
use Rattle.std.proofs.Common.{◌≡◌, ◌≢◌, ℕ, ◌-◌, ◌<◌, ◌≤◌, List, [], ◌∷◌, map, sym, ap, subst, ◌∙◌, inl, inr, arith}
use Rattle.std.proofs.lemmas.Bool.{cases_eq}
use Rattle.std.proofs.lemmas.Bool.Decides.{eqb_tells}
use Rattle.std.specs.List.{concat}
use Rattle.arena.specs.Lists.{count_of, without}
use Rattle.arena.specs.Linked.{IsWay, ring, rings, IsLinked}
use Rattle.arena.proofs.Counts.{count_of-without_all_same, count_of-without_all_other, length-without}
use Rattle.arena.proofs.Ways.{AreSlots, walk-way, walk-inside, length-walk, slots-below, slots-without, table-map}

-- The neighbors of a slot were tied to one another, and the slot to itself.
pub record IsUnlinked (slot : ℕ) (next previous next' previous' : ℕ → ℕ) : Type 0 where
  pub alone_next : next' slot ≡ slot
  pub alone_previous : previous' slot ≡ slot
  pub tied_next : previous slot ≢ slot → next' (previous slot) ≡ next slot
  pub tied_previous : next slot ≢ slot → previous' (next slot) ≡ previous slot
  pub rest_next : (a : ℕ) → a ≢ slot → a ≢ previous slot → next' a ≡ next a
  pub rest_previous : (a : ℕ) → a ≢ slot → a ≢ next slot → previous' a ≡ previous a

-- the same, the other way round
turned : {slot : ℕ} {next previous next' previous' : ℕ → ℕ} → IsUnlinked slot next previous next' previous' → IsUnlinked slot previous next previous' next'
turned u = record {
  alone_next = u.alone_previous;
  alone_previous = u.alone_next;
  tied_next = u.tied_previous;
  tied_previous = u.tied_next;
  rest_next = u.rest_previous;
  rest_previous = u.rest_next;
}

below : {nodes slot : ℕ} {next previous next' previous' : ℕ → ℕ} → IsUnlinked slot next previous next' previous' → slot < nodes
    → ((a : ℕ) → a < nodes → next a < nodes) → (a : ℕ) → a < nodes → next' a < nodes
below {slot = slot} {previous = previous} unlinked is_node stays a within = elim (cases_eq a slot) [
  | inl e ↦ rw (e, unlinked.alone_next) is_node
  | inr n ↦ elim (cases_eq a (previous slot)) [
    | inl p ↦ rw (p, unlinked.tied_next (λ loop. n (p ∙ loop))) (stays slot is_node)
    | inr q ↦ rw (unlinked.rest_next a n q) (stays a within)
  ]
]

undoes : {nodes slot : ℕ} {next previous next' previous' : ℕ → ℕ} → IsUnlinked slot next previous next' previous' → slot < nodes
    → ((a : ℕ) → a < nodes → next (previous a) ≡ a) → (a : ℕ) → a < nodes → next' (previous' a) ≡ a
undoes {slot = slot} {next = next} {previous = previous} {next' = next'} {previous' = previous'} unlinked is_node undone a within = elim (cases_eq a slot) [
  | inl e ↦ ap (λ x. next' (previous' x)) e ∙ ap next' unlinked.alone_previous ∙ unlinked.alone_next ∙ sym e
  | inr n ↦ elim (cases_eq a (next slot)) [
    | inl p ↦
        let apart : previous slot ≢ slot = (λ loop. n (p ∙ ap next (sym loop) ∙ undone slot is_node)) in
        ap (λ x. next' (previous' x)) p ∙ ap next' (unlinked.tied_previous (λ loop. n (p ∙ loop))) ∙ unlinked.tied_next apart ∙ sym p
    | inr q ↦
        ap next' (unlinked.rest_previous a n q)
        ∙ unlinked.rest_next (previous a) (λ same. q (sym (undone a within) ∙ ap next same))
        (λ same. n (sym (undone a within) ∙ ap next same ∙ undone slot is_node))
        ∙ undone a within
  ]
]

module _ (slots nodes slot : ℕ) (next previous next' previous' : ℕ → ℕ) (linked : IsLinked slots nodes next previous)
    (within : slot < slots) (unlinked : IsUnlinked slot next previous next' previous') where
  is_node : slot < nodes
  is_node = omega (arith, linked.slots_fit)

  -- `next'` leads from node b to the node to which `next` leads from node a, but past the slot
  abbrev Follows : ℕ → ℕ → Type 0
  Follows b a = (next a ≢ slot → next' b ≡ next a) × (next a ≡ slot → next' b ≡ next slot)

  follows : (a : ℕ) → a < nodes → a ≢ slot → Follows a a
  follows a below other = (
    λ onward. unlinked.rest_next a other (λ same. onward (ap next same ∙ linked.next_undoes slot is_node)),
    λ onto.
        let same : a ≡ previous slot = sym (linked.previous_undoes a below) ∙ ap previous onto in
        ap next' same ∙ unlinked.tied_next (λ loop. other (same ∙ loop)),
  )

  way-without : (b a : ℕ) (xs : List ℕ) (z : ℕ) → Follows b a → AreSlots nodes xs → z ≢ slot → IsWay next a xs z → IsWay next' b (without slot xs) z
  way-without b a [] z follow inside apart way = follow.0 (λ same. apart (sym way ∙ same)) ∙ way
  way-without b a (x ∷ xs) z follow inside apart way = elim (eqb_tells x slot) [
    | inl e ↦ rw e.0 (way-without b x xs z
        (λ _. follow.1 (way.0 ∙ e.1) ∙ ap next (sym e.1), λ _. follow.1 (way.0 ∙ e.1)) inside.1 apart way.1)
    | inr n ↦ rw n.0 (follow.0 (λ same. n.1 (sym way.0 ∙ same)) ∙ way.0, way-without x x xs z (follows x inside.0 n.1) inside.1 apart way.1)
  ]

  end_apart : (end : ℕ) → slots ≤ end → end ≢ slot
  end_apart end outside same = omega arith

  ring_way : (end : ℕ) → slots ≤ end → end < nodes → IsWay next' end (without slot (ring next slots end)) end
  ring_way end outside below =
      way-without end end (ring next slots end) end (follows end below (end_apart end outside))
      (slots-below slots nodes (ring next slots end) linked.slots_fit (walk-inside next slots slots (next end)))
      (end_apart end outside) (linked.closed end outside below)

  ring-unlinked : (end : ℕ) → slots ≤ end → end < nodes → ring next' slots end ≡ without slot (ring next slots end)
  ring-unlinked end outside below =
      walk-way next' slots slots end (without slot (ring next slots end)) end (ring_way end outside below)
      (slots-without slots slot (ring next slots end) (walk-inside next slots slots (next end))) outside
      (omega (arith, length-without slot (ring next slots end), length-walk next slots slots (next end)))

  pub rings-unlinked : rings next' slots nodes ≡ map (without slot) (rings next slots nodes)
  rings-unlinked = table-map (ring next slots) (ring next' slots) (without slot) slots (nodes - slots)
      (λ e low high. ring-unlinked e low (omega (arith, linked.slots_fit)))

  next_below : (a : ℕ) → a < nodes → next' a < nodes
  next_below = below unlinked is_node linked.next_below

  previous_below : (a : ℕ) → a < nodes → previous' a < nodes
  previous_below = below (turned unlinked) is_node linked.previous_below

  next_undoes : (a : ℕ) → a < nodes → next' (previous' a) ≡ a
  next_undoes = undoes unlinked is_node linked.next_undoes

  previous_undoes : (a : ℕ) → a < nodes → previous' (next' a) ≡ a
  previous_undoes = undoes (turned unlinked) is_node linked.previous_undoes

  closed : (end : ℕ) → slots ≤ end → end < nodes → IsWay next' end (ring next' slots end) end
  closed end outside below =
      let P : List ℕ → Type 0 = λ xs. IsWay next' end xs end in
      subst P (sym (ring-unlinked end outside below)) (ring_way end outside below)

  once : (i : ℕ) → count_of i (concat (rings next' slots nodes)) ≤ 1
  once i = rw rings-unlinked (elim (cases_eq i slot) [
    | inl e ↦ rw e (omega (arith, count_of-without_all_same slot (rings next slots nodes)))
    | inr n ↦ omega (arith, count_of-without_all_other i slot (rings next slots nodes) n, linked.once i)
  ])

  placed : (a : ℕ) → a < slots → next' a ≢ a → 0 < count_of a (concat (rings next' slots nodes))
  placed a low moves =
      let other : a ≢ slot = (λ same. moves (ap next' same ∙ unlinked.alone_next ∙ sym same)) in
      let moved : next a ≢ a = (λ loop.
      moves (unlinked.rest_next a other (λ same. other (sym loop ∙ ap next same ∙ linked.next_undoes slot is_node)) ∙ loop)) in
      rw rings-unlinked (omega (arith, count_of-without_all_other a slot (rings next slots nodes) other, linked.placed a low moved))

  pub IsLinked-unlinked : IsLinked slots nodes next' previous'
  IsLinked-unlinked = record {
    slots_fit = linked.slots_fit;
    next_below = next_below;
    previous_below = previous_below;
    next_undoes = next_undoes;
    previous_undoes = previous_undoes;
    closed = closed;
    once = once;
    placed = placed;
  }
