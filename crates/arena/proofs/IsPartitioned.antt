-- Each call keeps the partition of an arena's slots.
use Rattle.std.proofs.lemmas.Grind.{common_steps}
use Rattle.std.proofs.Common.{◌≡◌, ◌≢◌, ℕ, zero, suc, ◌<◌, ◌≤◌, true, List, [], ◌∷◌, ◌++◌, map, length, refl, sym, ap, subst, ◌∙◌, inl, inr, arith, Option, Some, None, is_some, nat_lt, if◌then◌else◌, slice_index_or, slice_set}
use Rattle.std.proofs.lemmas.Bool.{cases_eq}
use Rattle.std.proofs.lemmas.List.{length-set, get_or-set_same, get_or-set_other, length-map}
use Rattle.std.specs.List.{concat}
use Rattle.arena.specs.Lists.{count_of, without}
use Rattle.arena.specs.ArenaView.{ArenaView, capacity_of, value_at, holds_value, listed, aside, IsPartitioned, moved}
use Rattle.arena.proofs.Counts.{count_of-append, count_of-last, count_of-cons_is, count_of-cons_other, count_of-set, count_of-without_all_same, count_of-without_all_other, count_of-filter_yes, count_of-filter_no, count_of-tail, count_of-numbers, count_of-numbers_in, count_of-high}

module _ {T : Type 0} where
  -- what is on no list is aside
  parts-from : (m : ArenaView T) → ((i : ℕ) → count_of i (listed m) ≤ 1) → ((i : ℕ) → 0 < count_of i (listed m) → i < capacity_of m)
      → (i : ℕ) → count_of i (listed m ++ aside m) ≡ (if nat_lt i (capacity_of m) then 1 else 0)
  parts-from m once within i =
      grind (arith, common_steps, count_of-append, count_of-filter_no, count_of-filter_yes, count_of-numbers, count_of-numbers_in, count_of-high)

  pub partitioned-from : (m : ArenaView T) → ((i : ℕ) → count_of i (listed m) ≤ 1) → ((i : ℕ) → 0 < count_of i (listed m) → i < capacity_of m)
      → ((i : ℕ) → 0 < count_of i m.free → value_at m i ≡ None) → ((i : ℕ) → 0 < count_of i (concat m.chains) → holds_value m i ≡ true) → IsPartitioned m
  partitioned-from m once within free_empty chains_hold = assumption (parts-from m once within, once, within, free_empty, chains_hold)

  -- a value is read after a write
  pub value-same : (values : List (Option T)) (i : ℕ) (w : Option T) → i < length values → slice_index_or (slice_set values i w) i None ≡ w
  value-same values i w within = get_or-set_same values i w None within

  pub value-other : (values : List (Option T)) (i j : ℕ) (w : Option T) → j ≢ i → slice_index_or (slice_set values i w) j None ≡ slice_index_or values j None
  value-other values i j w other = get_or-set_other values i j w None other

  -- a slot that holds a value is there, and not free
  pub held-within : (values : List (Option T)) (i : ℕ) → is_some (slice_index_or values i None) ≡ true → i < length values
  held-within [] i held = absurd (cc)
  held-within (v ∷ values) zero held = omega arith
  held-within (v ∷ values) (suc i) held = omega (arith, held-within values i held)

  pub held-not_free : (m : ArenaView T) → IsPartitioned m → (i : ℕ) → holds_value m i ≡ true → count_of i m.free ≡ 0
  held-not_free m partitioned i held = grind (arith, common_steps)

  pub partitioned-put : (values : List (Option T)) (i : ℕ) (rest : List ℕ) (chains : List (List ℕ)) (value : T) → IsPartitioned (record { values = values; free = i ∷ rest; chains = chains })
      → IsPartitioned (record { values = slice_set values i (Some value); free = rest; chains = chains })
  partitioned-put values i rest chains value partitioned =
      let long = length-set values i (Some value) in
      let all = λ (j : ℕ). count_of-append j rest (concat chains) in
      let more = count_of-cons_is i i (rest ++ concat chains) refl in
      partitioned-from (record { values = slice_set values i (Some value); free = rest; chains = chains })
      (λ j. omega (arith, count_of-tail j i (rest ++ concat chains), partitioned.once j))
      (λ j some. omega (arith, partitioned.within j (omega (arith, count_of-tail j i (rest ++ concat chains)))))
      (λ j some. grind (arith, common_steps))
      (λ j some. grind (arith, common_steps))

  pub partitioned-lend : (m : ArenaView T) (i : ℕ) → IsPartitioned m → holds_value m i ≡ true → IsPartitioned (record m { values = slice_set m.values i None; chains = map (without i) m.chains })
  partitioned-lend m i partitioned held =
      let long = length-set m.values i None in
      let old = λ (j : ℕ). count_of-append j m.free (concat m.chains) in
      let new = λ (j : ℕ). count_of-append j m.free (concat (map (without i) m.chains)) in
      let gone = count_of-without_all_same i m.chains in
      partitioned-from (record m { values = slice_set m.values i None; chains = map (without i) m.chains })
      (λ j. grind (arith, common_steps, count_of-without_all_other))
      (λ j some. grind (arith, common_steps, count_of-without_all_other))
      (λ j some. grind (arith, common_steps))
      (λ j some. elim (cases_eq j i) [
        | inl e ↦ absurd (let P : ℕ → Type 0 = λ k. 0 < count_of k (concat (map (without i) m.chains)) in let here = subst P e some in omega arith)
        | inr n ↦ ap is_some (value-other m.values i j None n) ∙ partitioned.chains_hold j (omega (arith, count_of-without_all_other j i m.chains n))
      ])

  pub partitioned-take : (m : ArenaView T) (i : ℕ) → IsPartitioned m → holds_value m i ≡ true
      → IsPartitioned (record { values = slice_set m.values i None; free = i ∷ m.free; chains = map (without i) m.chains })
  partitioned-take m i partitioned held =
      let long = length-set m.values i None in
      let lent = partitioned-lend m i partitioned held in
      let others = m.free ++ concat (map (without i) m.chains) in
      let new = count_of-append i m.free (concat (map (without i) m.chains)) in
      let gone = count_of-without_all_same i m.chains in
      let unfree = held-not_free m partitioned i held in
      let more = count_of-cons_is i i others refl in
      partitioned-from (record { values = slice_set m.values i None; free = i ∷ m.free; chains = map (without i) m.chains })
      (λ j. grind (arith, common_steps))
      (λ j some. grind (arith, common_steps))
      (λ j some. grind (arith, common_steps))
      lent.chains_hold

  pub partitioned-move : (m : ArenaView T) (i c : ℕ) → IsPartitioned m → holds_value m i ≡ true → c < length m.chains → IsPartitioned (record m { chains = moved m.chains i c })
  partitioned-move m i c partitioned held within =
      let others = map (without i) m.chains in
      let chain = slice_index_or others c [] in
      let gone = count_of-without_all_same i m.chains in
      let unfree = held-not_free m partitioned i held in
      let old = λ (j : ℕ). count_of-append j m.free (concat m.chains) in
      let new = λ (j : ℕ). count_of-append j m.free (concat (moved m.chains i c)) in
      let changed = λ (j : ℕ). count_of-set j others c (chain ++ i ∷ []) (omega (arith, length-map m.chains (without i))) in
      let added = λ (j : ℕ). count_of-last j i chain in
      let count_same : count_of i (concat (moved m.chains i c)) ≡ 1 = omega (arith, changed i, added i, count_of-cons_is i i chain refl) in
      let count_other : (j : ℕ) → i ≢ j → count_of j (concat (moved m.chains i c)) ≡ count_of j (concat m.chains) =
      (λ j n. omega (arith, changed j, added j, count_of-cons_other j i chain n, count_of-without_all_other j i m.chains (λ same. n (sym same)))) in
      partitioned-from (record m { chains = moved m.chains i c })
      (λ j. elim (cases_eq i j) [
        | inl e ↦ rw (← e) (omega (arith, new i))
        | inr n ↦ omega (arith, old j, new j, count_other j n, partitioned.once j)
      ])
      (λ j some. grind (arith, common_steps))
      partitioned.free_empty
      (λ j some. grind (arith, common_steps))

  pub partitioned-restore : (m : ArenaView T) (i : ℕ) (value : T) → IsPartitioned m → i < capacity_of m → count_of i m.free ≡ 0
      → IsPartitioned (record m { values = slice_set m.values i (Some value) })
  partitioned-restore m i value partitioned within unfree = grind (arith, common_steps)
