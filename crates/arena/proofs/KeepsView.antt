-- Each call on the two arrays of links and the values keeps what an arena keeps, and changes its view as its definition says.
use Rattle.std.proofs.Common.{◌≡◌, ℕ, zero, suc, ◌+◌, ◌-◌, ◌<◌, ◌≤◌, Bool, true, false, not, ◌&&◌, List, [], ◌∷◌, ◌++◌, map, length, replicate, refl, sym, ap, subst, ◌∙◌, inl, inr, arith, add-one, Option, Some, None, is_some, is_none, nat_lt, slice_index_or, slice_set, Ok, Err}
use Rattle.std.proofs.lemmas.Bool.{lt-ltb, le-ltb, eq-eqb}
use Rattle.std.proofs.lemmas.Bool.Decides.{leb_tells}
use Rattle.std.proofs.lemmas.List.{length-set, length-replicate}
use Rattle.std.specs.List.{concat, AllByRecursion}
use Rattle.arena.specs.Lists.{count_of, is_on, without, first_of, behind_in, numbers_from}
use Rattle.arena.specs.Linked.{Linked, list_at}
use Rattle.arena.specs.ArenaView.{ArenaView, capacity_of, value_at, holds_value, is_lent, listed, moved, after_put, after_lend, after_take, after_move, after_restore, restore_answer, empty_arena}
use Rattle.arena.specs.ArenaRule.{arena_view_of, ArenaRule, free_in, chains_in}
use Rattle.arena.proofs.Counts.{count_of-append, count_of-cons_is, without-absent, without_all-absent, length-once, length-numbers, count_of-tail, count_of-numbers, count_of-high, count_of-empties}
use Rattle.arena.proofs.Behind.{behind_in-nowhere}
use Rattle.arena.proofs.IsPartitioned.{partitioned-put, partitioned-lend, partitioned-take, partitioned-move, partitioned-restore, held-not_free, partitioned-from}

abbrev pub linked_as : ℕ → List (List ℕ) → Linked
linked_as slots lists = record { slots = slots; lists = lists }

-- the first free slot, taken off the free list
unlinked-free : (x : ℕ) (rest : List ℕ) (chains : List (List ℕ)) → count_of x ((x ∷ rest) ++ concat chains) ≤ 1 → map (without x) ((x ∷ rest) ∷ chains) ≡ rest ∷ chains
unlinked-free x rest chains once =
    let both = count_of-append x rest (concat chains) in
    let more = count_of-cons_is x x (rest ++ concat chains) refl in
    let here : without x (x ∷ rest) ≡ rest = rw (eq-eqb x x refl) (without-absent x rest (omega arith)) in
    let others = without_all-absent x chains (omega arith) in
    cc

-- what holds of each number that is in a list holds by `AllByRecursion`
pub each-from_times : (P : ℕ → Type 0) (xs : List ℕ) → ((i : ℕ) → 0 < count_of i xs → P i) → AllByRecursion P xs
each-from_times P [] each = tt
each-from_times P (x ∷ xs) each =
    (each x (omega (arith, count_of-cons_is x x xs refl)), each-from_times P xs (λ i some. each i (omega (arith, count_of-tail i x xs))))

start-within : (slots chains i : ℕ) → 0 < count_of i (numbers_from 0 slots ++ concat (replicate chains [])) → i < slots
start-within slots chains i some = elim (leb_tells slots i) [
  | inl e ↦ absurd (omega (arith, count_of-append i (numbers_from 0 slots) (concat (replicate chains [])), count_of-empties i chains, count_of-high i 0 slots (omega arith)))
  | inr n ↦ n.1
]

module _ {T : Type 0} where
  pub behind-empty : {values : List (Option T)} {slots : ℕ} {lists : List (List ℕ)} {count : ℕ} (i : ℕ) → ArenaRule values (linked_as slots lists) count
      → is_some (slice_index_or values i None) ≡ false → behind_in i (chains_in lists) ≡ None
  behind-empty {lists = lists} i kept empty = elim (leb_tells 1 (count_of i (concat (chains_in lists)))) [
    | inl e ↦ absurd (let held = kept.partitioned.chains_hold i e.1 in let lost : false ≡ true = sym empty ∙ held in cc)
    | inr n ↦ behind_in-nowhere i (chains_in lists) (omega arith)
  ]

  -- `put`
  pub put-within : {values : List (Option T)} {slots : ℕ} {lists : List (List ℕ)} {count slot : ℕ} → ArenaRule values (linked_as slots lists) count
      → first_of (slice_index_or lists 0 []) ≡ Some slot → slot < length values
  put-within {lists = []} kept found = absurd (cc)
  put-within {lists = [] ∷ chains} kept found = absurd (cc)
  put-within {lists = (x ∷ rest) ∷ chains} {slot} kept found =
      let same : x ≡ slot = cc in
      kept.partitioned.within slot (omega (arith, count_of-cons_is slot x (rest ++ concat chains) same))

  pub put-kept : {values : List (Option T)} {slots : ℕ} {lists : List (List ℕ)} {count slot : ℕ} (value : T) → ArenaRule values (linked_as slots lists) count
      → first_of (slice_index_or lists 0 []) ≡ Some slot
      → ArenaRule (slice_set values slot (Some value)) (linked_as slots (map (without slot) lists)) (count - 1)
  put-kept {lists = []} value kept found = absurd (cc)
  put-kept {lists = [] ∷ chains} value kept found = absurd (cc)
  put-kept {values} {slots} {lists = (x ∷ rest) ∷ chains} {count} {slot} value kept found =
      let same : x ≡ slot = cc in
      let P : ℕ → Type 0 = λ s. ArenaRule (slice_set values s (Some value)) (linked_as slots (map (without s) ((x ∷ rest) ∷ chains))) (count - 1) in
      let Q : List (List ℕ) → Type 0 = λ lists. ArenaRule (slice_set values x (Some value)) (linked_as slots lists) (count - 1) in
      subst P same (subst Q (sym (unlinked-free x rest chains (kept.partitioned.once x))) (record {
        slots = kept.slots ∙ sym (length-set values x (Some value));
        has_free = omega arith;
        counted = omega (arith, kept.counted);
        partitioned = partitioned-put values x rest chains value kept.partitioned;
      }))

  pub put-arena : {values : List (Option T)} {slots : ℕ} {lists : List (List ℕ)} {count slot : ℕ} (value : T) → ArenaRule values (linked_as slots lists) count
      → first_of (slice_index_or lists 0 []) ≡ Some slot
      → arena_view_of (slice_set values slot (Some value)) (linked_as slots (map (without slot) lists)) ≡ after_put (arena_view_of values (linked_as slots lists)) value
  put-arena {lists = []} value kept found = absurd (cc)
  put-arena {lists = [] ∷ chains} value kept found = absurd (cc)
  put-arena {values} {slots} {lists = (x ∷ rest) ∷ chains} {slot} value kept found =
      let same : x ≡ slot = cc in
      let P : ℕ → Type 0 = λ s. arena_view_of (slice_set values s (Some value)) (linked_as slots (map (without s) ((x ∷ rest) ∷ chains)))
      ≡ after_put (arena_view_of values (linked_as slots ((x ∷ rest) ∷ chains))) value in
      subst P same (ap (λ (lists : List (List ℕ)). arena_view_of (slice_set values x (Some value)) (linked_as slots lists))
      (unlinked-free x rest chains (kept.partitioned.once x)))

  pub put-made : {values values' : List (Option T)} {links links' : Linked} {count slot : ℕ} (value : T) {m : ArenaView T} → ArenaRule values links count
      → first_of (list_at links 0) ≡ Some slot → values' ≡ slice_set values slot (Some value)
      → links' ≡ linked_as links.slots (map (without slot) links.lists) → arena_view_of values links ≡ m → arena_view_of values' links' ≡ after_put m value
  put-made value kept found values_are links_are arena_is =
      rw (values_are, links_are) (put-arena value kept found)
      ∙ ap (λ (arena : ArenaView T). after_put arena value) arena_is

  -- a slot that holds its value, taken off its list
  unlinked-held : {values : List (Option T)} {slots : ℕ} {free : List ℕ} {chains : List (List ℕ)} {count : ℕ} (i : ℕ)
      → ArenaRule values (linked_as slots (free ∷ chains)) count → is_some (slice_index_or values i None) ≡ true
      → map (without i) (free ∷ chains) ≡ free ∷ map (without i) chains
  unlinked-held {values} {slots} {free} {chains} i kept held =
      let unfree = without-absent i free (held-not_free (arena_view_of values (linked_as slots (free ∷ chains))) kept.partitioned i held) in
      cc

  -- `lend`
  pub lend-kept : {values : List (Option T)} {slots : ℕ} {lists : List (List ℕ)} {count : ℕ} (i : ℕ) → ArenaRule values (linked_as slots lists) count → is_some (slice_index_or values i None) ≡ true
      → ArenaRule (slice_set values i None) (linked_as slots (map (without i) lists)) count
  lend-kept {lists = []} i kept held = absurd (omega (arith, kept.has_free))
  lend-kept {values} {slots} {lists = free ∷ chains} {count} i kept held =
      let Q : List (List ℕ) → Type 0 = λ lists. ArenaRule (slice_set values i None) (linked_as slots lists) count in
      subst Q (sym (unlinked-held i kept held)) (record {
        slots = kept.slots ∙ sym (length-set values i None);
        has_free = omega arith;
        counted = kept.counted;
        partitioned = partitioned-lend (arena_view_of values (linked_as slots (free ∷ chains))) i kept.partitioned held;
      })

  pub lend-arena : {values : List (Option T)} {slots : ℕ} {lists : List (List ℕ)} {count : ℕ} (i : ℕ) → ArenaRule values (linked_as slots lists) count → is_some (slice_index_or values i None) ≡ true
      → arena_view_of (slice_set values i None) (linked_as slots (map (without i) lists)) ≡ after_lend (arena_view_of values (linked_as slots lists)) i
  lend-arena {lists = []} i kept held = absurd (omega (arith, kept.has_free))
  lend-arena {values} {slots} {lists = free ∷ chains} i kept held =
      rw held (ap (λ (lists : List (List ℕ)). arena_view_of (slice_set values i None) (linked_as slots lists))
      (unlinked-held i kept held))

  -- `take`
  prepended : {values : List (Option T)} {slots : ℕ} {free : List ℕ} {chains : List (List ℕ)} {count : ℕ} (i : ℕ)
      → ArenaRule values (linked_as slots (free ∷ chains)) count → is_some (slice_index_or values i None) ≡ true
      → slice_set (map (without i) (free ∷ chains)) 0 (i ∷ slice_index_or (map (without i) (free ∷ chains)) 0 []) ≡ (i ∷ free) ∷ map (without i) chains
  prepended i kept held =
      ap (λ (lists : List (List ℕ)). slice_set lists 0 (i ∷ slice_index_or lists 0 [])) (unlinked-held i kept held)

  pub take-kept : {values : List (Option T)} {slots : ℕ} {lists : List (List ℕ)} {count : ℕ} (i : ℕ) → ArenaRule values (linked_as slots lists) count → is_some (slice_index_or values i None) ≡ true
      → ArenaRule (slice_set values i None) (linked_as slots (slice_set (map (without i) lists) 0 (i ∷ slice_index_or (map (without i) lists) 0 []))) (count + 1)
  take-kept {lists = []} i kept held = absurd (omega (arith, kept.has_free))
  take-kept {values} {slots} {lists = free ∷ chains} {count} i kept held =
      let Q : List (List ℕ) → Type 0 = λ lists. ArenaRule (slice_set values i None) (linked_as slots lists) (count + 1) in
      subst Q (sym (prepended i kept held)) (record {
        slots = kept.slots ∙ sym (length-set values i None);
        has_free = omega arith;
        counted = omega (arith, kept.counted);
        partitioned = partitioned-take (arena_view_of values (linked_as slots (free ∷ chains))) i kept.partitioned held;
      })

  pub take-arena : {values : List (Option T)} {slots : ℕ} {lists : List (List ℕ)} {count : ℕ} (i : ℕ) → ArenaRule values (linked_as slots lists) count → is_some (slice_index_or values i None) ≡ true
      → arena_view_of (slice_set values i None) (linked_as slots (slice_set (map (without i) lists) 0 (i ∷ slice_index_or (map (without i) lists) 0 [])))
      ≡ after_take (arena_view_of values (linked_as slots lists)) i
  take-arena {lists = []} i kept held = absurd (omega (arith, kept.has_free))
  take-arena {values} {slots} {lists = free ∷ chains} i kept held =
      rw held (ap (λ (lists : List (List ℕ)). arena_view_of (slice_set values i None) (linked_as slots lists))
      (prepended i kept held))

  -- `move_to`
  appended : {values : List (Option T)} {slots : ℕ} {free : List ℕ} {chains : List (List ℕ)} {count : ℕ} (i c : ℕ)
      → ArenaRule values (linked_as slots (free ∷ chains)) count → is_some (slice_index_or values i None) ≡ true
      → slice_set (map (without i) (free ∷ chains)) (c + 1) (slice_index_or (map (without i) (free ∷ chains)) (c + 1) [] ++ i ∷ [])
      ≡ free ∷ moved chains i c
  appended i c kept held =
      rw (add-one) (ap (λ (lists : List (List ℕ)). slice_set lists (suc c) (slice_index_or lists (suc c) [] ++ i ∷ []))
      (unlinked-held i kept held))

  pub move-kept : {values : List (Option T)} {slots : ℕ} {lists : List (List ℕ)} {count : ℕ} (i c : ℕ) → ArenaRule values (linked_as slots lists) count
      → is_some (slice_index_or values i None) ≡ true → c < length (chains_in lists)
      → ArenaRule values (linked_as slots (slice_set (map (without i) lists) (c + 1) (slice_index_or (map (without i) lists) (c + 1) [] ++ i ∷ []))) count
  move-kept {lists = []} i c kept held within = absurd (omega (arith, kept.has_free))
  move-kept {values} {slots} {lists = free ∷ chains} {count} i c kept held within =
      let Q : List (List ℕ) → Type 0 = λ lists. ArenaRule values (linked_as slots lists) count in
      subst Q (sym (appended i c kept held)) (record {
        slots = kept.slots;
        has_free = omega arith;
        counted = kept.counted;
        partitioned = partitioned-move (arena_view_of values (linked_as slots (free ∷ chains))) i c kept.partitioned held within;
      })

  pub move-arena : {values : List (Option T)} {slots : ℕ} {lists : List (List ℕ)} {count : ℕ} (i c : ℕ) → ArenaRule values (linked_as slots lists) count
      → is_some (slice_index_or values i None) ≡ true → c < length (chains_in lists)
      → arena_view_of values (linked_as slots (slice_set (map (without i) lists) (c + 1) (slice_index_or (map (without i) lists) (c + 1) [] ++ i ∷ [])))
      ≡ after_move (arena_view_of values (linked_as slots lists)) i c
  move-arena {lists = []} i c kept held within = absurd (omega (arith, kept.has_free))
  move-arena {values} {slots} {lists = free ∷ chains} i c kept held within =
      rw (held, lt-ltb c (length chains) within) (ap (λ (lists : List (List ℕ)). arena_view_of values (linked_as slots lists))
      (appended i c kept held))

  -- `restore`
  none-from : (o : Option T) → is_some o ≡ false → is_none o ≡ true
  none-from None empty = refl
  none-from (Some v) empty = absurd (cc)

  pub lent-from : (m : ArenaView T) (i : ℕ) → i < capacity_of m → holds_value m i ≡ false → count_of i m.free ≡ 0 → is_lent m i ≡ true
  lent-from m i within empty unfree =
      rw (lt-ltb i (capacity_of m) within, none-from (value_at m i) empty, unfree) refl

  pub restore-kept : {values : List (Option T)} {slots : ℕ} {lists : List (List ℕ)} {count : ℕ} (i : ℕ) (value : T) → ArenaRule values (linked_as slots lists) count
      → i < length values → count_of i (concat lists) ≡ 0
      → ArenaRule (slice_set values i (Some value)) (linked_as slots lists) count
  restore-kept {lists = []} i value kept within alone = absurd (omega (arith, kept.has_free))
  restore-kept {values} {slots} {lists = free ∷ chains} i value kept within alone = record {
    slots = kept.slots ∙ sym (length-set values i (Some value));
    has_free = kept.has_free;
    counted = kept.counted;
    partitioned = partitioned-restore (arena_view_of values (linked_as slots (free ∷ chains))) i value kept.partitioned within
        (omega (arith, count_of-append i free (concat chains)));
  }

  pub lent-alone : {values : List (Option T)} {slots : ℕ} {lists : List (List ℕ)} {count : ℕ} (i : ℕ) → ArenaRule values (linked_as slots lists) count
      → i < length values → is_some (slice_index_or values i None) ≡ false → count_of i (concat lists) ≡ 0
      → is_lent (arena_view_of values (linked_as slots lists)) i ≡ true
  lent-alone {lists = []} i kept within empty alone = absurd (omega (arith, kept.has_free))
  lent-alone {values} {slots} {lists = free ∷ chains} i kept within empty alone =
      lent-from (arena_view_of values (linked_as slots (free ∷ chains))) i within empty (omega (arith, count_of-append i free (concat chains)))

  -- where `restore` refuses
  pub not_lent-outside : (m : ArenaView T) (i : ℕ) → capacity_of m ≤ i → is_lent m i ≡ false
  not_lent-outside m i outside = rw (le-ltb i (capacity_of m) outside) refl

  pub not_lent : (m : ArenaView T) (i : ℕ) → holds_value m i ≡ true → is_lent m i ≡ false
  not_lent m i held = go (nat_lt i (capacity_of m)) (value_at m i) (not (is_on i m.free)) held
    where
      go : (b : Bool) (o : Option T) (f : Bool) → is_some o ≡ true → (b && (is_none o && f)) ≡ false
      go true None f some = absurd (cc)
      go true (Some v) f some = refl
      go false o f some = refl

  not_lent-free : (m : ArenaView T) (i : ℕ) → 0 < count_of i m.free → is_lent m i ≡ false
  not_lent-free m i free = rw (lt-ltb 0 (count_of i m.free) free) (go (nat_lt i (capacity_of m)) (is_none (value_at m i)))
    where
      go : (b n : Bool) → (b && (n && false)) ≡ false
      go true true = refl
      go true false = refl
      go false n = refl

  pub not_lent-listed : {values : List (Option T)} {slots : ℕ} {lists : List (List ℕ)} {count : ℕ} (i : ℕ) → ArenaRule values (linked_as slots lists) count
      → (count_of i (concat lists) ≡ 0 → ⊥) → is_lent (arena_view_of values (linked_as slots lists)) i ≡ false
  not_lent-listed {lists = []} i kept listed = absurd (omega (arith, kept.has_free))
  not_lent-listed {values} {slots} {lists = free ∷ chains} i kept listed = elim (leb_tells 1 (count_of i free)) [
    | inl e ↦ not_lent-free (arena_view_of values (linked_as slots (free ∷ chains))) i e.1
    | inr n ↦ not_lent (arena_view_of values (linked_as slots (free ∷ chains))) i
        (kept.partitioned.chains_hold i (elim (leb_tells 1 (count_of i (concat chains))) [
          | inl e ↦ e.1
          | inr o ↦ absurd (listed (omega (arith, count_of-append i free (concat chains))))
        ]))
  ]

  -- there are at least as many slots as free ones
  pub kept-fits : (values : List (Option T)) (links : Linked) (count : ℕ) → ArenaRule values links count → count ≤ length values
  kept-fits values links count kept =
      let all = λ (i : ℕ). count_of-append i (free_in links.lists) (concat (chains_in links.lists)) in
      omega (
        arith,
        kept.counted,
        length-once (length values) (free_in links.lists)
            (λ i. omega (arith, all i, kept.partitioned.once i))
            (each-from_times (λ x. x < length values) (free_in links.lists) (λ i some. kept.partitioned.within i (omega (arith, all i)))),
      )

  none-at : (slots i : ℕ) → (let none : Option T = None in slice_index_or (replicate slots none) i none ≡ none)
  none-at zero i = refl
  none-at (suc slots) zero = refl
  none-at (suc slots) (suc i) = none-at slots i

  pub start-kept : (slots chains : ℕ) → ArenaRule {T = T} (replicate slots None) (linked_as slots (numbers_from 0 slots ∷ replicate chains [])) slots
  start-kept slots chains = record {
    slots = sym (length-replicate slots None);
    has_free = omega arith;
    counted = sym (length-numbers 0 slots);
    partitioned = partitioned-from (empty_arena slots chains)
        (λ i. omega (arith, count_of-append i (numbers_from 0 slots) (concat (replicate chains [])), count_of-empties i chains, count_of-numbers i 0 slots))
        (λ i some. omega (arith, length-replicate {A = Option T} slots None, start-within slots chains i some))
        (λ i some. none-at slots i)
        (λ i some. absurd (omega (arith, count_of-empties i chains)));
  }

  -- what `restore` does, where it refuses and where it does not
  pub refused-answer : (m : ArenaView T) (i : ℕ) (value : T) → is_lent m i ≡ false → Err value ≡ restore_answer m i value
  refused-answer m i value refused = rw refused refl

  pub refused-arena : (m : ArenaView T) (i : ℕ) (value : T) → is_lent m i ≡ false → m ≡ after_restore m i value
  refused-arena m i value refused = rw refused refl

  pub restored-answer : (m : ArenaView T) (i : ℕ) (value : T) → is_lent m i ≡ true → Ok tt ≡ restore_answer m i value
  restored-answer m i value lent = rw lent refl

  pub restored-arena : {values values' : List (Option T)} (links : Linked) (i : ℕ) (value : T) {m : ArenaView T} → is_lent m i ≡ true
      → values' ≡ slice_set values i (Some value) → arena_view_of values links ≡ m → arena_view_of values' links ≡ after_restore m i value
  restored-arena links i value lent values_are arena_is =
      rw lent (rw values_are refl ∙ ap (λ (arena : ArenaView T). let made : ArenaView T = record arena { values = slice_set arena.values i (Some value) } in made) arena_is)
