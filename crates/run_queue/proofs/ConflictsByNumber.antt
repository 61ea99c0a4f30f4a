-- Which messages are kept back, by the affinity numbers of those that are held and that wait.
use Rattle.std.proofs.Common.{◌≡◌, ◌∙◌, ℕ, ◌<◌, Bool, true, false, not, ◌||◌, List, [], ◌∷◌, find, Option, Some, None, is_some, refl, ap, sym, inl, inr, arith}
use Rattle.std.specs.Prelude.{nat_lt, ◌==◌}
use Rattle.std.specs.List.{list_any, AllByRecursion}
use Rattle.std.proofs.lemmas.Bool.{eq-eqb, eqb-true, ltb-true, lt-ltb, cases_Bool, and_parts, and_from, or_cases, or_left, or_right, or_parts, true≢false, false_from_ne_true, and_right}
use Rattle.affinity.specs.Interval.{IsAffinity, contains}
use Rattle.affinity.specs.declared.geometry.Geometry.{Geometry}
use Rattle.run_queue.specs.RunQueue.{are_related_intervals, is_free_of, has_number}
use Rattle.run_queue.specs.Order.{Ascend, waits_for, is_conflict_free}
use Rattle.run_queue.specs.RelatedNumbers.{is_before, conflicts_at}
use Rattle.run_queue.specs.declared.queued_message.QueuedMessage.{QueuedMessage}
use Rattle.run_queue.proofs.AffinitiesAbove.{AreAbove}
use Rattle.run_queue.proofs.Finds.{find-cons, find-skip, find-all, find-passes, any-found}

-- ---- what is found

pub has_own : (t : QueuedMessage) → has_number t.affinity.number t ≡ true
has_own t = eq-eqb t.affinity.number t.affinity.number refl

-- whether a number is that of a related affinity
abbrev pub is_near : QueuedMessage → List ℕ → ℕ → Bool
is_near t above m = contains t.affinity m || list_any (λ n. n == m) above

-- ---- no message at a related affinity keeps t back

module _ (g : Geometry) (t : QueuedMessage) (above : List ℕ) (are : AreAbove g t.affinity above) where
  near : (d : QueuedMessage) → IsAffinity g d.affinity → are_related_intervals t.affinity d.affinity ≡ true → is_near t above d.affinity.number ≡ true
  near d placed h = sym (are d.affinity placed) ∙ h

  none_held : (ds : List QueuedMessage) → AllByRecursion (λ d. IsAffinity g d.affinity) ds
      → ((m : ℕ) → is_near t above m ≡ true → find (has_number m) ds ≡ None)
      → list_any (λ other. are_related_intervals t.affinity other.affinity) ds ≡ false
  none_held [] placed none = refl
  none_held (d ∷ ds) placed none = elim (cases_Bool (are_related_intervals t.affinity d.affinity)) [
    | inl k ↦ absurd (let here = none d.affinity.number (near d placed.0 k) in
        let there = find-cons (has_number d.affinity.number) d ds (has_own d) in cc)
    | inr k ↦ rw k (none_held ds placed.1 (λ m close. elim (cases_Bool (has_number m d)) [
      | inl is ↦ absurd (let here = none m close in let there = find-cons (has_number m) d ds is in cc)
      | inr other ↦ sym (find-skip (has_number m) d ds other) ∙ none m close
    ]))
  ]

  before_found : (ds : List QueuedMessage) (d : QueuedMessage) (m : ℕ) → AllByRecursion (λ u. d.ticket < u.ticket) ds → nat_lt d.ticket t.ticket ≡ false
      → is_before t.ticket (find (has_number m) ds) ≡ false
  before_found ds d m later not_less = by (find (has_number m) ds) refl
    where
      by : (o : Option QueuedMessage) → find (has_number m) ds ≡ o → is_before t.ticket o ≡ false
      by None is = refl
      by (Some u) is =
          let more = find-all (λ u. d.ticket < u.ticket) (has_number m) ds u later is in
          false_from_ne_true (nat_lt u.ticket t.ticket) (λ less.
          let below = ltb-true u.ticket t.ticket less in
          true≢false (sym (lt-ltb d.ticket t.ticket (omega (arith, more, below))) ∙ not_less))

  none_waits : (ds : List QueuedMessage) → AllByRecursion (λ d. IsAffinity g d.affinity) ds → Ascend ds
      → ((m : ℕ) → is_near t above m ≡ true → is_before t.ticket (find (has_number m) ds) ≡ false)
      → list_any (waits_for t) ds ≡ false
  none_waits [] placed ascends none = refl
  none_waits (d ∷ ds) placed ascends none = elim (cases_Bool (waits_for t d)) [
    | inl k ↦ absurd (let parts = and_parts (nat_lt d.ticket t.ticket) (are_related_intervals t.affinity d.affinity) k in
        let here = none d.affinity.number (near d placed.0 parts.1) in
        let there = ap (λ (o : Option QueuedMessage). is_before t.ticket o) (find-cons (has_number d.affinity.number) d ds (has_own d)) in
        true≢false (sym parts.0 ∙ sym there ∙ here))
    | inr k ↦ rw k (none_waits ds placed.1 ascends.1 (λ m close. elim (cases_Bool (has_number m d)) [
      | inl is ↦ before_found ds d m ascends.0
          (sym (ap (λ (o : Option QueuedMessage). is_before t.ticket o) (find-cons (has_number m) d ds is)) ∙ none m close)
      | inr other ↦ sym (ap (λ (o : Option QueuedMessage). is_before t.ticket o) (find-skip (has_number m) d ds other)) ∙ none m close
    ]))
  ]

  no_one : (o : Option QueuedMessage) → is_some o ≡ false → o ≡ None
  no_one None h = refl
  no_one (Some u) h = absurd (true≢false h)

  pub clear-if : (held waiting : List QueuedMessage) → AllByRecursion (λ d. IsAffinity g d.affinity) held
      → AllByRecursion (λ d. IsAffinity g d.affinity) waiting → Ascend waiting
      → ((m : ℕ) → is_near t above m ≡ true → conflicts_at held waiting t.ticket m ≡ false) → is_conflict_free held waiting t ≡ true
  clear-if held waiting held_placed placed ascends none =
      let free = none_held held held_placed (λ m close. no_one _ (or_parts _ _ (none m close)).0) in
      let first = none_waits waiting placed ascends (λ m close. (or_parts _ _ (none m close)).1) in
      rw (free, first) refl

  -- ---- a message at a related affinity does

  barred-held : (held : List QueuedMessage) (m : ℕ) → AllByRecursion (λ d. IsAffinity g d.affinity) held → is_near t above m ≡ true
      → is_some (find (has_number m) held) ≡ true → list_any (λ other. are_related_intervals t.affinity other.affinity) held ≡ true
  barred-held held m placed close some = by (find (has_number m) held) refl some
    where
      by : (o : Option QueuedMessage) → find (has_number m) held ≡ o → is_some o ≡ true → list_any (λ other. are_related_intervals t.affinity other.affinity) held ≡ true
      by None is h = absurd (true≢false (sym h))
      by (Some d) is h =
          let at = eqb-true d.affinity.number m (find-passes (has_number m) held d is) in
          let there = find-all (λ u. IsAffinity g u.affinity) (has_number m) held d placed is in
          any-found (has_number m) (λ other. are_related_intervals t.affinity other.affinity) held d is
          (are d.affinity there ∙ ap (λ k. is_near t above k) at ∙ close)

  barred-waiting : (waiting : List QueuedMessage) (m : ℕ) → AllByRecursion (λ d. IsAffinity g d.affinity) waiting → is_near t above m ≡ true
      → is_before t.ticket (find (has_number m) waiting) ≡ true → list_any (waits_for t) waiting ≡ true
  barred-waiting waiting m placed close some = by (find (has_number m) waiting) refl some
    where
      by : (o : Option QueuedMessage) → find (has_number m) waiting ≡ o → is_before t.ticket o ≡ true → list_any (waits_for t) waiting ≡ true
      by None is h = absurd (true≢false (sym h))
      by (Some d) is h =
          let at = eqb-true d.affinity.number m (find-passes (has_number m) waiting d is) in
          let there = find-all (λ u. IsAffinity g u.affinity) (has_number m) waiting d placed is in
          any-found (has_number m) (waits_for t) waiting d is
          (and_from _ _ h (are d.affinity there ∙ ap (λ k. is_near t above k) at ∙ close))

  pub clear-if_not : (held waiting : List QueuedMessage) (m : ℕ) → AllByRecursion (λ d. IsAffinity g d.affinity) held
      → AllByRecursion (λ d. IsAffinity g d.affinity) waiting → is_near t above m ≡ true
      → conflicts_at held waiting t.ticket m ≡ true → is_conflict_free held waiting t ≡ false
  clear-if_not held waiting m held_placed placed close some = elim (or_cases _ _ some) [
    | inl k ↦ rw (barred-held held m held_placed close k) refl
    | inr k ↦ rw (barred-waiting waiting m placed close k) (and_right (is_free_of held t) false refl)
  ]

-- ---- among numbers

pub near-found : (p : ℕ → Bool) (ns : List ℕ) → list_any p ns ≡ true → (m : ℕ) × (list_any (λ n. n == m) ns ≡ true) × (p m ≡ true)
near-found p [] h = absurd (true≢false (sym h))
near-found p (n ∷ ns) h = elim (or_cases (p n) (list_any p ns) h) [
  | inl k ↦ (n, or_left _ _ (eq-eqb n n refl), k)
  | inr k ↦ (let rest = near-found p ns k in (rest.0, or_right _ _ rest.1, rest.2))
]

pub near-none : (p : ℕ → Bool) (ns : List ℕ) (m : ℕ) → list_any p ns ≡ false → list_any (λ n. n == m) ns ≡ true → p m ≡ false
near-none p [] m none h = absurd (true≢false (sym h))
near-none p (n ∷ ns) m none h =
    let parts = or_parts (p n) (list_any p ns) none in
    elim (or_cases (n == m) (list_any (λ k. k == m) ns) h) [
      | inl k ↦ ap p (sym (eqb-true n m k)) ∙ parts.0
      | inr k ↦ near-none p ns m parts.1 k
    ]

module _ (g : Geometry) (t : QueuedMessage) (above : List ℕ) (are : AreAbove g t.affinity above) (held waiting : List QueuedMessage)
    (held_placed : AllByRecursion (λ d. IsAffinity g d.affinity) held) (placed : AllByRecursion (λ d. IsAffinity g d.affinity) waiting)
    (ascends : Ascend waiting) where
  pub clear-by_above : ((n : ℕ) → contains t.affinity n ≡ true → conflicts_at held waiting t.ticket n ≡ false) → (r : Bool)
      → r ≡ list_any (conflicts_at held waiting t.ticket) above → not r ≡ is_conflict_free held waiting t
  clear-by_above below true is =
      let found = near-found (conflicts_at held waiting t.ticket) above (sym is) in
      sym (clear-if_not g t above are held waiting found.0 held_placed placed (or_right _ _ found.1) found.2)
  clear-by_above below false is = sym (clear-if g t above are held waiting held_placed placed ascends (λ m close. elim (or_cases _ _ close) [
    | inl k ↦ below m k
    | inr k ↦ near-none (conflicts_at held waiting t.ticket) above m (sym is) k
  ]))

  pub clear-by_below : (n : ℕ) × (contains t.affinity n ≡ true) × (conflicts_at held waiting t.ticket n ≡ true) → is_conflict_free held waiting t ≡ false
  clear-by_below some = clear-if_not g t above are held waiting some.0 held_placed placed (or_left _ _ some.1) some.2
