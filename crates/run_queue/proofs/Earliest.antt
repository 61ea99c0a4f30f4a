-- The message that `next` gives is the earliest of those that may be dispatched at each affinity number.
use Rattle.std.proofs.Common.{◌≡◌, ◌∙◌, ℕ, zero, suc, ◌+◌, ◌<◌, ◌≤◌, min, Bool, true, false, ◌&&◌, ◌||◌, List, [], ◌∷◌, find, Option, Some, None, refl, ap, sym, inl, inr, arith}
use Rattle.std.specs.Prelude.{nat_lt, ◌==◌, if◌then◌else◌}
use Rattle.std.specs.List.{list_any, AllByRecursion}
use Rattle.std.proofs.lemmas.Bool.{eq-eqb, ne_eqb, eqb-true, ltb-true, lt-ltb, cases_Bool, cases_eq, and_parts, and_from, or_left, or_right, or_parts, true≢false, false_from_ne_true, not-true}
use Rattle.std.proofs.lemmas.Bool.Decides.{leb_tells}
use Rattle.std.proofs.Math.Nat.{min-eq_left, min-eq_right, min-le_left, min-le_right}
use Rattle.std.proofs.Math.Bool.{or-false}
use Rattle.affinity.specs.Interval.{IsAffinity, contains, affinity_count}
use Rattle.affinity.specs.declared.geometry.Geometry.{Geometry}
use Rattle.run_queue.specs.RunQueue.{are_related_intervals, is_free_of, has_room, has_number, next_queued}
use Rattle.run_queue.specs.ReadyTable.{earliest_from, if_passes, ready_in, rank_of}
use Rattle.run_queue.specs.Order.{Ascend, waits_for, is_conflict_free, earlier}
use Rattle.run_queue.specs.declared.queued_message.QueuedMessage.{QueuedMessage}
use Rattle.run_queue.specs.declared.ready_table.TheConstants.{LAST_RANK}
use Rattle.run_queue.proofs.ByTicket.{next_is_first}
use Rattle.run_queue.proofs.AffinitiesAbove.{contains-own, number-below}
use Rattle.run_queue.proofs.ConflictsByNumber.{has_own}
use Rattle.run_queue.proofs.Finds.{find-same, find-none, find-cons, find-skip, find-all, find-passes}

-- the first waiting message at this affinity number that may be dispatched, by whether the log has room
abbrev pub dispatchable_at : Bool → List QueuedMessage → List QueuedMessage → ℕ → Option QueuedMessage
dispatchable_at room held waiting n = find (λ t. has_number n t && (has_room room t && is_conflict_free held waiting t)) waiting

-- ---- the first message that passes a test

keeps : (o : Option QueuedMessage) (t : QueuedMessage) → ((d : QueuedMessage) → o ≡ Some d → t.ticket < d.ticket) → earlier (Some t) o ≡ Some t
keeps None t later = refl
keeps (Some d) t later =
    let more = later d refl in
    rw (false_from_ne_true (nat_lt d.ticket t.ticket) (λ less. let below = ltb-true d.ticket t.ticket less in omega (arith, more, below))) refl

takes : (o : Option QueuedMessage) (t : QueuedMessage) → ((d : QueuedMessage) → o ≡ Some d → t.ticket < d.ticket) → earlier o (Some t) ≡ Some t
takes None t later = refl
takes (Some d) t later = rw (lt-ltb t.ticket d.ticket (later d refl)) refl

itself : (t : QueuedMessage) → earlier (Some t) (Some t) ≡ Some t
itself t = rw (false_from_ne_true (nat_lt t.ticket t.ticket) (λ less. let below = ltb-true t.ticket t.ticket less in omega (arith, below))) refl

-- a message with a rank above that of the best one so far (o) is passed over
pub passed : (p : QueuedMessage → Bool) (o m : Option QueuedMessage) → min (rank_of o) LAST_RANK < rank_of m → earlier o (if_passes p m) ≡ o
passed p o None later = refl
passed p None (Some t) later = absurd (let low = min-le_right t.ticket LAST_RANK in omega (arith, later, low))
passed p (Some d) (Some t) later = by (p t)
  where
    is_later : d.ticket < t.ticket
    is_later = elim (leb_tells d.ticket LAST_RANK) [
      | inl e ↦ (let first = min-eq_left e.1 in let low = min-le_left t.ticket LAST_RANK in
          omega (arith, later, ap (λ (k : ℕ). min k LAST_RANK) first, first, low))
      | inr e ↦ absurd (let first = min-eq_right (let above = e.1 in let upper : LAST_RANK ≤ d.ticket = omega (arith, above) in upper) in let low = min-le_right t.ticket LAST_RANK in
          omega (arith, later, ap (λ (k : ℕ). min k LAST_RANK) first, (let itself : LAST_RANK ≤ LAST_RANK = omega arith in min-eq_left itself), low))
    ]

    by : (b : Bool) → earlier (Some d) (if b then Some t else None) ≡ Some d
    by false = refl
    by true = rw (false_from_ne_true (nat_lt t.ticket d.ticket) (λ less. let below = ltb-true t.ticket d.ticket less in omega (arith, is_later, below))) refl

-- n entries are passed over if all their ranks are above
pub all-passed : (p : QueuedMessage → Bool) (ready_table : List (Option QueuedMessage)) (from n : ℕ) (o : Option QueuedMessage)
    → ((i : ℕ) → i < n → min (rank_of o) LAST_RANK < rank_of (ready_in ready_table (from + i))) → earliest_from p ready_table from n o ≡ o
all-passed p ready_table from zero o later = refl
all-passed p ready_table from (suc n) o later =
    ap (λ (best : Option QueuedMessage). earlier best (if_passes p (ready_in ready_table (from + n)))) (all-passed p ready_table from n o (λ i below. later i (omega (arith, below))))
    ∙ passed p o (ready_in ready_table (from + n)) (later n (omega arith))

-- the first message that passes one of two tests is the earlier of the two that are first to pass each
find-either : (p q : QueuedMessage → Bool) (ts : List QueuedMessage) → Ascend ts → find (λ t. p t || q t) ts ≡ earlier (find p ts) (find q ts)
find-either p q [] ascends = refl
find-either p q (t ∷ ts) ascends = elim (cases_Bool (p t)) [
  | inl k ↦ find-cons (λ u. p u || q u) t ts (or_left (p t) (q t) k) ∙ sym (elim (cases_Bool (q t)) [
    | inl l ↦ ap (λ (o : Option QueuedMessage). earlier o (find q (t ∷ ts))) (find-cons p t ts k)
        ∙ ap (λ (o : Option QueuedMessage). earlier (Some t) o) (find-cons q t ts l) ∙ itself t
    | inr l ↦ ap (λ (o : Option QueuedMessage). earlier o (find q (t ∷ ts))) (find-cons p t ts k)
        ∙ ap (λ (o : Option QueuedMessage). earlier (Some t) o) (find-skip q t ts l)
        ∙ keeps (find q ts) t (λ d is. find-all (λ u. t.ticket < u.ticket) q ts d ascends.0 is)
  ])
  | inr k ↦ elim (cases_Bool (q t)) [
    | inl l ↦ find-cons (λ u. p u || q u) t ts (or_right (p t) (q t) l) ∙ sym (
        ap (λ (o : Option QueuedMessage). earlier o (find q (t ∷ ts))) (find-skip p t ts k)
        ∙ ap (λ (o : Option QueuedMessage). earlier (find p ts) o) (find-cons q t ts l)
        ∙ takes (find p ts) t (λ d is. find-all (λ u. t.ticket < u.ticket) p ts d ascends.0 is))
    | inr l ↦ find-skip (λ u. p u || q u) t ts (ap (λ b. b || q t) k ∙ l) ∙ find-either p q ts ascends.1 ∙ sym (
        ap (λ (o : Option QueuedMessage). earlier o (find q (t ∷ ts))) (find-skip p t ts k)
        ∙ ap (λ (o : Option QueuedMessage). earlier (find p ts) o) (find-skip q t ts l))
  ]
]

-- ---- a conflict-free message is the first at its number

pub own_overlap : (g : Geometry) (t d : QueuedMessage) → IsAffinity g t.affinity → t.affinity.number ≡ d.affinity.number → are_related_intervals t.affinity d.affinity ≡ true
own_overlap g t d placed same = or_left _ _ (ap (λ n. contains t.affinity n) (sym same) ∙ contains-own g t.affinity placed)

first_in : (g : Geometry) (t : QueuedMessage) (p : QueuedMessage → Bool) (ts : List QueuedMessage) → IsAffinity g t.affinity → Ascend ts → find p ts ≡ Some t
    → list_any (waits_for t) ts ≡ false → find (has_number t.affinity.number) ts ≡ Some t
first_in g t p [] placed ascends found none = absurd (cc)
first_in g t p (d ∷ ts) placed ascends found none = elim (cases_Bool (p d)) [
  | inl k ↦ (let is = sym (find-cons p d ts k) ∙ found in let same : d ≡ t = cc in
      find-cons (has_number t.affinity.number) d ts (ap (λ (u : QueuedMessage). has_number t.affinity.number u) same ∙ has_own t) ∙ ap (λ (u : QueuedMessage). Some u) same)
  | inr k ↦ (let rest = sym (find-skip p d ts k) ∙ found in
      let parts = or_parts (waits_for t d) (list_any (waits_for t) ts) none in
      let later = find-all (λ u. d.ticket < u.ticket) p ts t ascends.0 rest in
      let other = ne_eqb d.affinity.number t.affinity.number (λ same. true≢false
      (sym (and_from (nat_lt d.ticket t.ticket) _ (lt-ltb d.ticket t.ticket later) (own_overlap g t d placed (sym same))) ∙ parts.0)) in
      find-skip (has_number t.affinity.number) d ts other ∙ first_in g t p ts placed ascends.1 rest parts.1)
]

pub clear-first : (g : Geometry) (held waiting : List QueuedMessage) {t : QueuedMessage} (p : QueuedMessage → Bool) → AllByRecursion (λ d. IsAffinity g d.affinity) waiting
    → Ascend waiting → find p waiting ≡ Some t → is_conflict_free held waiting t ≡ true → find (has_number t.affinity.number) waiting ≡ Some t
clear-first g held waiting {t} p placed ascends found clear =
    first_in g t p waiting (find-all (λ d. IsAffinity g d.affinity) p waiting t placed found) ascends found
    (not-true _ (and_parts (is_free_of held t) _ clear).1)

-- the first message that may be dispatched at an affinity number below n
abbrev pub first_below : Bool → List QueuedMessage → List QueuedMessage → ℕ → Option QueuedMessage
first_below room held waiting n = find (λ t. nat_lt t.affinity.number n && (has_room room t && is_conflict_free held waiting t)) waiting

-- ---- the message that may be dispatched at a number

some_first : (p q : QueuedMessage → Bool) (ts : List QueuedMessage) (t : QueuedMessage) → find p ts ≡ Some t → q t ≡ true → find (λ u. p u && q u) ts ≡ Some t
some_first p q [] t found good = absurd (cc)
some_first p q (d ∷ ts) t found good = elim (cases_Bool (p d)) [
  | inl k ↦ (let is = sym (find-cons p d ts k) ∙ found in let same : d ≡ t = cc in
      find-cons (λ u. p u && q u) d ts (and_from (p d) (q d) k (ap q same ∙ good)) ∙ ap (λ (u : QueuedMessage). Some u) same)
  | inr k ↦ find-skip (λ u. p u && q u) d ts (ap (λ b. b && q d) k) ∙ some_first p q ts t (sym (find-skip p d ts k) ∙ found) good
]

module _ (g : Geometry) (room : Bool) (held waiting : List QueuedMessage) (placed : AllByRecursion (λ d. IsAffinity g d.affinity) waiting)
    (ascends : Ascend waiting) where
  -- where the first message at a number may not be dispatched, none there may
  pub none_at : (n : ℕ) (f : QueuedMessage) → find (has_number n) waiting ≡ Some f → (has_room room f && is_conflict_free held waiting f) ≡ false
      → dispatchable_at room held waiting n ≡ None
  none_at n f first not_good = by (dispatchable_at room held waiting n) refl
    where
      by : (o : Option QueuedMessage) → dispatchable_at room held waiting n ≡ o → dispatchable_at room held waiting n ≡ None
      by None is = is
      by (Some u) is =
          let parts = and_parts (has_number n u) _ (find-passes (λ t. has_number n t && (has_room room t && is_conflict_free held waiting t)) waiting u is) in
          let clear = (and_parts (has_room room u) (is_conflict_free held waiting u) parts.1).1 in
          let at = eqb-true u.affinity.number n parts.0 in
          let here = clear-first g held waiting (λ t. has_number n t && (has_room room t && is_conflict_free held waiting t)) placed ascends is clear in
          let there = ap (λ k. find (has_number k) waiting) (sym at) ∙ here in
          let both = sym first ∙ there in
          let same : f ≡ u = cc in
          absurd (true≢false (sym parts.1 ∙ ap (λ (t : QueuedMessage). has_room room t && is_conflict_free held waiting t) (sym same) ∙ not_good))

  pub some_at : (n : ℕ) (f : QueuedMessage) → find (has_number n) waiting ≡ Some f → (has_room room f && is_conflict_free held waiting f) ≡ true
      → dispatchable_at room held waiting n ≡ Some f
  some_at n f first good = some_first (has_number n) (λ t. has_room room t && is_conflict_free held waiting t) waiting f first good

  no_first : (p q : QueuedMessage → Bool) (ts : List QueuedMessage) → find p ts ≡ None → find (λ u. p u && q u) ts ≡ None
  no_first p q [] none = refl
  no_first p q (d ∷ ts) none = elim (cases_Bool (p d)) [
    | inl k ↦ absurd (let is = sym (find-cons p d ts k) ∙ none in cc)
    | inr k ↦ find-skip (λ u. p u && q u) d ts (ap (λ b. b && q d) k) ∙ no_first p q ts (sym (find-skip p d ts k) ∙ none)
  ]

  pub empty_at : (n : ℕ) → find (has_number n) waiting ≡ None → dispatchable_at room held waiting n ≡ None
  empty_at n none = no_first (has_number n) (λ t. has_room room t && is_conflict_free held waiting t) waiting none

  -- ---- over all numbers

  pub below-start : None ≡ first_below room held waiting 0
  below-start = sym (find-none (λ t. nat_lt t.affinity.number 0 && (has_room room t && is_conflict_free held waiting t))
      (λ t. ap (λ b. b && (has_room room t && is_conflict_free held waiting t)) (never t.affinity.number)) waiting)
    where
      never : (n : ℕ) → nat_lt n 0 ≡ false
      never n = false_from_ne_true (nat_lt n 0) (λ less. let under = ltb-true n 0 less in omega (arith, under))

  less_suc : (a n : ℕ) (b : Bool) → (nat_lt a (n + 1) && b) ≡ ((nat_lt a n && b) || ((a == n) && b))
  less_suc a n b = elim (leb_tells (suc a) n) [
    | inl e ↦ rw (e.0, lt-ltb a (n + 1) (omega (arith, e.1)), ne_eqb a n (λ same. omega (arith, same, e.1))) (sym (or-false b))
    | inr e ↦ elim (cases_eq a n) [
      | inl same ↦ rw (e.0, lt-ltb a (n + 1) (omega (arith, same)), eq-eqb a n same) refl
      | inr other ↦ rw (
        e.0,
        ne_eqb a n other,
        false_from_ne_true (nat_lt a (n + 1)) (λ less. let under = ltb-true a (n + 1) less in omega (arith, under, other, e.1)),
      ) refl
    ]
  ]

  pub below-step : (n : ℕ) → first_below room held waiting (n + 1) ≡ earlier (first_below room held waiting n) (dispatchable_at room held waiting n)
  below-step n =
      find-same _ (λ t. (nat_lt t.affinity.number n && (has_room room t && is_conflict_free held waiting t))
      || (has_number n t && (has_room room t && is_conflict_free held waiting t))) (λ t. less_suc t.affinity.number n _) waiting
      ∙ find-either _ _ waiting ascends

  all_below : (n : ℕ) (ts : List QueuedMessage) (p : QueuedMessage → Bool) → AllByRecursion (λ t. t.affinity.number < n) ts
      → find (λ t. nat_lt t.affinity.number n && p t) ts ≡ find p ts
  all_below n [] p low = refl
  all_below n (t ∷ ts) p low =
      let is : (nat_lt t.affinity.number n && p t) ≡ p t = ap (λ b. b && p t) (lt-ltb t.affinity.number n low.0) in
      elim (cases_Bool (p t)) [
        | inl k ↦ find-cons (λ t. nat_lt t.affinity.number n && p t) t ts (is ∙ k) ∙ sym (find-cons p t ts k)
        | inr k ↦ find-skip (λ t. nat_lt t.affinity.number n && p t) t ts (is ∙ k) ∙ all_below n ts p low.1 ∙ sym (find-skip p t ts k)
      ]

  low : (n : ℕ) → affinity_count g ≤ n → (ts : List QueuedMessage) → AllByRecursion (λ d. IsAffinity g d.affinity) ts → AllByRecursion (λ t. t.affinity.number < n) ts
  low n past [] h = tt
  low n past (t ∷ ts) h = ((let below = number-below g t.affinity h.0 in omega (arith, below, past)), low n past ts h.1)

  pub below-all : (n : ℕ) → affinity_count g ≤ n → first_below room held waiting n ≡ next_queued room held waiting
  below-all n past =
      all_below n waiting (λ t. has_room room t && is_conflict_free held waiting t) (low n past waiting placed)
      ∙ sym (next_is_first room held waiting ascends)
