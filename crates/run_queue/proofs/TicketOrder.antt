-- Lists in the order of tickets.
use Rattle.std.proofs.lemmas.Grind.{common_steps}
use Rattle.std.proofs.Common.{◌≡◌, ◌∙◌, ℕ, zero, suc, ◌<◌, ◌≤◌, Bool, true, List, [], ◌∷◌, ◌++◌, filter, Option, Some, None, refl, ap, inl, inr, arith, length, slice_index_or}
use Rattle.std.specs.Prelude.{slice_set}
use Rattle.std.specs.List.{AllByRecursion}
use Rattle.std.proofs.lemmas.Bool.{eq-eqb, lt-ltb}
use Rattle.std.proofs.lemmas.Bool.Decides.{eqb_tells}
use Rattle.arena.proofs.Counts.{count_of-cons_is, count_of-cons_other}
use Rattle.run_queue.specs.RunQueue.{without_slot, CameBefore}
use Rattle.run_queue.specs.Slots.{slots_in, count_in_slot}
use Rattle.run_queue.specs.Order.{Ascend}
use Rattle.run_queue.specs.Queues.{present, insert, by_ticket}
use Rattle.run_queue.specs.declared.queued_message.QueuedMessage.{QueuedMessage}

-- ---- all of a list

pub all-insert : (P : QueuedMessage → Type 0) (t : QueuedMessage) (ts : List QueuedMessage) → AllByRecursion P (insert t ts) → P t × AllByRecursion P ts
all-insert P t [] h = (h.0, tt)
all-insert P t (d ∷ ts) h = grind (arith, common_steps, all-insert P t ts)

ascend-insert : (t : QueuedMessage) (ts : List QueuedMessage) → Ascend (insert t ts) → Ascend ts
ascend-insert t [] h = tt
ascend-insert t (d ∷ ts) h = grind (arith, common_steps, ascend-insert t ts, all-insert)

pub all-filter : (P : QueuedMessage → Type 0) (p : QueuedMessage → Bool) (ts : List QueuedMessage) → AllByRecursion P ts → AllByRecursion P (filter p ts)
all-filter P p [] h = tt
all-filter P p (t ∷ ts) h = grind (arith, common_steps, all-filter P p ts h.1)

pub ascend-filter : (p : QueuedMessage → Bool) (ts : List QueuedMessage) → Ascend ts → Ascend (filter p ts)
ascend-filter p [] h = tt
ascend-filter p (t ∷ ts) h = grind (arith, common_steps, ascend-filter p ts h.1, all-filter)

pub all-last : (P : QueuedMessage → Type 0) (ts : List QueuedMessage) (t : QueuedMessage) → AllByRecursion P ts → P t → AllByRecursion P (ts ++ t ∷ [])
all-last P [] t h k = (k, tt)
all-last P (d ∷ ts) t h k = (h.0, all-last P ts t h.1 k)

pub ascend-last : (ts : List QueuedMessage) (t : QueuedMessage) → Ascend ts → CameBefore t.ticket ts → Ascend (ts ++ t ∷ [])
ascend-last [] t h before = (tt, tt)
ascend-last (d ∷ ts) t h before = (all-last (λ u. d.ticket < u.ticket) ts t h.0 before.0, ascend-last ts t h.1 before.1)

-- ---- how long lists are, and how often a slot occurs in them

length-insert : (t : QueuedMessage) (ts : List QueuedMessage) → length (insert t ts) ≡ suc (length ts)
length-insert t [] = refl
length-insert t (d ∷ ts) = grind (arith, common_steps, length-insert t ts)

length-by_ticket : (ts : List QueuedMessage) → length (by_ticket ts) ≡ length ts
length-by_ticket [] = refl
length-by_ticket (t ∷ ts) = length-insert t (by_ticket ts) ∙ ap (λ k. suc k) (length-by_ticket ts)

-- where each entry has a message, there are as many messages as entries
length-full : (entries : List (Option QueuedMessage)) → ((i : ℕ) → i < length entries → slice_index_or entries i None ≡ None → ⊥)
    → length (present entries) ≡ length entries
length-full [] full = refl
length-full (None ∷ entries) full = absurd (full 0 (omega arith) refl)
length-full (Some t ∷ entries) full = ap (λ k. suc k) (length-full entries (λ i below none. full (suc i) (omega arith) none))

pub length-all : (entries : List (Option QueuedMessage)) → ((i : ℕ) → i < length entries → slice_index_or entries i None ≡ None → ⊥)
    → length (by_ticket (present entries)) ≡ length entries
length-all entries full = length-by_ticket (present entries) ∙ length-full entries full

count_in_slot-insert : (s : ℕ) (t : QueuedMessage) (ts : List QueuedMessage) → count_in_slot s (insert t ts) ≡ count_in_slot s (t ∷ ts)
count_in_slot-insert s t [] = refl
count_in_slot-insert s t (d ∷ ts) = grind (arith, common_steps, count_in_slot-insert s t ts)

-- ---- one more message

insert-last : (t : QueuedMessage) (ts : List QueuedMessage) → CameBefore t.ticket ts → insert t ts ≡ ts ++ t ∷ []
insert-last t [] before = refl
insert-last t (d ∷ ts) before = grind (arith, common_steps, insert-last t ts before.1)

insert-before : (x t : QueuedMessage) (ts : List QueuedMessage) → x.ticket < t.ticket → insert x (ts ++ t ∷ []) ≡ insert x ts ++ t ∷ []
insert-before x t [] less = rw (lt-ltb x.ticket t.ticket less) refl
insert-before x t (d ∷ ts) less = grind (arith, common_steps, insert-before x t ts less)

-- a message with the greatest ticket, put in an empty entry, is last in the order of tickets
pub order-come : (entries : List (Option QueuedMessage)) (i : ℕ) (t : QueuedMessage) → i < length entries → slice_index_or entries i None ≡ None
    → CameBefore t.ticket (by_ticket (present entries))
    → by_ticket (present (slice_set entries i (Some t))) ≡ by_ticket (present entries) ++ t ∷ []
order-come [] i t below empty before = absurd (omega arith)
order-come (None ∷ entries) zero t below empty before = insert-last t (by_ticket (present entries)) before
order-come (Some x ∷ entries) zero t below empty before = absurd (cc)
order-come (None ∷ entries) (suc i) t below empty before = order-come entries i t (omega arith) empty before
order-come (Some x ∷ entries) (suc i) t below empty before = grind (arith, common_steps, order-come entries i t, all-insert, insert-before)

-- ---- one message less

pub without-absent : (s : ℕ) (ts : List QueuedMessage) → count_in_slot s ts ≡ 0 → without_slot s ts ≡ ts
without-absent s [] none = refl
without-absent s (t ∷ ts) none = grind (arith, common_steps, without-absent s ts)

without-insert_same : (s : ℕ) (x : QueuedMessage) (ts : List QueuedMessage) → x.slot ≡ s → count_in_slot s ts ≡ 0 → without_slot s (insert x ts) ≡ ts
without-insert_same s x [] same none = rw (eq-eqb x.slot s same) refl
without-insert_same s x (d ∷ ts) same none =
    grind (arith, common_steps, without-insert_same s x ts same, count_of-cons_is, eq-eqb, without-absent, count_of-cons_other)

insert-first : (x : QueuedMessage) (ts : List QueuedMessage) → AllByRecursion (λ d. x.ticket < d.ticket) ts → insert x ts ≡ x ∷ ts
insert-first x [] h = refl
insert-first x (d ∷ ts) h = rw (lt-ltb x.ticket d.ticket h.0) refl

all-above : (x d : QueuedMessage) (ts : List QueuedMessage) → x.ticket < d.ticket → AllByRecursion (λ u. d.ticket < u.ticket) ts
    → AllByRecursion (λ u. x.ticket < u.ticket) ts
all-above x d [] less h = tt
all-above x d (u ∷ ts) less h = let first = h.0 in (omega (arith, first), all-above x d ts less h.1)

filter-insert : (p : QueuedMessage → Bool) (x : QueuedMessage) (ts : List QueuedMessage) → Ascend ts → p x ≡ true
    → filter p (insert x ts) ≡ insert x (filter p ts)
filter-insert p x [] ascends k = rw k refl
filter-insert p x (d ∷ ts) ascends k = grind (arith, common_steps, filter-insert p x ts ascends.1 k, all-above, insert-first, all-filter)

there-at : (entries : List (Option QueuedMessage)) (i : ℕ) (t : QueuedMessage) → slice_index_or entries i None ≡ Some t
    → 1 ≤ count_in_slot t.slot (by_ticket (present entries))
there-at [] i t h = absurd (cc)
there-at (None ∷ entries) zero t h = absurd (cc)
there-at (Some x ∷ entries) zero t h = grind (arith, common_steps, count_in_slot-insert, count_of-cons_is)
there-at (None ∷ entries) (suc i) t h = there-at entries i t h
there-at (Some x ∷ entries) (suc i) t h =
    grind (arith, common_steps, there-at entries i t h, count_in_slot-insert, count_of-cons_is, count_of-cons_other)

-- a message whose entry is emptied is gone, and the others stay in order
pub order-leave : (entries : List (Option QueuedMessage)) (i : ℕ) (t : QueuedMessage) → slice_index_or entries i None ≡ Some t
    → count_in_slot t.slot (by_ticket (present entries)) ≤ 1 → Ascend (by_ticket (present entries))
    → by_ticket (present (slice_set entries i None)) ≡ without_slot t.slot (by_ticket (present entries))
order-leave [] i t there once ascends = absurd (cc)
order-leave (None ∷ entries) zero t there once ascends = absurd (cc)
order-leave (Some x ∷ entries) zero t there once ascends = grind (arith, common_steps, count_in_slot-insert, without-insert_same, count_of-cons_is)
order-leave (None ∷ entries) (suc i) t there once ascends = order-leave entries i t there once ascends
order-leave (Some x ∷ entries) (suc i) t there once ascends =
    let ws = by_ticket (present entries) in
    let count = count_in_slot-insert t.slot x ws in
    let rest = there-at entries i t there in
    elim (eqb_tells x.slot t.slot) [
      | inl e ↦ absurd (omega (arith, once, count, rest, count_of-cons_is t.slot x.slot (slots_in ws) e.1))
      | inr n ↦ grind (arith, common_steps, order-leave entries i t there, count_of-cons_other, ascend-insert, filter-insert)
    ]
