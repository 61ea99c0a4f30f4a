-- How the queues change on the arena's chains.
use Rattle.std.proofs.lemmas.Grind.{common_steps}
use Rattle.std.proofs.Common.{◌≡◌, ◌≢◌, ◌∙◌, ℕ, zero, suc, ◌+◌, ◌<◌, ◌≤◌, Bool, true, not, List, [], ◌∷◌, ◌++◌, map, filter, find, Option, Some, None, Ok, is_some, refl, ap, sym, subst, inl, inr, arith, length, slice_index_or}
use Rattle.std.specs.Prelude.{slice_set, replicate}
use Rattle.std.specs.List.{concat}
use Rattle.std.proofs.lemmas.Bool.{eq-eqb, ne_eqb, lt-ltb, cases_eq, true≢false, and_from}
use Rattle.std.proofs.lemmas.List.{length-set, length-replicate, get_or-set_same, length-map, map-append, append-nil}
use Rattle.std.proofs.lemmas.List.Elements.{filter-append}
use Rattle.arena.specs.Lists.{first_of, without, numbers_from}
use Rattle.arena.specs.Lists.{count_of}
use Rattle.arena.specs.ArenaView.{ArenaView, IsPartitioned, capacity_of, value_at, chain_at, front_of, moved, listed, empty_arena, put_answer, after_put, after_move, after_take}
use Rattle.arena.proofs.Counts.{count_of-append as on-append, count_of-cons_is as on-cons_is, count_of-at as on-at, without-absent as on-absent}
use Rattle.arena.proofs.ArenaLemmas.{chain-without, chain-moved_same, chain-moved_other, length-moved, chained-holds, chained-apart, front-chained, chain-front}
use Rattle.run_queue.specs.RunQueue.{has_slot, has_number, without_slot, CameBefore}
use Rattle.run_queue.specs.Slots.{slots_in, count_in_slot}
use Rattle.run_queue.specs.Order.{Ascend}
use Rattle.run_queue.specs.Queues.{Waiting, present, by_ticket, waiting_in, queued_in, IsQueued}
use Rattle.run_queue.specs.declared.queued_message.QueuedMessage.{QueuedMessage}
use Rattle.run_queue.proofs.SlotCounts.{count_in_slot-filter}
use Rattle.run_queue.proofs.TicketOrder.{ascend-filter, ascend-last, order-come, order-leave, length-all, without-absent}

-- ---- at the start

pub none_present : (n : ℕ) → present (replicate n None) ≡ []
none_present zero = refl
none_present (suc n) = none_present n

-- whatever is read of a row of the default value is that
pub default_at : {A : Type 0} (count n : ℕ) (x : A) → slice_index_or (replicate count x) n x ≡ x
default_at zero n x = refl
default_at (suc count) zero x = refl
default_at (suc count) (suc n) x = default_at count n x

all_numbers : (from count i : ℕ) → from ≤ i → i < from + count → 0 < count_of i (numbers_from from count)
all_numbers from zero i low high = absurd (omega arith)
all_numbers from (suc count) i low high = grind (arith, common_steps, all_numbers (suc from) count i)

pub start-waiting : (capacity numbers : ℕ) → waiting_in (empty_arena capacity numbers) ≡ []
start-waiting capacity numbers = ap by_ticket (none_present capacity)

pub start-queued : (capacity numbers : ℕ) → IsPartitioned {T = QueuedMessage} (empty_arena capacity numbers) → IsQueued (empty_arena capacity numbers)
start-queued capacity numbers partitioned =
    grind (arith, all_numbers 0 capacity, length-replicate {A = Option QueuedMessage} capacity None, start-waiting capacity numbers, default_at {A = List ℕ} numbers)

-- ---- the first of a queue

head : List QueuedMessage → Option QueuedMessage
head [] = None
head (t ∷ ts) = Some t

find-head : (p : QueuedMessage → Bool) (ts : List QueuedMessage) → find p ts ≡ head (filter p ts)
unfolding head
find-head p [] = refl
find-head p (t ∷ ts) = grind (arith, common_steps, find-head p ts)

some_of : (o : Option QueuedMessage) → is_some o ≡ true → (t : QueuedMessage) × (o ≡ Some t)
some_of None h = absurd (true≢false (sym h))
some_of (Some t) h = (t, refl)

none_first : (is : List ℕ) → first_of is ≡ None → is ≡ []
none_first [] h = refl
none_first (i ∷ is) h = absurd (cc)

pub front-none : (arena : ArenaView QueuedMessage) (n : ℕ) → IsQueued arena → front_of arena n ≡ None → find (has_number n) (waiting_in arena) ≡ None
unfolding head
front-none arena n q none = grind (arith, common_steps, find-head, head, none_first)

-- the first slot of a queue has a message
pub chained-some : (arena : ArenaView QueuedMessage) (n i : ℕ) → IsQueued arena → front_of arena n ≡ Some i → (t : QueuedMessage) × (value_at arena i ≡ Some t)
chained-some arena n i q first = some_of (value_at arena i) (chained-holds arena i n q.partitioned (front-chained arena i n first))

-- a queue is the message in its first slot, and then those in the other slots of its chain
queue-parts : (arena : ArenaView QueuedMessage) (n i : ℕ) (t : QueuedMessage) → IsQueued arena → front_of arena n ≡ Some i → value_at arena i ≡ Some t
    → filter (has_number n) (waiting_in arena) ≡ t ∷ queued_in arena (without i (chain_at arena n))
queue-parts arena n i t q first is = grind (arith, common_steps, chain-front)

pub front-some : (arena : ArenaView QueuedMessage) (n i : ℕ) → IsQueued arena → front_of arena n ≡ Some i → find (has_number n) (waiting_in arena) ≡ value_at arena i
unfolding head
front-some arena n i q first = grind (arith, common_steps, chained-some, find-head, head, queue-parts)

-- ---- the slots of a chain, where another slot changes

map-other : (values : List (Option QueuedMessage)) (i : ℕ) (o : Option QueuedMessage) (is : List ℕ) → count_of i is ≡ 0
    → map (λ j. slice_index_or (slice_set values i o) j None) is ≡ map (λ j. slice_index_or values j None) is
map-other values i o [] none = refl
map-other values i o (j ∷ is) none = grind (arith, common_steps, map-other values i o is)

present-append : (xs ys : List (Option QueuedMessage)) → present (xs ++ ys) ≡ present xs ++ present ys
present-append [] ys = refl
present-append (None ∷ xs) ys = present-append xs ys
present-append (Some t ∷ xs) ys = ap (λ (ts : List QueuedMessage). t ∷ ts) (present-append xs ys)

waiting-same : {a b c d : ℕ} {ts us : List QueuedMessage} → a ≡ b → c ≡ d → ts ≡ us
    → ◌≡◌ {A = Waiting} (record { numbers = a; capacity = c; messages = ts }) (record { numbers = b; capacity = d; messages = us })
waiting-same e f g = rw (e, f, g) refl

-- ---- one more message

pub free-from_put : (arena : ArenaView QueuedMessage) (t : QueuedMessage) (i : ℕ) → put_answer arena t ≡ Ok i → (rest : List ℕ) × (arena.free ≡ i ∷ rest)
free-from_put arena t i answer = grind (arith, common_steps)

abbrev pub pushed : ArenaView QueuedMessage → QueuedMessage → ℕ → List ℕ → ℕ → ArenaView QueuedMessage
pushed arena t i rest n = record { values = slice_set arena.values i (Some t); free = rest; chains = moved arena.chains i n }

module _ (arena : ArenaView QueuedMessage) (t : QueuedMessage) (i : ℕ) (rest : List ℕ) (n : ℕ) (q : IsQueued arena) (first : arena.free ≡ i ∷ rest)
    (there : n < length arena.chains) (number : t.affinity.number ≡ n) (later : CameBefore t.ticket (waiting_in arena)) where
  abbrev after : ArenaView QueuedMessage
  after = pushed arena t i rest n

  is_free : 1 ≤ count_of i arena.free
  is_free = subst (λ (is : List ℕ). 1 ≤ count_of i is) (sym first) (omega (arith, on-cons_is i i rest refl))

  is_listed : 1 ≤ count_of i (listed arena)
  is_listed = omega (arith, is_free, on-append i arena.free (concat arena.chains))

  is_slot : i < length arena.values
  is_slot = q.partitioned.within i is_listed

  is_empty : value_at arena i ≡ None
  is_empty = q.partitioned.free_empty i is_free

  off_chains : (m : ℕ) → count_of i (chain_at arena m) ≡ 0
  off_chains m = omega (arith, is_free, on-append i arena.free (concat arena.chains), q.partitioned.once i, on-at i arena.chains m)

  has_it : slice_index_or (slice_set arena.values i (Some t)) i None ≡ Some t
  has_it = get_or-set_same arena.values i (Some t) None is_slot

  pub push-arena : after_move (after_put arena t) i n ≡ after
  push-arena = grind (arith, common_steps, and_from _ _ (ap is_some has_it) (lt-ltb n (length arena.chains) there), lt-ltb n (length arena.chains) there)

  pub push-waiting : waiting_in after ≡ waiting_in arena ++ t ∷ []
  push-waiting = order-come arena.values i t is_slot is_empty later

  pub push-view : ◌≡◌ {A = Waiting} (record { numbers = length after.chains; capacity = length after.values; messages = waiting_in after })
      (record { numbers = length arena.chains; capacity = length arena.values; messages = waiting_in arena ++ t ∷ [] })
  push-view = waiting-same (length-moved arena.chains i n) (length-set arena.values i (Some t)) push-waiting

  push-full : (j : ℕ) → j < capacity_of after → value_at after j ≡ None → 0 < count_of j rest
  push-full j below none = grind (arith, common_steps)

  others_on : (m : ℕ) → queued_in after (chain_at arena m) ≡ queued_in arena (chain_at arena m)
  others_on m = ap present (map-other arena.values i (Some t) (chain_at arena m) (off_chains m))

  push-queued_at : (m : ℕ) → queued_in after (chain_at after m) ≡ filter (has_number m) (waiting_in arena ++ t ∷ [])
  push-queued_at m = elim (cases_eq m n) [
    | inl e ↦ subst (λ k. queued_in after (chain_at after k) ≡ filter (has_number k) (waiting_in arena ++ t ∷ [])) (sym e) here
    | inr other ↦ (let chain = chain-moved_other arena.chains i n m other ∙ on-absent i (chain_at arena m) (off_chains m) in
        let none : filter (has_number m) (t ∷ []) ≡ [] = rw (ne_eqb t.affinity.number m (λ same. other (sym same ∙ number))) refl in
        ap (λ (is : List ℕ). queued_in after is) chain
        ∙ others_on m
        ∙ q.queued m
        ∙ sym (append-nil (filter (has_number m) (waiting_in arena)))
        ∙ ap (λ (ts : List QueuedMessage). filter (has_number m) (waiting_in arena) ++ ts) (sym none)
        ∙ sym (filter-append (has_number m) (waiting_in arena) (t ∷ [])))
  ]
    where
      here : queued_in after (chain_at after n) ≡ filter (has_number n) (waiting_in arena ++ t ∷ [])
      here =
          let chain = chain-moved_same arena.chains i n there ∙ ap (λ (is : List ℕ). is ++ i ∷ []) (on-absent i (chain_at arena n) (off_chains n)) in
          let one : filter (has_number n) (t ∷ []) ≡ t ∷ [] = rw (eq-eqb t.affinity.number n number) refl in
          let last : present (map (value_at after) (i ∷ [])) ≡ t ∷ [] = ap (λ (o : Option QueuedMessage). present (o ∷ [])) has_it in
          ap (λ (is : List ℕ). queued_in after is) chain
          ∙ ap present (map-append (value_at after) (chain_at arena n) (i ∷ []))
          ∙ present-append (map (value_at after) (chain_at arena n)) (map (value_at after) (i ∷ []))
          ∙ ap (λ (ts : List QueuedMessage). queued_in after (chain_at arena n) ++ ts) last
          ∙ ap (λ (ts : List QueuedMessage). ts ++ t ∷ []) (others_on n ∙ q.queued n)
          ∙ ap (λ (ts : List QueuedMessage). filter (has_number n) (waiting_in arena) ++ ts) (sym one)
          ∙ sym (filter-append (has_number n) (waiting_in arena) (t ∷ []))

  pub push-queued : IsPartitioned after → IsQueued after
  push-queued partitioned = record {
    partitioned = partitioned;
    empty_is_free = push-full;
    ascends = subst (λ (ts : List QueuedMessage). Ascend ts) (sym push-waiting) (ascend-last (waiting_in arena) t q.ascends later);
    queued = λ m. push-queued_at m ∙ ap (λ (ts : List QueuedMessage). filter (has_number m) ts) (sym push-waiting);
  }

-- if fewer messages wait than there are slots, a slot is free: else each would have a message
pub push-room : (arena : ArenaView QueuedMessage) (t : QueuedMessage) → IsQueued arena → length (waiting_in arena) < length arena.values → (i : ℕ) × (rest : List ℕ) × (arena.free ≡ i ∷ rest)
push-room arena t q less = by arena.free refl
  where
    by : (free : List ℕ) → arena.free ≡ free → (i : ℕ) × (rest : List ℕ) × (arena.free ≡ i ∷ rest)
    by [] is = grind (arith, common_steps, length-all)
    by (i ∷ rest) is = (i, rest, is)

-- ---- one message less

abbrev pub popped : ArenaView QueuedMessage → ℕ → ArenaView QueuedMessage
popped arena i = record { values = slice_set arena.values i None; free = i ∷ arena.free; chains = map (without i) arena.chains }

filters-turned : (p r : QueuedMessage → Bool) (ts : List QueuedMessage) → filter p (filter r ts) ≡ filter r (filter p ts)
filters-turned p r [] = refl
filters-turned p r (t ∷ ts) = grind (arith, common_steps, filters-turned p r ts)

-- a slot occurs in two queues together no more often than among all messages
count_in_slot-two : (s n m : ℕ) (ts : List QueuedMessage) → n ≢ m → count_in_slot s (filter (has_number n) ts) + count_in_slot s (filter (has_number m) ts) ≤ count_in_slot s ts
count_in_slot-two s n m [] other = omega arith
count_in_slot-two s n m (t ∷ ts) other = grind (arith, common_steps, count_in_slot-two s n m ts other)

module _ (arena : ArenaView QueuedMessage) (n i : ℕ) (t : QueuedMessage) (q : IsQueued arena) (first : front_of arena n ≡ Some i) (is : value_at arena i ≡ Some t)
    (once : (s : ℕ) → count_in_slot s (waiting_in arena) ≤ 1) where
  abbrev later : ArenaView QueuedMessage
  later = popped arena i

  pub pop-arena : after_take arena i ≡ later
  pop-arena = rw is refl

  pub pop-waiting : waiting_in later ≡ without_slot t.slot (waiting_in arena)
  pop-waiting = order-leave arena.values i t is (once t.slot) q.ascends

  pub pop-view : ◌≡◌ {A = Waiting} (record { numbers = length later.chains; capacity = length later.values; messages = waiting_in later })
      (record { numbers = length arena.chains; capacity = length arena.values; messages = without_slot t.slot (waiting_in arena) })
  pop-view = waiting-same (length-map arena.chains (without i)) (length-set {A = Option QueuedMessage} arena.values i None) pop-waiting

  pop-full : (j : ℕ) → j < capacity_of later → value_at later j ≡ None → 0 < count_of j (i ∷ arena.free)
  pop-full j below none = grind (arith, common_steps)

  parts : filter (has_number n) (waiting_in arena) ≡ t ∷ queued_in arena (without i (chain_at arena n))
  parts = queue-parts arena n i t q first is

  on_chain : 1 ≤ count_of i (chain_at arena n)
  on_chain = front-chained arena i n first

  left_on : (m : ℕ) → queued_in later (chain_at later m) ≡ queued_in arena (without i (chain_at arena m))
  left_on m =
      let none : count_of i (without i (chain_at arena m)) ≡ 0 = gone (chain_at arena m) in
      ap (λ (is : List ℕ). queued_in later is) (chain-without arena.chains i m)
      ∙ ap present (map-other arena.values i None (without i (chain_at arena m)) none)
    where
      gone : (is : List ℕ) → count_of i (without i is) ≡ 0
      gone [] = refl
      gone (j ∷ is) = grind (arith, common_steps, gone is)

  in_queue : 1 ≤ count_in_slot t.slot (filter (has_number n) (waiting_in arena))
  in_queue = grind (arith, common_steps)

  pop-queued_at : (m : ℕ) → queued_in later (chain_at later m) ≡ filter (has_number m) (without_slot t.slot (waiting_in arena))
  pop-queued_at m = elim (cases_eq m n) [
    | inl e ↦ subst (λ k. queued_in later (chain_at later k) ≡ filter (has_number k) (without_slot t.slot (waiting_in arena))) (sym e) here
    | inr other ↦ (let none : count_in_slot t.slot (filter (has_number m) (waiting_in arena)) ≡ 0 =
        omega (arith, count_in_slot-two t.slot m n (waiting_in arena) other, once t.slot, in_queue) in
        let off = chained-apart arena i n m q.partitioned (λ same. other (sym same)) on_chain in
        left_on m
        ∙ ap (λ (is : List ℕ). queued_in arena is) (on-absent i (chain_at arena m) off)
        ∙ q.queued m
        ∙ sym (without-absent t.slot (filter (has_number m) (waiting_in arena)) none)
        ∙ sym (filters-turned (has_number m) (λ u. not (has_slot t.slot u)) (waiting_in arena)))
  ]
    where
      few : count_in_slot t.slot (filter (has_number n) (waiting_in arena)) ≤ 1
      few = omega (arith, count_in_slot-filter (has_number n) t.slot (waiting_in arena), once t.slot)

      rest_without : count_in_slot t.slot (queued_in arena (without i (chain_at arena n))) ≡ 0
      rest_without =
          let all = subst (λ (ts : List QueuedMessage). count_in_slot t.slot ts ≤ 1) parts few in
          omega (arith, all, on-cons_is t.slot t.slot (slots_in (queued_in arena (without i (chain_at arena n)))) refl)

      drops : without_slot t.slot (t ∷ queued_in arena (without i (chain_at arena n))) ≡ queued_in arena (without i (chain_at arena n))
      drops = rw (eq-eqb t.slot t.slot refl) (without-absent t.slot (queued_in arena (without i (chain_at arena n))) rest_without)

      here : queued_in later (chain_at later n) ≡ filter (has_number n) (without_slot t.slot (waiting_in arena))
      here =
          left_on n
          ∙ sym drops
          ∙ ap (λ (ts : List QueuedMessage). without_slot t.slot ts) (sym parts)
          ∙ sym (filters-turned (has_number n) (λ u. not (has_slot t.slot u)) (waiting_in arena))

  pub pop-queued : IsPartitioned later → IsQueued later
  pop-queued partitioned = record {
    partitioned = partitioned;
    empty_is_free = pop-full;
    ascends = subst (λ (ts : List QueuedMessage). Ascend ts) (sym pop-waiting)
        (ascend-filter (λ u. not (has_slot t.slot u)) (waiting_in arena) q.ascends);
    queued = λ m. pop-queued_at m ∙ ap (λ (ts : List QueuedMessage). filter (has_number m) ts) (sym pop-waiting);
  }
