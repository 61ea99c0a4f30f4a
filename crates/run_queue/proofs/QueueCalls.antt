-- What each call does to those that wait and those that are held.
use Rattle.std.proofs.lemmas.Grind.{common_steps}
use Rattle.std.proofs.Common.{◌≡◌, ◌≢◌, ◌∙◌, ℕ, ◌<◌, ◌≤◌, Bool, true, false, not, ◌&&◌, List, [], ◌∷◌, ◌++◌, find, Option, Some, None, refl, ap, sym, subst, arith, length}
use Rattle.std.specs.List.{list_any, AllByRecursion}
use Rattle.std.proofs.lemmas.Bool.{eq-eqb, eqb-true, and_parts, and_from, true≢false, not-true}
use Rattle.affinity.specs.Interval.{IsAffinity, affinity_count}
use Rattle.affinity.specs.declared.geometry.Geometry.{Geometry}
use Rattle.run_queue.specs.RunQueue.{IsNext, are_related_intervals, is_free_of, has_room, has_slot, has_number, holds_at, without_slot, without_number, next_queued, CameBefore}
use Rattle.arena.proofs.Counts.{count_of-cons_is, count_of-cons_other}
use Rattle.run_queue.specs.Slots.{count_in_slot}
use Rattle.run_queue.specs.Order.{is_conflict_free}
use Rattle.run_queue.specs.Queues.{Waiting, IsFirstGone}
use Rattle.run_queue.specs.HeldMessages.{HeldMessages, HasInserted}
use Rattle.run_queue.specs.ReadyTable.{ready_at}
use Rattle.run_queue.specs.Invariant.{AreQueued}
use Rattle.run_queue.specs.declared.queued_message.QueuedMessage.{QueuedMessage}
use Rattle.run_queue.proofs.ByTicket.{next_is_first}
use Rattle.run_queue.proofs.SlotCounts.{limit-most, count_in_slot-append, in_slots-arrived, room-arrived, in_slots-gone, in_slots-freed}
use Rattle.run_queue.proofs.TicketOrder.{all-filter, all-last, ascend-filter, ascend-last}
use Rattle.run_queue.proofs.Finds.{find-all, find-passes, any-found}
use Rattle.run_queue.proofs.Earliest.{own_overlap, clear-first}
use Rattle.run_queue.proofs.IsNext.{next_waits}
use Rattle.run_queue.proofs.Ready.{ready-gone}

-- ---- the start

-- a geometry has at most `MOST_AFFINITIES`, so as many queues serve any geometry
pub all_below : (g : Geometry) → affinity_count g ≤ 357
all_below g = grind (arith, common_steps)

pub queued-start : (g : Geometry) (slots numbers : ℕ) → 357 ≤ numbers
    → AreQueued g slots (record { numbers = numbers; capacity = slots; messages = [] }) (record { numbers = numbers; messages = [] })
queued-start g slots numbers most = record {
  queues = λ any. (let all = all_below any in omega (arith, all, most));
  entries = λ any. (let all = all_below any in omega (arith, all, most));
  capacity = refl;
  in_slots = λ s. omega arith;
  placed = record { held_placed = tt; waiting_placed = tt; ascends = tt };
}

-- ---- a message that arrives

pub messages-arrived : {g : Geometry} {slots : ℕ} {w : Waiting} {h : HeldMessages} (t : QueuedMessage) → AreQueued g slots w h → IsAffinity g t.affinity
    → CameBefore t.ticket w.messages → t.slot < slots → list_any (has_slot t.slot) (w.messages ++ h.messages) ≡ false
    → AreQueued g slots (record w { messages = w.messages ++ t ∷ [] }) h
messages-arrived {g} {slots} {w} {h} t are placed later there new = record {
  queues = are.queues;
  entries = are.entries;
  capacity = are.capacity;
  in_slots = in_slots-arrived slots w.messages h.messages t are.in_slots there new;
  placed = record {
    held_placed = are.placed.held_placed;
    waiting_placed = all-last (λ d. IsAffinity g d.affinity) w.messages t are.placed.waiting_placed placed;
    ascends = ascend-last w.messages t are.placed.ascends later;
  };
}

pub room-for-arrived : {g : Geometry} {slots : ℕ} {w : Waiting} {h : HeldMessages} (t : QueuedMessage) → AreQueued g slots w h → t.slot < slots
    → list_any (has_slot t.slot) (w.messages ++ h.messages) ≡ false → length w.messages < w.capacity
room-for-arrived {g} {slots} {w} {h} t are there new =
    let room = room-arrived slots w.messages h.messages t are.in_slots there new in
    let all = are.capacity in
    omega (arith, room, all)

-- ---- an affinity that is freed

pub messages-freed : {g : Geometry} {slots : ℕ} {w : Waiting} {h : HeldMessages} (n : ℕ) → AreQueued g slots w h
    → AreQueued g slots w (record h { messages = without_number n h.messages })
messages-freed {g} {slots} {w} {h} n are = record {
  queues = are.queues;
  entries = are.entries;
  capacity = are.capacity;
  in_slots = in_slots-freed slots w.messages h.messages (λ t. not (has_number n t)) are.in_slots;
  placed = record {
    held_placed = all-filter (λ d. IsAffinity g d.affinity) (λ t. not (has_number n t)) h.messages are.placed.held_placed;
    waiting_placed = are.placed.waiting_placed;
    ascends = are.placed.ascends;
  };
}

-- ---- the message that is dispatched next

module _ (g : Geometry) (slots : ℕ) (w : Waiting) (h : HeldMessages) (are : AreQueued g slots w h) (t : QueuedMessage) (room : Bool)
    (next : next_queued room h.messages w.messages ≡ Some t) where
  found : find (λ u. has_room room u && is_conflict_free h.messages w.messages u) w.messages ≡ Some t
  found = sym (next_is_first room h.messages w.messages are.placed.ascends) ∙ next

  pub next-clear : is_conflict_free h.messages w.messages t ≡ true
  next-clear = (and_parts (has_room room t) _ (find-passes (λ u. has_room room u && is_conflict_free h.messages w.messages u) w.messages t found)).1

  pub next-placed : IsAffinity g t.affinity
  next-placed = find-all (λ d. IsAffinity g d.affinity) (λ u. has_room room u && is_conflict_free h.messages w.messages u) w.messages t are.placed.waiting_placed found

  pub next-first : find (has_number t.affinity.number) w.messages ≡ Some t
  next-first = clear-first g h.messages w.messages (λ u. has_room room u && is_conflict_free h.messages w.messages u) are.placed.waiting_placed are.placed.ascends found next-clear

  -- no other message that waits has its slot
  pub next-once : count_in_slot t.slot w.messages ≤ 1
  next-once = omega (arith, are.in_slots t.slot, limit-most t.slot slots)

  pub next-free : find (has_number t.affinity.number) h.messages ≡ None
  next-free = by (find (has_number t.affinity.number) h.messages) refl
    where
      none : list_any (λ other. are_related_intervals t.affinity other.affinity) h.messages ≡ false
      none = not-true _ (and_parts (is_free_of h.messages t) _ next-clear).0

      by : (o : Option QueuedMessage) → find (has_number t.affinity.number) h.messages ≡ o → find (has_number t.affinity.number) h.messages ≡ None
      by None is = is
      by (Some d) is =
          let at = eqb-true d.affinity.number t.affinity.number (find-passes (has_number t.affinity.number) h.messages d is) in
          let near = own_overlap g t d next-placed (sym at) in
          absurd (true≢false
          (sym (any-found (has_number t.affinity.number) (λ other. are_related_intervals t.affinity other.affinity) h.messages d is near) ∙ none))

all-between : (P : QueuedMessage → Type 0) (low high : List QueuedMessage) (t : QueuedMessage) → AllByRecursion P (low ++ high) → P t → AllByRecursion P (low ++ t ∷ high)
all-between P [] high t all here = (here, all)
all-between P (d ∷ low) high t all here = (all.0, all-between P low high t all.1 here)

count_in_slot-between : (s : ℕ) (low high : List QueuedMessage) (t : QueuedMessage) → count_in_slot s (low ++ t ∷ high) ≡ count_in_slot s ((low ++ high) ++ t ∷ [])
count_in_slot-between s low high t = grind (arith, common_steps, count_in_slot-append, count_of-cons_is, count_of-cons_other)

pub messages-gone : {g : Geometry} {slots : ℕ} {w : Waiting} {h k : HeldMessages} (t : QueuedMessage) → AreQueued g slots w h → IsAffinity g t.affinity
    → list_any (has_slot t.slot) w.messages ≡ true → k ≡ record h { messages = k.messages } → HasInserted t h.messages k.messages
    → AreQueued g slots (record w { messages = without_slot t.slot w.messages }) k
messages-gone {g} {slots} {w} {h} {k} t are placed waits same between = record {
  queues = are.queues;
  entries = subst (λ (l : HeldMessages). (any : Geometry) → affinity_count any ≤ l.numbers) (sym same) are.entries;
  capacity = are.capacity;
  in_slots = λ s.
      let all = in_slots-gone slots w.messages h.messages t are.in_slots waits s in
      let count = ap (λ (ts : List QueuedMessage). count_in_slot s ts) between.3 ∙ count_in_slot-between s between.0 between.1 t
      ∙ ap (λ (ts : List QueuedMessage). count_in_slot s (ts ++ t ∷ [])) (sym between.2) in
      omega (arith, all, count);
  placed = record {
    held_placed = subst (λ (ts : List QueuedMessage). AllByRecursion (λ d. IsAffinity g d.affinity) ts) (sym between.3)
        (all-between (λ d. IsAffinity g d.affinity) between.0 between.1 t
        (subst (λ (ts : List QueuedMessage). AllByRecursion (λ d. IsAffinity g d.affinity) ts) between.2 are.placed.held_placed) placed);
    waiting_placed = all-filter (λ d. IsAffinity g d.affinity) (λ d. not (has_slot t.slot d)) w.messages are.placed.waiting_placed;
    ascends = ascend-filter (λ d. not (has_slot t.slot d)) w.messages are.placed.ascends;
  };
}

module _ (g : Geometry) (slots : ℕ) (w v : Waiting) (h k : HeldMessages) (t : QueuedMessage) (are : AreQueued g slots w h)
    (next : IsNext (record { geometry = g; waiting = w.messages; held = h.messages; slots = slots }) t) (n : ℕ) (number : n ≡ t.affinity.number)
    (popped : IsFirstGone n w v) (same : k ≡ record h { messages = k.messages }) (joined : HasInserted t h.messages k.messages) where
  first : find (has_number t.affinity.number) w.messages ≡ Some t
  first = next-first g slots w h are t next.0 next.1

  gone : v ≡ record w { messages = without_slot t.slot w.messages }
  gone = popped t (subst (λ m. find (has_number m) w.messages ≡ Some t) (sym number) first)

  pub queued-gone : AreQueued g slots v k
  queued-gone = subst (λ (x : Waiting). AreQueued g slots x k) (sym gone)
      (messages-gone t are (next-placed g slots w h are t next.0 next.1)
      (next_waits (record { geometry = g; waiting = w.messages; held = h.messages; slots = slots }) t next) same joined)

  pub ready-others : (n : ℕ) → t.affinity.number ≢ n → ready_at k.messages v.messages n ≡ ready_at h.messages w.messages n
  ready-others m other =
      ap (λ (x : Waiting). ready_at k.messages x.messages m) gone
      ∙ ready-gone h.messages k.messages w.messages t joined are.placed.ascends (next-once g slots w h are t next.0 next.1) first
      (next-clear g slots w h are t next.0 next.1) m other

-- ---- which message holds an affinity

pub none-holds : (p : QueuedMessage → Bool) (ts : List QueuedMessage) → find p ts ≡ None → list_any p ts ≡ false
none-holds p [] none = refl
none-holds p (t ∷ ts) none = grind (arith, common_steps, none-holds p ts)

pub one-holds : (n : ℕ) (ts : List QueuedMessage) (t : QueuedMessage) → find (has_number n) ts ≡ Some t → list_any (holds_at n t.slot) ts ≡ true
one-holds n ts t found = grind (arith, common_steps, any-found, and_from, eq-eqb, find-passes)
