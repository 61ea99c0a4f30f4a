-- The message that is dispatched: the next one of the run queue is the eligible one with the least ticket.
use Rattle.std.proofs.Common.{◌≡◌, ◌<◌, Bool, true, false, List, [], ◌∷◌, ◌++◌, map, Option, Some, None, refl, ap, sym, subst, ◌∙◌}
use Rattle.std.specs.Prelude.{◌&&◌, ◌||◌, not, nat_lt, if◌then◌else◌, cond, is_some, option_map}
use Rattle.std.specs.List.{AllByRecursion, find, list_any}
use Rattle.std.proofs.Math.Bool.{and_comm, or_comm}
use Rattle.std.proofs.lemmas.Bool.{true≢false}
use Rattle.std.proofs.lemmas.List.Folds.{list_any-append}
use Rattle.std.proofs.lemmas.Option.{none-some, same_Some}
use Rattle.affinity.proofs.Preorder.{are_related-contains}
use Rattle.affinity.specs.declared.geometry.Geometry.{Geometry}
use Rattle.affinity.proofs.Elements.{all_weaker}
use Rattle.histories.specs.Eligible.{has_room as has_room_for, is_conflict_free as is_clear_in, is_eligible, lacks_only_room, next_eligible, pick}
use Rattle.histories.specs.Events.{grant_refusal}
use Rattle.histories.specs.CoreState.{Entry, CoreState, entries, entry, are_related_entries, AreAscending}
use Rattle.histories.specs.declared.outcomes.Outcome.TheVariants as outcomes
use Rattle.protocol.specs.Messages.{path_of}
use Rattle.scheduler.specs.Calls.{IsGranted}
use Rattle.scheduler.specs.Parts.{Parts}
use Rattle.scheduler.specs.View.{core_state_in}
use Rattle.scheduler.specs.IsCore.{IsCore}
use Rattle.scheduler.specs.Slots.{Phases, SlotView, ArePlaced, IsPlaced, entry_of, held_any, replied_of, queued_of}
use Rattle.scheduler.specs.declared.granted.Granted.{Granted}
use Rattle.scheduler.specs.declared.granted.Granted.TheVariants as granted
use Rattle.run_queue.proofs.ByTicket.{Ascend, waits_for, is_conflict_free, next_is_first}
use Rattle.run_queue.specs.RunQueue.{has_room, next_queued, are_related_intervals}
use Rattle.run_queue.specs.declared.queued_message.QueuedMessage.{QueuedMessage}
use Rattle.scheduler.proofs.Lists.{any_map, any_same}

-- ---- tests of lists

-- ---- queued messages and places

module _ (g : Geometry) where
  -- affinities overlap exactly where places are related
  pub overlaps : (x y : SlotView) → IsPlaced g x → IsPlaced g y → are_related_intervals (queued_of x).affinity (queued_of y).affinity ≡ are_related_entries g (entry_of x) (entry_of y)
  overlaps x y a b = are_related-contains g (path_of g x.1.message) (path_of g y.1.message) x.1.affinity y.1.affinity a.affinity b.affinity

  slots_touch : (x : SlotView) → IsPlaced g x → (ys : List SlotView) → AllByRecursion (IsPlaced g) ys
      → list_any (λ y. are_related_intervals (queued_of x).affinity (queued_of y).affinity) ys ≡ list_any (λ y. are_related_entries g (entry_of x) (entry_of y)) ys
  slots_touch x a ys all = any_same (IsPlaced g) _ _ (λ y b. overlaps x y a b) ys all

  entries_touch : (e : Entry) (ys : List SlotView) → list_any (are_related_entries g e) (entries (map replied_of ys)) ≡ list_any (λ y. are_related_entries g e (entry_of y)) ys
  entries_touch e ys = any_map entry (are_related_entries g e) (map replied_of ys) ∙ any_map replied_of (λ a. are_related_entries g e (entry a)) ys

  pub held_touch : (l : Phases) → ArePlaced g l → (x : SlotView) → IsPlaced g x
      → held_any (λ o. are_related_intervals (queued_of x).affinity o.affinity) l
      ≡ list_any (are_related_entries g (entry_of x)) (entries (map replied_of l.logged) ++ (entries (map replied_of l.ran) ++ map entry_of l.in_flight))
  held_touch l placed x a =
      let e = entry_of x in
      (λ i. slots_touch x a l.logged placed.logged i || (slots_touch x a l.ran placed.ran i || slots_touch x a l.in_flight placed.in_flight i))
      ∙ (λ i. sym (entries_touch e l.logged) i || (sym (entries_touch e l.ran) i || sym (any_map entry_of (are_related_entries g e) l.in_flight) i))
      ∙ ap (λ b. list_any (are_related_entries g e) (entries (map replied_of l.logged)) || b)
      (sym (list_any-append (are_related_entries g e) (entries (map replied_of l.ran)) (map entry_of l.in_flight)))
      ∙ sym (list_any-append (are_related_entries g e) (entries (map replied_of l.logged)) (entries (map replied_of l.ran) ++ map entry_of l.in_flight))

  pub waits_touch : (ys : List SlotView) → AllByRecursion (IsPlaced g) ys → (x : SlotView) → IsPlaced g x
      → list_any (waits_for (queued_of x)) (map queued_of ys) ≡ list_any (λ d. nat_lt d.0 (entry_of x).0 && are_related_entries g (entry_of x) d) (map entry_of ys)
  waits_touch ys all x a =
      any_map queued_of (waits_for (queued_of x)) ys
      ∙ any_same (IsPlaced g) (λ y. waits_for (queued_of x) (queued_of y)) (λ y. nat_lt (entry_of y).0 (entry_of x).0 && are_related_entries g (entry_of x) (entry_of y))
      (λ y b. ap (λ t. nat_lt (queued_of y).ticket (queued_of x).ticket && t) (overlaps x y a b)) ys all
      ∙ sym (any_map entry_of (λ d. nat_lt d.0 (entry_of x).0 && are_related_entries g (entry_of x) d) ys)

-- ---- the one that is found

pub ascend_from : (ys : List SlotView) → AreAscending (map entry_of ys) → Ascend (map queued_of ys)
ascend_from [] h = tt
ascend_from (y ∷ ys) h = (later y ys h.0, ascend_from ys h.1)
  where
    later : (y : SlotView) (ys : List SlotView) → AllByRecursion (λ d. (entry_of y).0 < d.0) (map entry_of ys) → AllByRecursion (λ t. (queued_of y).ticket < t.ticket) (map queued_of ys)
    later y [] h = tt
    later y (z ∷ ys) h = (h.0, later y ys h.1)

abbrev pub pick_if : Entry → List Entry → Option (Entry × List Entry) → Bool → Option (Entry × List Entry)
pick_if e es o b = if b then Some (e, es) else option_map (λ (found : Entry × List Entry). (found.0, e ∷ found.1)) o

-- The slots ys are `before`, `at` and `behind`; `at` is that of message t, and its entry is the first that passes the test q.
pub record Chosen (q : Entry → Bool) (ys : List SlotView) (t : QueuedMessage) : Type 0 where
  pub before : List SlotView
  pub at : SlotView
  pub behind : List SlotView
  pub whole : ys ≡ before ++ at ∷ behind
  pub queued : queued_of at ≡ t
  pub picked : pick q (map entry_of ys) ≡ Some (entry_of at, map entry_of (before ++ behind))

abbrev Same : (QueuedMessage → Bool) → (Entry → Bool) → List SlotView → Type 0
Same p q ys = AllByRecursion (λ y. p (queued_of y) ≡ q (entry_of y)) ys

pub chosen : (p : QueuedMessage → Bool) (q : Entry → Bool) (ys : List SlotView) → Same p q ys → (t : QueuedMessage) → find p (map queued_of ys) ≡ Some t → Chosen q ys t
chosen p q [] same t h = absurd (none-some t h)
chosen p q (y ∷ ys) same t h = elim (p (queued_of y)) as
    (λ b. p (queued_of y) ≡ b → cond b (Some (queued_of y)) (find p (map queued_of ys)) ≡ Some t → Chosen q (y ∷ ys) t) [
      | true ↦ λ e h. record {
        before = [];
        at = y;
        behind = ys;
        whole = refl;
        queued = same_Some (queued_of y) t h;
        picked = ap (pick_if (entry_of y) (map entry_of ys) (pick q (map entry_of ys))) (sym same.0 ∙ e);
      }
      | false ↦ λ e h. let k = chosen p q ys same.1 t h in record {
        before = y ∷ k.before;
        at = k.at;
        behind = k.behind;
        whole = ap (λ l. y ∷ l) k.whole;
        queued = k.queued;
        picked = ap (pick_if (entry_of y) (map entry_of ys) (pick q (map entry_of ys))) (sym same.0 ∙ e)
            ∙ ap (λ o. pick_if (entry_of y) (map entry_of ys) o false) k.picked;
      }
    ] refl h

any_found : (p : QueuedMessage → Bool) (q : Entry → Bool) (ys : List SlotView) → Same p q ys
    → list_any q (map entry_of ys) ≡ is_some (find p (map queued_of ys))
any_found p q [] same = refl
any_found p q (y ∷ ys) same = (λ i. sym same.0 i || any_found p q ys same.1 i) ∙ by (p (queued_of y))
  where
    by : (b : Bool) → (b || is_some (find p (map queued_of ys))) ≡ is_some (cond b (Some (queued_of y)) (find p (map queued_of ys)))
    by true = refl
    by false = refl

pub none_picked : (q : Entry → Bool) (es : List Entry) → list_any q es ≡ false → pick q es ≡ None
none_picked q [] h = refl
none_picked q (e ∷ es) h = by (none_picked q es) (q e) refl h
  where
    by : (list_any q es ≡ false → pick q es ≡ None) → (b : Bool) → q e ≡ b → (b || list_any q es) ≡ false → pick_if e es (pick q es) (q e) ≡ None
    by deeper true is h = absurd (true≢false h)
    by deeper false is h = ap (pick_if e es (pick q es)) is ∙ ap (λ o. pick_if e es o false) (deeper h)

-- ---- the message that a core chooses

module _ (keeps : Type 0) (p : Parts) (k : IsCore keeps p) where
  abbrev geometry : Geometry
  geometry = p.journal.geometry

  abbrev w : CoreState
  w = core_state_in p

  clear_same : (x : SlotView) → IsPlaced geometry x → is_conflict_free p.queue.held p.queue.waiting (queued_of x) ≡ is_clear_in geometry w (entry_of x)
  clear_same x a = λ i.
      not ((k.queue_held (λ o. are_related_intervals (queued_of x).affinity o.affinity) ∙ held_touch geometry p.phases k.placed x a) i)
      && not ((ap (list_any (waits_for (queued_of x))) k.queue_waiting ∙ waits_touch geometry p.phases.waiting k.placed.waiting x a) i)

  found_first : (room : Bool) → next_queued room p.queue.held p.queue.waiting
      ≡ find (λ t. has_room room t && is_conflict_free p.queue.held p.queue.waiting t) (map queued_of p.phases.waiting)
  found_first room = next_is_first room p.queue.held p.queue.waiting (subst Ascend (sym k.queue_waiting) (ascend_from p.phases.waiting k.sound.ascending))
      ∙ ap (find (λ t. has_room room t && is_conflict_free p.queue.held p.queue.waiting t)) k.queue_waiting

  module _ (room : Bool) (is_room : room ≡ nat_lt p.unlogged p.journal.room) where
    room_same : (x : SlotView) → has_room room (queued_of x) ≡ has_room_for w (entry_of x)
    room_same x = or_comm room (not (queued_of x).changing)
        ∙ ap (λ b. not (queued_of x).changing || b) (is_room ∙ ap (λ n. nat_lt n p.journal.room) k.unlogged_is)

    same_test : Same (λ t. has_room room t && is_conflict_free p.queue.held p.queue.waiting t) (is_eligible geometry w) p.phases.waiting
    same_test = all_weaker (IsPlaced geometry) _
        (λ x a. (λ i. room_same x i && clear_same x a i) ∙ and_comm (has_room_for w (entry_of x)) (is_clear_in geometry w (entry_of x)))
        p.phases.waiting k.placed.waiting

    pub goes_first : (t : QueuedMessage) → next_queued room p.queue.held p.queue.waiting ≡ Some t → Chosen (is_eligible geometry w) p.phases.waiting t
    goes_first t h = chosen _ (is_eligible geometry w) p.phases.waiting same_test t (sym (found_first room) ∙ h)

    none_any : next_queued room p.queue.held p.queue.waiting ≡ None → list_any (is_eligible geometry w) w.waiting ≡ false
    none_any h = any_found _ (is_eligible geometry w) p.phases.waiting same_test ∙ ap is_some (sym (found_first room) ∙ h)

    pub none_goes : next_queued room p.queue.held p.queue.waiting ≡ None → next_eligible geometry w ≡ None
    none_goes h = none_picked (is_eligible geometry w) w.waiting (none_any h)

  -- ---- why none is dispatched

  clear_test : Same (λ t. has_room true t && is_conflict_free p.queue.held p.queue.waiting t) (is_clear_in geometry w) p.phases.waiting
  clear_test = all_weaker (IsPlaced geometry) _ (λ x a. clear_same x a) p.phases.waiting k.placed.waiting

  lacking : (es : List Entry) → list_any (is_eligible geometry w) es ≡ false → list_any (lacks_only_room geometry w) es ≡ list_any (is_clear_in geometry w) es
  lacking [] h = refl
  lacking (e ∷ es) h = by (is_clear_in geometry w e) (has_room_for w e) (list_any (is_eligible geometry w) es) h (lacking es)
    where
      by : (c r rest : Bool) → ((c && r) || rest) ≡ false → (rest ≡ false → list_any (lacks_only_room geometry w) es ≡ list_any (is_clear_in geometry w) es)
          → ((c && not r) || list_any (lacks_only_room geometry w) es) ≡ (c || list_any (is_clear_in geometry w) es)
      by true true rest h j = absurd (true≢false h)
      by true false rest h j = refl
      by false r rest h j = j h

  module _ (room : Bool) (is_room : room ≡ nat_lt p.unlogged p.journal.room) (none : next_queued room p.queue.held p.queue.waiting ≡ None) where
    reason : grant_refusal geometry w ≡ (if is_some (next_queued true p.queue.held p.queue.waiting) then outcomes.NoRoom else outcomes.NoneEligible)
    reason = ap (λ b. if b then outcomes.NoRoom else outcomes.NoneEligible)
        (lacking w.waiting (none_any room is_room none) ∙ any_found _ (is_clear_in geometry w) p.phases.waiting clear_test
        ∙ ap is_some (sym (found_first true)))

    pub none_is_granted : w.failed ≡ false → (why : Granted)
        → why ≡ (if is_some (next_queued true p.queue.held p.queue.waiting) then granted.NoRoom else granted.NoneEligible)
        → IsGranted geometry w w why
    none_is_granted works why is = subst (IsGranted geometry w w) (sym is) (by (next_queued true p.queue.held p.queue.waiting) refl)
      where
        by : (o : Option QueuedMessage) → next_queued true p.queue.held p.queue.waiting ≡ o
            → IsGranted geometry w w (if is_some o then granted.NoRoom else granted.NoneEligible)
        by (Some t) h = let told = reason ∙ ap (λ o. if is_some o then outcomes.NoRoom else outcomes.NoneEligible) h in
            record { works = works; none = none_goes room is_room none; reason = told; same = refl }
        by None h = let told = reason ∙ ap (λ o. if is_some o then outcomes.NoRoom else outcomes.NoneEligible) h in
            record { works = works; none = none_goes room is_room none; reason = told; same = refl }
