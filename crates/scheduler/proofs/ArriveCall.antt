-- The call that takes a message in, by what its callees give.
use Rattle.std.proofs.Common.{Bool, ◌≡◌, ℕ, ◌+◌, ◌<◌, true, false, List, [], ◌∷◌, ◌++◌, map, length, get_or, Ok, Err, refl, ap, sym, subst, ◌∙◌, arith, ◌≤◌}
use Rattle.std.specs.Prelude.{◌==◌, ◌||◌, if◌then◌else◌, nat_le, not, vec_capacity}
use Rattle.std.specs.List.{AllByRecursion, list_any}
use Rattle.std.proofs.lemmas.List.Folds.{list_any-append}
use Rattle.arena.specs.ArenaView.{IsPartitioned, after_move, after_put, capacity_of, chain_at, put_answer, put_into, slot_from}
use Rattle.scheduler.proofs.GrantCall.{numbers_off}
use Rattle.histories.proofs.Lists.{all_back, any_none}
use Rattle.histories.specs.Events.{arrive}
use Rattle.histories.specs.CoreState.{Entry, held, most_tickets}
use Rattle.histories.specs.declared.outcomes.ArriveRefusal.TheVariants as arrivals
use Rattle.histories.specs.declared.outcomes.Outcome.TheVariants as outcomes
use Rattle.protocol.specs.Messages.{is_in_range}
use Rattle.protocol.specs.declared.messages.Msg.{Msg}
use Rattle.protocol.specs.declared.replies.Reply.TheVariants.{Done}
use Rattle.scheduler.proofs.ArrivalKeepsCore.{arrival_core, arrival_state, has_slot, with_arrival}
use Rattle.scheduler.proofs.Lists.{any_map}
use Rattle.scheduler.proofs.UnloggedChanges.{messages_counted}
use Rattle.scheduler.proofs.Chains.{JoinedSlot, slot_joined}
use Rattle.scheduler.specs.declared.server_core.Core.TheInside.{Inside}
use Rattle.scheduler.specs.View.{parts, core_state_in}
use Rattle.scheduler.specs.IsCore.{IsSoundCore, IsCore}
use Rattle.scheduler.specs.Parts.{Parts}
use Rattle.scheduler.specs.Slots.{SlotView, slots_on, IsPlaced, entry_of, queued_of}
use Rattle.scheduler.specs.declared.core_memory.Slot.{Slot}
use Rattle.scheduler.specs.declared.core_memory.TheConstants.{WAITING, IN_FLIGHT, RAN, LOGGED}
use Rattle.run_queue.specs.RunQueue.{CameBefore, RunQueueView, has_slot as has_slot_of}
use Rattle.std.proofs.lemmas.Bool.{le-leb, lt-leb}

none_free : (free : List ℕ) (value back : Slot) → slot_from free value ≡ Err back → free ≡ []
none_free [] value back e = refl
none_free (i ∷ rest) value back e = absurd (cc)

first_free : (free : List ℕ) (value : Slot) (i : ℕ) → slot_from free value ≡ Ok i → (rest : List ℕ) × (free ≡ i ∷ rest)
first_free [] value i e = absurd (cc)
first_free (j ∷ rest) value i e = (rest, ap (λ (n : ℕ). n ∷ rest) (let same : j ≡ i = cc in same))

came_before : (ticket : ℕ) (ys : List SlotView) → AllByRecursion (λ e. e.0 < ticket) (map entry_of ys) → CameBefore ticket (map queued_of ys)
came_before ticket [] all = tt
came_before ticket (y ∷ ys) all = (all.0, came_before ticket ys all.1)

module _ {D : Type 0} {keeps : Type 0} (core : Inside D) (is : IsSoundCore keeps core) (value : Slot) where
  abbrev p : Parts
  p = parts core

  abbrev m : Msg
  m = value.message

  -- where the message is refused neither for the device, nor for its numbers, nor for want of tickets
  tested : core.journal.failed ≡ false → is_in_range core.journal.geometry m ≡ true → (core.next == most_tickets) ≡ false
      → (b : Bool) → nat_le (capacity_of core.slots) (length (core_state_in p).waiting + length (held (core_state_in p))) ≡ b
      → arrive core.journal.geometry (core_state_in p) m ≡ (if b then (outcomes.ArriveRefused arrivals.Full, core_state_in p)
      else (outcomes.Ticket core.next, record (core_state_in p) { waiting = (core_state_in p).waiting ++ (core.next, m) ∷ []; next = core.next + 1 }))
  tested works range more b full = λ i.
      if works i then (outcomes.ArriveRefused arrivals.Failed, core_state_in p)
      else if not (range i) then (outcomes.ArriveRefused arrivals.Range, core_state_in p)
      else if more i then (outcomes.ArriveRefused arrivals.Exhausted, core_state_in p)
      else if full i then (outcomes.ArriveRefused arrivals.Full, core_state_in p)
      else (outcomes.Ticket core.next, record (core_state_in p) { waiting = (core_state_in p).waiting ++ (core.next, m) ∷ []; next = core.next + 1 })

  module _ (back : Slot) (full : put_answer core.slots value ≡ Err back) where
    pub full_arena : after_put core.slots value ≡ core.slots
    full_arena = ap (λ fs. put_into core.slots fs value) (none_free core.slots.free value back full)

    pub full_state : core.journal.failed ≡ false → is_in_range core.journal.geometry m ≡ true → (core.next == most_tickets) ≡ false
        → (outcomes.ArriveRefused arrivals.Full, core_state_in p) ≡ arrive core.journal.geometry (core_state_in p) m
    full_state works range more =
        let count = messages_counted p in
        let claimed = is.core.claimed in
        let none = ap length (none_free core.slots.free value back full) in
        sym (tested works range more true (le-leb (capacity_of core.slots) _ (omega (arith, count, claimed, none))))

  module _ (slot : ℕ) (put : put_answer core.slots value ≡ Ok slot) where
    split : (rest : List ℕ) × (core.slots.free ≡ slot ∷ rest)
    split = first_free core.slots.free value slot put

    joined_slot : JoinedSlot core.slots (after_move (after_put core.slots value) slot WAITING) core.replies.items slot WAITING value
    joined_slot = slot_joined core.slots core.replies.items is.chains slot 0 (omega arith) split.0 value split.1

    pub arrive_later : CameBefore core.next core.queue.waiting
    arrive_later = subst (CameBefore core.next) (sym is.core.queue_waiting)
        (came_before core.next p.phases.waiting (all_back (λ (e : Entry). e.0 < core.next) (core_state_in p).in_flight (core_state_in p).waiting is.core.sound.given))

    pub arrive_slot : slot < core.queue.slots
    arrive_slot = let low = joined_slot.low in let queue_slots = is.core.queue_slots in omega (arith, low, queue_slots)

    none_there : (c : ℕ) → list_any (λ (y : SlotView). y.0 == slot) (slots_on core.slots core.replies.items c) ≡ false
    none_there c = any_none _ _ (numbers_off core.slots core.replies.items slot (chain_at core.slots c) (joined_slot.none_had c))

    pub arrive_new : list_any (has_slot_of slot) (core.queue.waiting ++ core.queue.held) ≡ false
    arrive_new =
        list_any-append (has_slot_of slot) core.queue.waiting core.queue.held
        ∙ (λ i. (ap (list_any (has_slot_of slot)) is.core.queue_waiting ∙ any_map queued_of (has_slot_of slot) p.phases.waiting ∙ none_there WAITING) i || is.core.queue_held (has_slot_of slot) i)
        ∙ (λ i. none_there LOGGED i || (none_there RAN i || none_there IN_FLIGHT i))

    abbrev x : SlotView
    x = (slot, value, get_or core.replies.items slot Done)

    abbrev turned : RunQueueView
    turned = record core.queue { waiting = core.queue.waiting ++ queued_of x ∷ [] }

    abbrev pub arrived : Inside D
    arrived = record core { slots = after_move (after_put core.slots value) slot WAITING; queue = turned; next = core.next + 1 }

    abbrev new_free : ℕ
    new_free = length (after_move (after_put core.slots value) slot WAITING).free

    after_is : parts arrived ≡ with_arrival p x new_free
    after_is = λ i. record (with_arrival p x new_free) {
      phases = record {
        waiting = joined_slot.joined i;
        in_flight = joined_slot.stays IN_FLIGHT (λ same. omega (arith, same)) i;
        ran = joined_slot.stays RAN (λ same. omega (arith, same)) i;
        logged = joined_slot.stays LOGGED (λ same. omega (arith, same)) i;
      };
      capacity = joined_slot.size i;
    }

    module _ (ticket : value.ticket ≡ core.next) (placed : IsPlaced core.journal.geometry x) where
      pub arrive_call : IsPartitioned (after_move (after_put core.slots value) slot WAITING) → IsSoundCore keeps arrived
      arrive_call partitioned = record {
        chains = record { partitioned = partitioned; chain_count = joined_slot.chain_count ∙ is.chains.chain_count };
        core = subst (IsCore keeps) (sym after_is) (arrival_core keeps p is.core x new_free ticket placed joined_slot.free);
        batch = subst (λ (n : ℕ). n ≤ vec_capacity core.batch) (sym joined_slot.size) is.batch;
        replies = is.replies ∙ sym joined_slot.size;
        ran = is.ran ∙ sym (ap length (joined_slot.stays RAN (λ same. omega (arith, same))));
      }

      pub arrive_state : core.journal.failed ≡ false → is_in_range core.journal.geometry m ≡ true → (core.next == most_tickets) ≡ false
          → (outcomes.Ticket core.next, core_state_in (parts arrived)) ≡ arrive core.journal.geometry (core_state_in p) m
      arrive_state works range more =
          (λ i. (outcomes.Ticket core.next, (ap core_state_in after_is ∙ arrival_state keeps p is.core x new_free ticket placed joined_slot.free) i))
          ∙ sym (tested works range more false (lt-leb (capacity_of core.slots) _ (has_slot keeps p is.core x new_free ticket placed joined_slot.free)))
