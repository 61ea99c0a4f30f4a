-- The call that answers, by what its callees give.
use Rattle.std.proofs.Common.{◌≡◌, ℕ, suc, ◌<◌, List, ◌∷◌, map, length, get_or, Some, refl, ap, sym, subst, ◌∙◌, arith, ◌≤◌}
use Rattle.std.specs.Prelude.{unwrap_or, vec_capacity}
use Rattle.std.specs.List.{concat}
use Rattle.arena.proofs.ArenaLemmas.{chain-front, chained-listed, front-chained}
use Rattle.arena.proofs.Counts.{count_of-append}
use Rattle.arena.specs.Lists.{without}
use Rattle.arena.specs.ArenaView.{IsPartitioned, ArenaView, after_take, capacity_of, chain_at, front_of, value_at}
use Rattle.histories.specs.Events.{answer}
use Rattle.histories.specs.declared.outcomes.Outcome.TheVariants as outcomes
use Rattle.protocol.specs.declared.replies.Reply.TheVariants.{Done}
use Rattle.scheduler.proofs.AnswerKeepsCore.{answer_core, answer_front, with_answer}
use Rattle.scheduler.proofs.Chains.{TakenSlot, slot_taken}
use Rattle.scheduler.specs.declared.server_core.Core.TheInside.{Inside}
use Rattle.scheduler.specs.View.{parts, core_state_in}
use Rattle.scheduler.specs.IsCore.{IsSoundCore, IsCore}
use Rattle.scheduler.specs.Parts.{Parts}
use Rattle.scheduler.specs.Slots.{SlotView, no_slot, slot_view_at}
use Rattle.scheduler.specs.declared.core_memory.Slot.{Slot}
use Rattle.scheduler.specs.declared.core_memory.TheConstants.{WAITING, IN_FLIGHT, RAN, LOGGED}
use Rattle.run_queue.specs.RunQueue.{RunQueueView, without_number}

-- the number of the first slot of a chain is below the arena's capacity
pub front_low : {T : Type 0} (arena : ArenaView T) (c i : ℕ) → IsPartitioned arena → front_of arena c ≡ Some i → i < capacity_of arena
front_low arena c i partitioned first =
    let some = chained-listed arena i c (front-chained arena i c first) in
    let all = count_of-append i arena.free (concat arena.chains) in
    partitioned.within i (omega (arith, some, all))

module _ {D : Type 0} {keeps : Type 0} (core : Inside D) (is : IsSoundCore keeps core) (slot : ℕ) (first : front_of core.slots LOGGED ≡ Some slot)
    (taken : Slot) (value : value_at core.slots slot ≡ Some taken) where
  abbrev p : Parts
  p = parts core

  abbrev x : SlotView
  x = (slot, taken, get_or core.replies.items slot Done)

  abbrev behind : List SlotView
  behind = map (slot_view_at core.slots core.replies.items) (without slot (chain_at core.slots LOGGED))

  whole : p.phases.logged ≡ x ∷ behind
  whole = ap (map (slot_view_at core.slots core.replies.items)) (chain-front core.slots slot LOGGED is.chains.partitioned first)
      ∙ (λ i. (slot, unwrap_or (value i) no_slot, get_or core.replies.items slot Done) ∷ behind)

  taken_slot : TakenSlot core.slots (after_take core.slots slot) core.replies.items LOGGED behind
  taken_slot = slot_taken core.slots core.replies.items is.chains slot LOGGED (without slot (chain_at core.slots LOGGED))
      (chain-front core.slots slot LOGGED is.chains.partitioned first)

  abbrev turned : RunQueueView
  turned = record core.queue { held = without_number taken.affinity.number core.queue.held }

  abbrev pub answered : Inside D
  answered = record core { slots = after_take core.slots slot; queue = turned }

  after_is : parts answered ≡ with_answer p behind (suc p.free) taken.affinity.number
  after_is = λ i. record (with_answer p behind (suc p.free) taken.affinity.number) {
    phases = record {
      waiting = taken_slot.stays WAITING (λ same. omega (arith, same)) i;
      in_flight = taken_slot.stays IN_FLIGHT (λ same. omega (arith, same)) i;
      ran = taken_slot.stays RAN (λ same. omega (arith, same)) i;
      logged = taken_slot.left i;
    };
    free = taken_slot.free i;
    capacity = taken_slot.size i;
  }

  pub answer_call : IsPartitioned (after_take core.slots slot) → IsSoundCore keeps answered
  answer_call partitioned = record {
    chains = record { partitioned = partitioned; chain_count = taken_slot.chain_count ∙ is.chains.chain_count };
    core = subst (IsCore keeps) (sym after_is) (answer_core keeps p is.core x behind whole (suc p.free) refl);
    batch = subst (λ (n : ℕ). n ≤ vec_capacity core.batch) (sym taken_slot.size) is.batch;
    replies = is.replies ∙ sym taken_slot.size;
    ran = is.ran ∙ sym (ap length (taken_slot.stays RAN (λ same. omega (arith, same))));
  }

  pub answer_call_state : (outcomes.Answered taken.ticket (get_or core.replies.items slot Done), core_state_in (parts answered)) ≡ answer (core_state_in p) (core_state_in p).logged
  answer_call_state =
      (λ i. (outcomes.Answered taken.ticket (get_or core.replies.items slot Done), core_state_in (after_is i)))
      ∙ ap (answer (core_state_in p)) (sym (answer_front keeps p is.core x behind whole (suc p.free) refl))
