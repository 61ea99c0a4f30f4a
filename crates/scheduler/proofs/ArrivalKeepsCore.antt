-- A core that takes a message in.
use Rattle.std.proofs.Common.{◌≡◌, ℕ, suc, ◌+◌, ◌<◌, [], ◌∷◌, ◌++◌, map, length, ap, sym, subst, ◌∙◌, arith}
use Rattle.std.proofs.lemmas.List.{length-append, map-append}
use Rattle.affinity.proofs.Elements.{all_join}
use Rattle.histories.proofs.IsSoundCoreState.{arrive_sound}
use Rattle.histories.specs.IsSoundCoreState.{IsSoundCoreState}
use Rattle.histories.specs.CoreState.{held}
use Rattle.scheduler.proofs.UnloggedChanges.{AreClaimed, messages_counted}
use Rattle.scheduler.specs.Parts.{Parts}
use Rattle.scheduler.specs.View.{core_state_in}
use Rattle.scheduler.specs.IsCore.{IsCore}
use Rattle.scheduler.specs.Slots.{SlotView, IsPlaced, entry_of, queued_of}

abbrev pub with_arrival : Parts → SlotView → ℕ → Parts
with_arrival p x free = record p {
  phases = record p.phases { waiting = p.phases.waiting ++ x ∷ [] };
  free = free;
  next = p.next + 1;
  queue = record p.queue { waiting = p.queue.waiting ++ queued_of x ∷ [] };
}

module _ (keeps : Type 0) (p : Parts) (k : IsCore keeps p) (x : SlotView) (free : ℕ) (ticket : x.1.ticket ≡ p.next) (placed : IsPlaced p.journal.geometry x)
    (was_free : p.free ≡ suc free) where
  pub arrival_state : core_state_in (with_arrival p x free)
      ≡ record (core_state_in p) { waiting = (core_state_in p).waiting ++ (p.next, x.1.message) ∷ []; next = p.next + 1 }
  arrival_state = λ i. record (core_state_in (with_arrival p x free)) {
    waiting = (map-append entry_of p.phases.waiting (x ∷ []) ∙ (λ j. map entry_of p.phases.waiting ++ (ticket j, x.1.message) ∷ [])) i;
  }

  pub has_slot : length (core_state_in p).waiting + length (held (core_state_in p)) < p.capacity
  has_slot = let count = messages_counted p in let claimed = k.claimed in omega (arith, count, claimed, was_free)

  pub arrival_core : IsCore keeps (with_arrival p x free)
  arrival_core =
      let more = length-append p.phases.waiting (x ∷ []) in
      let claimed = k.claimed in
      let slots : AreClaimed (with_arrival p x free) = omega (arith, more, claimed, was_free) in
      let waiting = all_join (IsPlaced p.journal.geometry) p.phases.waiting (x ∷ []) k.placed.waiting (placed, tt) in
      let queue_waiting = ap (λ ts. ts ++ queued_of x ∷ []) k.queue_waiting ∙ sym (map-append queued_of p.phases.waiting (x ∷ [])) in
      let sound = subst (IsSoundCoreState p.journal.geometry) (sym arrival_state)
      (arrive_sound p.journal.geometry (core_state_in p) k.sound x.1.message has_slot) in
      assumption (slots, waiting, queue_waiting, sound, k)
