-- A core that dispatches a message.
use Rattle.std.proofs.Common.{◌≡◌, ℕ, ◌+◌, false, List, [], ◌∷◌, ◌++◌, map, length, Some, refl, ap, sym, subst, ◌∙◌, arith}
use Rattle.std.specs.Prelude.{◌==◌, ◌||◌, not, cond}
use Rattle.std.specs.List.{AllByRecursion}
use Rattle.std.proofs.lemmas.Bool.{eq-eqb}
use Rattle.std.proofs.lemmas.List.{length-append, map-append}
use Rattle.std.proofs.lemmas.List.Elements.{filter-append}
use Rattle.affinity.proofs.Elements.{all_join}
use Rattle.histories.proofs.Lists.{all_back, all_front, all_without}
use Rattle.histories.proofs.IsSoundCoreState.{grant_sound}
use Rattle.histories.specs.Eligible.{next_eligible, unlogged_changes}
use Rattle.histories.specs.Events.{grant}
use Rattle.histories.specs.IsSoundCoreState.{IsSoundCoreState}
use Rattle.histories.specs.CoreState.{Entry, held}
use Rattle.protocol.specs.Messages.{path_of}
use Rattle.parcel.specs.TreeHolds.{TreeHolds}
use Rattle.parcel.specs.Tree.{LendsAt, TreeView, tree_nodes}
use Rattle.parcel.specs.declared.parts.Parcels.{Parcels}
use Rattle.parcel.specs.declared.parts.Standing.{Standing}
use Rattle.scheduler.proofs.UnloggedChanges.{AreClaimed, HasHeld, changing, changing-append, changing-cons, unlogged_of, one_for}
use Rattle.scheduler.proofs.HeldAny.{any_granted}
use Rattle.scheduler.proofs.Trees.{grant_tree}
use Rattle.scheduler.specs.Parts.{Parts}
use Rattle.scheduler.specs.View.{core_state_in}
use Rattle.scheduler.specs.IsCore.{IsCore, is_below, reached}
use Rattle.scheduler.specs.Slots.{SlotView, IsPlaced, entry_of, queued_of}
use Rattle.run_queue.specs.RunQueue.{HasJoined, has_slot, without_slot}
use Rattle.run_queue.specs.declared.queued_message.QueuedMessage.{QueuedMessage}

-- messages in other slots stay when one slot's message is taken out
others_stay : (slot : ℕ) (ys : List SlotView) → AllByRecursion (λ y. (y.0 == slot) ≡ false) ys → without_slot slot (map queued_of ys) ≡ map queued_of ys
others_stay slot [] all = refl
others_stay slot (y ∷ ys) all = (λ i. cond (not (all.0 i)) (queued_of y ∷ without_slot slot (map queued_of ys)) (without_slot slot (map queued_of ys)))
    ∙ ap (λ ts. queued_of y ∷ ts) (others_stay slot ys all.1)

pub waits_without : (before : List SlotView) (x : SlotView) (behind : List SlotView) → AllByRecursion (λ y. (y.0 == x.0) ≡ false) (before ++ behind)
    → without_slot x.0 (map queued_of (before ++ x ∷ behind)) ≡ map queued_of (before ++ behind)
waits_without before x behind all =
    ap (without_slot x.0) (map-append queued_of before (x ∷ behind))
    ∙ filter-append (λ (t : QueuedMessage). not (has_slot x.0 t)) (map queued_of before) (queued_of x ∷ map queued_of behind)
    ∙ (λ i. others_stay x.0 before (all_front (λ y. (y.0 == x.0) ≡ false) before behind all) i
    ++ cond (not (eq-eqb x.0 x.0 refl i)) (queued_of x ∷ without_slot x.0 (map queued_of behind)) (without_slot x.0 (map queued_of behind)))
    ∙ ap (λ ts. map queued_of before ++ ts) (others_stay x.0 behind (all_back (λ y. (y.0 == x.0) ≡ false) before behind all))
    ∙ sym (map-append queued_of before behind)

abbrev pub with_grant : Parts → List SlotView → SlotView → TreeView → List QueuedMessage → Parts
with_grant p waiting x tree held = record p {
  phases = record p.phases { waiting = waiting; in_flight = p.phases.in_flight ++ x ∷ [] };
  tree = tree;
  queue = record p.queue { waiting = map queued_of waiting; held = held };
  unlogged = p.unlogged + one_for x;
}

module _ (keeps : Type 0) (p : Parts) (k : IsCore keeps p) (before : List SlotView) (x : SlotView) (behind : List SlotView)
    (whole : p.phases.waiting ≡ before ++ x ∷ behind) (tree : TreeView) (held : List QueuedMessage)
    (first : next_eligible p.journal.geometry (core_state_in p) ≡ Some (entry_of x, map entry_of (before ++ behind)))
    (joined : HasJoined (queued_of x) p.queue.held held) (geometry : tree.geometry ≡ p.journal.geometry)
    (t : Standing) (l : Parcels) (lent : LendsAt p.journal.geometry (path_of p.journal.geometry x.1.message) t l (tree_nodes p.tree) (tree_nodes tree)) where
  abbrev after : Parts
  after = with_grant p (before ++ behind) x tree held

  abbrev found : Entry × List Entry
  found = (entry_of x, map entry_of (before ++ behind))

  pub grant_state : core_state_in after ≡ grant (core_state_in p) found
  grant_state = λ i. record (core_state_in after) { in_flight = map-append entry_of p.phases.in_flight (x ∷ []) i }

  all_waiting : AllByRecursion (IsPlaced p.journal.geometry) (before ++ x ∷ behind)
  all_waiting = subst (AllByRecursion (IsPlaced p.journal.geometry)) whole k.placed.waiting

  pub it_is_placed : IsPlaced p.journal.geometry x
  it_is_placed = (all_back (IsPlaced p.journal.geometry) before (x ∷ behind) all_waiting).0

  pub grant_core : IsCore keeps after
  grant_core =
      let was = ap length whole ∙ length-append before (x ∷ behind) in
      let now = length-append before behind in
      let more = length-append p.phases.in_flight (x ∷ []) in
      let claimed = k.claimed in
      let unlogged_was = k.unlogged_is ∙ unlogged_of p in
      let unlogged_is = unlogged_of after in
      let out = changing-append p.phases.in_flight (x ∷ []) ∙ ap (λ n. changing p.phases.in_flight + n) (changing-cons x []) in
      let slots : AreClaimed after = omega (arith, was, now, more, claimed) in
      let waiting = all_without (IsPlaced p.journal.geometry) before x behind all_waiting in
      let in_flight = all_join (IsPlaced p.journal.geometry) p.phases.in_flight (x ∷ []) k.placed.in_flight (it_is_placed, tt) in
      let queue_waiting : after.queue.waiting ≡ map queued_of after.phases.waiting = refl in
      let queue_held : HasHeld after = λ test. joined test ∙ ap (λ b. test (queued_of x) || b) (k.queue_held test)
      ∙ any_granted test p.phases (before ++ behind) x in
      let unlogged : after.unlogged ≡ unlogged_changes (core_state_in after) = omega (arith, unlogged_was, unlogged_is, out) in
      let sound = subst (IsSoundCoreState p.journal.geometry) (sym grant_state) (grant_sound p.journal.geometry (core_state_in p) k.sound found first) in
      let holds = subst (λ es. TreeHolds p.journal.geometry (is_below p.journal.geometry es) (tree_nodes tree) (reached p.journal.geometry (core_state_in p)))
      (sym (map-append entry_of p.phases.in_flight (x ∷ [])))
      (grant_tree p.journal.geometry (core_state_in p) k.sound found first (tree_nodes p.tree) k.tree t l (tree_nodes tree) lent) in
      assumption (slots, waiting, in_flight, queue_waiting, queue_held, unlogged, sound, geometry, holds, k)
