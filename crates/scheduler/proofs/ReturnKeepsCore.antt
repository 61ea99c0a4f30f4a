-- A core that takes back the result of a job.
use Rattle.std.proofs.Common.{◌≡◌, ◌+◌, false, List, [], ◌∷◌, ◌++◌, map, length, Some, refl, ap, sym, subst, ◌∙◌, arith}
use Rattle.std.specs.Prelude.{◌==◌}
use Rattle.std.specs.List.{AllByRecursion}
use Rattle.std.proofs.lemmas.Bool.{eq-eqb, ne_eqb}
use Rattle.std.proofs.lemmas.List.{length-append, map-append}
use Rattle.affinity.proofs.Elements.{all_join}
use Rattle.histories.proofs.Lists.{all_back, all_without, before_front, before_one}
use Rattle.histories.proofs.IsSoundCoreState.{back_sound}
use Rattle.histories.specs.Eligible.{pick, unlogged_changes}
use Rattle.histories.specs.Events.{give_back, find_in_flight}
use Rattle.histories.specs.IsSoundCoreState.{IsSoundCoreState}
use Rattle.histories.specs.CoreState.{Entry, HaveDistinctTickets}
use Rattle.protocol.specs.Messages.{path_of}
use Rattle.protocol.specs.declared.replies.Reply.{Reply}
use Rattle.parcel.specs.Fits.{Fits}
use Rattle.parcel.specs.TreeHolds.{TreeHolds}
use Rattle.parcel.specs.Shown.{Shows}
use Rattle.parcel.specs.Tree.{RestoresAt, TreeView, tree_nodes}
use Rattle.parcel.specs.declared.parts.Parcels.{Parcels}
use Rattle.parcel.specs.declared.parts.Standing.{Standing}
use Rattle.meaning.specs.Step.{next_state, reply_to}
use Rattle.scheduler.proofs.NextEligible.{pick_if}
use Rattle.scheduler.proofs.UnloggedChanges.{AreClaimed, HasHeld, changing, changing-append, changing-cons, unlogged_of}
use Rattle.scheduler.proofs.HeldAny.{any_back}
use Rattle.scheduler.proofs.Trees.{back_reaches, back_tree}
use Rattle.scheduler.specs.Parts.{Parts}
use Rattle.scheduler.specs.View.{core_state_in}
use Rattle.scheduler.specs.IsCore.{IsCore, is_below, reached}
use Rattle.scheduler.specs.Slots.{SlotView, IsPlaced, entry_of, replied_of}

-- `find_in_flight` finds the entry with a ticket, if no other entry has that ticket
pub picked_at : (before : List Entry) (e : Entry) (behind : List Entry) → AllByRecursion (λ d. d.0 ≡ e.0 → ⊥) before
    → pick (λ d. d.0 == e.0) (before ++ e ∷ behind) ≡ Some (e, before ++ behind)
picked_at [] e behind others = ap (pick_if e behind (pick (λ d. d.0 == e.0) behind)) (eq-eqb e.0 e.0 refl)
picked_at (d ∷ before) e behind others =
    ap (pick_if d (before ++ e ∷ behind) (pick (λ d. d.0 == e.0) (before ++ e ∷ behind))) (ne_eqb d.0 e.0 others.0)
    ∙ ap (λ o. pick_if d (before ++ e ∷ behind) o false) (picked_at before e behind others.1)

abbrev pub with_return : Parts → List SlotView → SlotView → TreeView → Parts
with_return p out y tree = record p { phases = record p.phases { in_flight = out; ran = p.phases.ran ++ y ∷ [] }; tree = tree }

module _ (keeps : Type 0) (p : Parts) (k : IsCore keeps p) (before : List SlotView) (x : SlotView) (behind : List SlotView)
    (whole : p.phases.in_flight ≡ before ++ x ∷ behind) where
  pub out_is : (core_state_in p).in_flight ≡ map entry_of before ++ entry_of x ∷ map entry_of behind
  out_is = ap (map entry_of) whole ∙ map-append entry_of before (x ∷ behind)

  all_out : AllByRecursion (IsPlaced p.journal.geometry) (before ++ x ∷ behind)
  all_out = subst (AllByRecursion (IsPlaced p.journal.geometry)) whole k.placed.in_flight

  pub returned_is_placed : IsPlaced p.journal.geometry x
  returned_is_placed = (all_back (IsPlaced p.journal.geometry) before (x ∷ behind) all_out).0

  pub returned_is_found : find_in_flight (core_state_in p) x.1.ticket ≡ Some (entry_of x, map entry_of (before ++ behind))
  returned_is_found =
      ap (pick (λ (e : Entry). e.0 == x.1.ticket)) out_is
      ∙ picked_at (map entry_of before) (entry_of x) (map entry_of behind)
      (before_one (λ (e d : Entry). e.0 ≡ d.0 → ⊥) (map entry_of before) (entry_of x) (map entry_of behind)
      (subst HaveDistinctTickets out_is (before_front (λ (e d : Entry). e.0 ≡ d.0 → ⊥) (core_state_in p).in_flight (core_state_in p).waiting k.sound.once)))
      ∙ ap (λ es. Some (entry_of x, es)) (sym (map-append entry_of before behind))

  module _ (reply : Reply) (reply_is : reply ≡ reply_to p.journal.geometry (core_state_in p).committed x.1.message) (tree : TreeView) (geometry : tree.geometry ≡ p.journal.geometry)
      (t : Standing) (l : Parcels) (put : RestoresAt p.journal.geometry (path_of p.journal.geometry x.1.message) l (tree_nodes p.tree) (tree_nodes tree))
      (fits : Fits p.journal.geometry (path_of p.journal.geometry x.1.message) l)
      (shows : Shows p.journal.geometry (path_of p.journal.geometry x.1.message) t l (next_state p.journal.geometry (core_state_in p).committed x.1.message)) where
    abbrev y : SlotView
    y = (x.0, x.1, reply)

    abbrev after : Parts
    after = with_return p (before ++ behind) y tree

    abbrev found : Entry × List Entry
    found = (entry_of x, map entry_of (before ++ behind))

    pub return_state : core_state_in after ≡ give_back p.journal.geometry (core_state_in p) found
    return_state = λ i. record (core_state_in after) {
      ran = (map-append replied_of p.phases.ran (y ∷ []) ∙ (λ j. map replied_of p.phases.ran ++ (x.1.ticket, x.1.message, reply_is j) ∷ [])) i;
    }

    pub return_core : IsCore keeps after
    return_core =
        let was = ap length whole ∙ length-append before (x ∷ behind) in
        let now = length-append before behind in
        let more = length-append p.phases.ran (y ∷ []) in
        let claimed = k.claimed in
        let unlogged_was = k.unlogged_is ∙ unlogged_of p in
        let unlogged_is = unlogged_of after in
        let out_was = ap changing whole ∙ changing-append before (x ∷ behind) ∙ ap (λ n. changing before + n) (changing-cons x behind) in
        let out_now = changing-append before behind in
        let ran_now = changing-append p.phases.ran (y ∷ []) ∙ ap (λ n. changing p.phases.ran + n) (changing-cons y []) in
        let placed : IsPlaced p.journal.geometry y = assumption returned_is_placed in
        let slots : AreClaimed after = omega (arith, was, now, more, claimed) in
        let in_flight = all_without (IsPlaced p.journal.geometry) before x behind all_out in
        let ran = all_join (IsPlaced p.journal.geometry) p.phases.ran (y ∷ []) k.placed.ran (placed, tt) in
        let queue_held : HasHeld after = λ test. k.queue_held test ∙ any_back test p.phases before x y behind whole refl in
        let unlogged : after.unlogged ≡ unlogged_changes (core_state_in after) = omega (arith, unlogged_was, unlogged_is, out_was, out_now, ran_now) in
        let sound = subst (IsSoundCoreState p.journal.geometry) (sym return_state)
        (back_sound p.journal.geometry (core_state_in p) k.sound x.1.ticket found returned_is_found) in
        let holds = subst (λ s. TreeHolds p.journal.geometry (is_below p.journal.geometry (map entry_of (before ++ behind))) (tree_nodes tree) s)
        (sym (ap (λ as'. reached p.journal.geometry (record (core_state_in after) { ran = as' })) (map-append replied_of p.phases.ran (y ∷ []))
        ∙ back_reaches p.journal.geometry (core_state_in p).committed (map replied_of p.phases.ran) (replied_of y)))
        (subst (λ es. TreeHolds p.journal.geometry (is_below p.journal.geometry es) (tree_nodes tree) (next_state p.journal.geometry (reached p.journal.geometry (core_state_in p)) x.1.message))
        (sym (map-append entry_of before behind))
        (back_tree p.journal.geometry (core_state_in p) k.sound (map entry_of before) (entry_of x) (map entry_of behind) out_is (tree_nodes p.tree) k.tree
        t l (tree_nodes tree) put fits shows returned_is_placed.message)) in
        assumption (slots, in_flight, ran, queue_held, unlogged, sound, geometry, holds, k)
