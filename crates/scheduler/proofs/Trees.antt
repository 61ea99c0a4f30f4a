-- The tree of a core beside its core state: what may be lent, what is taken back, and what logging leaves.
use Rattle.std.proofs.Common.{◌≡◌, ℕ, append_assoc, true, false, List, [], ◌∷◌, ◌++◌, take, drop, Some, refl, ap, sym, subst, ◌∙◌, ⊎_elim}
use Rattle.std.specs.Prelude.{◌||◌}
use Rattle.std.specs.List.{AllByRecursion}
use Rattle.std.proofs.lemmas.Bool.{or_cases, true≢false}
use Rattle.std.proofs.lemmas.List.{take-append-drop}
use Rattle.std.proofs.lemmas.List.Folds.{list_any-append}
use Rattle.std.proofs.Math.Bool.{or-false, or_comm}
use Rattle.affinity.proofs.Paths.{unrelated_below, unrelated_turned}
use Rattle.affinity.specs.Path.{Path, are_related, is_prefix, IsPath}
use Rattle.affinity.specs.declared.geometry.Geometry.{Geometry}
use Rattle.affinity.proofs.Elements.{all_weaker, any_moved}
use Rattle.histories.specs.Eligible.{next_eligible}
use Rattle.histories.specs.Events.{log}
use Rattle.histories.specs.IsSoundCoreState.{IsSoundCoreState}
use Rattle.histories.specs.CoreState.{Entry, Replied, CoreState, entries, held, are_related_entries, AreUnrelated}
use Rattle.histories.proofs.AreUnrelated.{apart_turned, granted_is_free}
use Rattle.histories.proofs.Entries.{entries-append}
use Rattle.histories.proofs.Lists.{all_back, all_front, before_back, before_first, before_one}
use Rattle.histories.proofs.InFlight.{entries_leave}
use Rattle.histories.proofs.IsSoundCoreState.{row_of}
use Rattle.histories.proofs.SerialReplies.{state_after_all-append}
use Rattle.protocol.specs.Messages.{IsMessage, path_of}
use Rattle.parcel.proofs.TreeHolds.{can_be_lent, holds_alike, lent_holds, lent_shows, place_is_out, restored_holds}
use Rattle.parcel.specs.Fits.{Fits}
use Rattle.parcel.specs.TreeHolds.{IsApart, TreeHolds, with_place}
use Rattle.parcel.specs.Nodes.{Nodes}
use Rattle.parcel.specs.Shown.{Shows}
use Rattle.parcel.specs.Tree.{HasGap, IsOut, LendsAt, RestoresAt}
use Rattle.parcel.specs.declared.parts.Parcels.{Parcels}
use Rattle.parcel.specs.declared.parts.Standing.{Standing}
use Rattle.meaning.proofs.AgreeOn.{agree-sym, agree-trans}
use Rattle.meaning.proofs.Commute.{reads_only}
use Rattle.meaning.specs.TicketOrder.{messages_of}
use Rattle.meaning.specs.Step.{state_after_all, next_state}
use Rattle.meaning.specs.Subtrees.{AgreeOn}
use Rattle.meaning.specs.State.{State}
use Rattle.scheduler.specs.IsCore.{is_below, reached}

-- a message's place that is unrelated to the places of other messages is unrelated to all nodes at or below these
pub apart_below : (g : Geometry) (e : Entry) (es : List Entry) → AllByRecursion (λ d. are_related_entries g e d ≡ false) es → IsApart (path_of g e.1) (is_below g es)
apart_below g e [] apart q below = absurd (true≢false (sym below))
apart_below g e (d ∷ es) apart q below =
    ⊎_elim (λ (here : is_prefix (path_of g d.1) q ≡ true). unrelated_turned q (path_of g e.1)
    (unrelated_below (path_of g d.1) (path_of g e.1) q (unrelated_turned (path_of g e.1) (path_of g d.1) apart.0) here))
    (λ there. apart_below g e es apart.1 q there)
    (or_cases (is_prefix (path_of g d.1) q) (is_below g es q) below)

-- one place more, and one fewer
pub below_push : (g : Geometry) (es : List Entry) (e : Entry) (q : Path) → with_place (path_of g e.1) (is_below g es) q ≡ is_below g (es ++ e ∷ []) q
below_push g es e q =
    or_comm (is_prefix (path_of g e.1) q) (is_below g es q)
    ∙ ap (λ b. is_below g es q || b) (sym (or-false (is_prefix (path_of g e.1) q)))
    ∙ sym (list_any-append (λ (e : Entry). is_prefix (path_of g e.1) q) es (e ∷ []))

pub below_cut : (g : Geometry) (before : List Entry) (e : Entry) (behind : List Entry) (q : Path)
    → is_below g (before ++ e ∷ behind) q ≡ with_place (path_of g e.1) (is_below g (before ++ behind)) q
below_cut g before e behind q =
    any_moved (λ (e : Entry). is_prefix (path_of g e.1) q) before e behind

-- ---- a message that is dispatched

module _ (g : Geometry) (w : CoreState) (sound : IsSoundCoreState g w) (found : Entry × List Entry) (first : next_eligible g w ≡ Some found) where
  free : AllByRecursion (λ d. are_related_entries g found.0 d ≡ false) (held w)
  free = granted_is_free g w found first

  pub free_of_out : AllByRecursion (λ d. are_related_entries g found.0 d ≡ false) w.in_flight
  free_of_out = all_back _ (entries w.ran) w.in_flight (all_back _ (entries w.logged) _ free)

  pub free_of_ran : AllByRecursion (λ d. are_related_entries g found.0 d ≡ false) (entries w.ran)
  free_of_ran = all_front _ (entries w.ran) w.in_flight (all_back _ (entries w.logged) _ free)

  module _ (n : Nodes) (tree : TreeHolds g (is_below g w.in_flight) n (reached g w)) where
    pub grant_lends : HasGap g (path_of g found.0.1) n → ⊥
    grant_lends gap = can_be_lent g (is_below g w.in_flight) (path_of g found.0.1) (apart_below g found.0 w.in_flight free_of_out) n (reached g w) tree gap

    module _ (t : Standing) (l : Parcels) (lent : Nodes) (taken : LendsAt g (path_of g found.0.1) t l n lent) where
      pub grant_shows : Shows g (path_of g found.0.1) t l w.committed
      grant_shows = agree-trans
          (lent_shows g (is_below g w.in_flight) (path_of g found.0.1) (apart_below g found.0 w.in_flight free_of_out) t l n lent (reached g w) tree taken)
          (entries_leave g w.committed found.0 (entries w.ran) free_of_ran)

      pub grant_tree : TreeHolds g (is_below g (w.in_flight ++ found.0 ∷ [])) lent (reached g w)
      grant_tree = holds_alike g (with_place (path_of g found.0.1) (is_below g w.in_flight)) (is_below g (w.in_flight ++ found.0 ∷ [])) lent (reached g w)
          (λ q. below_push g w.in_flight found.0 q)
          (lent_holds g (is_below g w.in_flight) (path_of g found.0.1) (apart_below g found.0 w.in_flight free_of_out) t l n lent (reached g w) tree taken)

-- ---- a message that is given back

module _ (g : Geometry) (w : CoreState) (sound : IsSoundCoreState g w) (before : List Entry) (e : Entry) (behind : List Entry) (out : w.in_flight ≡ before ++ e ∷ behind)
    (n : Nodes) (tree : TreeHolds g (is_below g w.in_flight) n (reached g w)) where
  apart_out : AreUnrelated g (before ++ e ∷ behind)
  apart_out = subst (AreUnrelated g) out (before_back _ (entries w.ran) w.in_flight (before_back _ (entries w.logged) _ sound.apart))

  pub apart_others : AllByRecursion (λ d. are_related_entries g e d ≡ false) (before ++ behind)
  apart_others = (before_first (λ e d. are_related_entries g e d ≡ false) (apart_turned g) before e behind apart_out).0

  -- the message's place is unrelated to those of the messages that are logged or ran
  pub apart_earlier : AllByRecursion (λ d. are_related_entries g e d ≡ false) (entries w.logged ++ entries w.ran)
  apart_earlier =
      let first = entries w.logged ++ entries w.ran in
      let whole : held w ≡ (first ++ before) ++ e ∷ behind = ap (λ o. entries w.logged ++ (entries w.ran ++ o)) out
      ∙ sym (append_assoc (entries w.logged) (entries w.ran) _) ∙ sym (append_assoc first before (e ∷ behind)) in
      all_weaker (λ d. are_related_entries g d e ≡ false) (λ d. are_related_entries g e d ≡ false) (λ d. apart_turned g d e) first
      (all_front (λ d. are_related_entries g d e ≡ false) first before
      (before_one (λ e d. are_related_entries g e d ≡ false) (first ++ before) e behind (subst (AreUnrelated g) whole sound.apart)))

  apart_ran : AllByRecursion (λ d. are_related_entries g e d ≡ false) (entries w.ran)
  apart_ran = all_back _ (entries w.logged) (entries w.ran) apart_earlier

  held_out : TreeHolds g (with_place (path_of g e.1) (is_below g (before ++ behind))) n (reached g w)
  held_out = holds_alike g (is_below g w.in_flight) (with_place (path_of g e.1) (is_below g (before ++ behind))) n (reached g w)
      (λ q. ap (λ es. is_below g es q) out ∙ below_cut g before e behind q) tree

  pub back_is_out : IsPath g (path_of g e.1) → IsOut (path_of g e.1) n
  back_is_out path = place_is_out g (is_below g (before ++ behind)) (path_of g e.1) (apart_below g e (before ++ behind) apart_others) n (reached g w) path held_out

  -- what the message leaves at its place in the committed state is what it leaves there in the state that was reached
  back_agrees : AgreeOn g (are_related (path_of g e.1)) (next_state g w.committed e.1) (next_state g (reached g w) e.1)
  back_agrees = (reads_only g (are_related (path_of g e.1)) w.committed (reached g w) e.1
      (agree-sym (entries_leave g w.committed e (entries w.ran) apart_ran)) (λ q r. r)).1

  pub back_tree : (t : Standing) (l : Parcels) (new : Nodes) → RestoresAt g (path_of g e.1) l n new → Fits g (path_of g e.1) l
      → Shows g (path_of g e.1) t l (next_state g w.committed e.1) → IsMessage e.1
      → TreeHolds g (is_below g (before ++ behind)) new (next_state g (reached g w) e.1)
  back_tree t l new put fits shows message =
      restored_holds g (is_below g (before ++ behind)) (path_of g e.1) (apart_below g e (before ++ behind) apart_others) e.1 refl t l n new (reached g w)
      held_out put fits (agree-trans shows back_agrees) message

-- ---- messages that are logged, and what was reached: the state after all that ran

pub log_reaches : (g : Geometry) (w : CoreState) (n : ℕ) → IsSoundCoreState g w → reached g (log g w n) ≡ reached g w
log_reaches g w n sound =
    ap (λ x. state_after_all g x (messages_of (entries (drop n w.ran)))) (row_of g w n sound).logs
    ∙ sym (state_after_all-append g w.committed (entries (take n w.ran)) (entries (drop n w.ran)))
    ∙ ap (λ es. state_after_all g w.committed (messages_of es)) (sym (entries-append (take n w.ran) (drop n w.ran)) ∙ ap entries (take-append-drop n w.ran))

-- when a message is given back, the state reached is the one to which it leads from the state reached before
pub back_reaches : (g : Geometry) (x : State) (ran : List Replied) (a : Replied)
    → state_after_all g x (messages_of (entries (ran ++ a ∷ []))) ≡ next_state g (state_after_all g x (messages_of (entries ran))) a.1
back_reaches g x ran a = ap (λ es. state_after_all g x (messages_of es)) (entries-append ran (a ∷ [])) ∙ state_after_all-append g x (entries ran) ((a.0, a.1) ∷ [])
