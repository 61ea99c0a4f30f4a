-- What a message in flight sees of the committed state stays, whatever comes; and which steps leave the messages in flight as they are.
use Rattle.std.proofs.Common.{◌≡◌, ℕ, false, List, [], ◌∷◌, refl, ap, sym, ◌∙◌, subst, take, drop}
use Rattle.std.proofs.lemmas.Bool.{true≢false}
use Rattle.std.specs.List.{AllByRecursion}
use Rattle.std.proofs.lemmas.List.{take-append-drop}
use Rattle.affinity.specs.declared.geometry.Geometry.{Geometry}
use Rattle.affinity.specs.Path.{are_related}
use Rattle.protocol.specs.Messages.{path_of}
use Rattle.meaning.specs.Step.{state_after_all, next_state}
use Rattle.meaning.specs.TicketOrder.{messages_of}
use Rattle.meaning.specs.Subtrees.{AgreeOn}
use Rattle.meaning.specs.State.{State}
use Rattle.meaning.proofs.AgreeOn.{agree-refl, agree-trans}
use Rattle.meaning.proofs.Commute.{left_alone}
use Rattle.histories.specs.CoreState.{Entry, CoreState, entries, are_related_entries}
use Rattle.histories.specs.MachineState.{MachineState}
use Rattle.histories.specs.Events.{Event, IsAllowed, dispatches_or_returns}
use Rattle.histories.specs.IsSoundCoreState.{IsSoundCoreState}
use Rattle.affinity.proofs.Elements.{all_weaker}
use Rattle.histories.proofs.AreUnrelated.{apart_turned}
use Rattle.histories.proofs.Entries.{entries-append}
use Rattle.histories.proofs.Lists.{all_front, before_back}
use Rattle.histories.proofs.Ways.{Passed, Way, Grants, Backs, Logs, ways}
use Rattle.histories.proofs.IsSoundCoreState.{row_of}
use Rattle.histories.proofs.Elements.{before_in, IsIn}

module _ (g : Geometry) where
  -- messages at unrelated places leave what message e can read as it is
  pub entries_leave : (x : State) (e : Entry) (es : List Entry) → AllByRecursion (λ d. are_related_entries g e d ≡ false) es
      → AgreeOn g (are_related (path_of g e.1)) (state_after_all g x (messages_of es)) x
  entries_leave x e [] apart = agree-refl x
  entries_leave x e (d ∷ es) apart = agree-trans (entries_leave (next_state g x d.1) e es apart.1) (left_alone g x e.1 d.1 apart.0)

  module _ (e : Entry) where
    logged_elsewhere : (w : CoreState) (n : ℕ) → IsSoundCoreState g w → IsIn e w.in_flight
        → AllByRecursion (λ d. are_related_entries g e d ≡ false) (entries (take n w.ran))
    logged_elsewhere w n sound is =
        let R : Entry → Entry → Type 0 = λ c d. are_related_entries g c d ≡ false in
        let ran = before_in R (entries w.ran) w.in_flight e (before_back R (entries w.logged) _ sound.apart) is in
        let split = ap entries (sym (take-append-drop n w.ran)) ∙ entries-append (take n w.ran) (drop n w.ran) in
        all_weaker (λ d. are_related_entries g d e ≡ false) (λ d. are_related_entries g e d ≡ false) (λ d. apart_turned g d e) (entries (take n w.ran))
        (all_front (λ d. are_related_entries g d e ≡ false) (entries (take n w.ran)) (entries (drop n w.ran))
        (subst (AllByRecursion (λ d. are_related_entries g d e ≡ false)) split ran))

    abbrev SeesSame : CoreState → CoreState → Type 0
    SeesSame old new = AgreeOn g (are_related (path_of g e.1)) new.committed old.committed

    way_sees : {old : MachineState} {event : Event} {p : Passed} → Way g old event p → IsSoundCoreState g old.core → IsIn e old.core.in_flight
        → SeesSame old.core event.state_after.core
    way_sees {old = old} (Logs n works) sound is =
        subst (λ x. AgreeOn g (are_related (path_of g e.1)) x old.core.committed) (sym (row_of g old.core n sound).logs)
        (entries_leave old.core.committed e (entries (take n old.core.ran)) (logged_elsewhere old.core n sound is))
    way_sees {old = old} _ sound is = agree-refl old.core.committed

  pub event_sees : (old : MachineState) (event : Event) (e : Entry) → IsAllowed g old event → IsSoundCoreState g old.core → IsIn e old.core.in_flight
      → AgreeOn g (are_related (path_of g e.1)) event.state_after.core.committed old.core.committed
  event_sees old event e allowed sound is = way_sees e (ways g old event allowed) sound is

-- Steps that neither dispatch a message nor give one back leave the messages in flight as they are.
pub event_keeps_out : (g : Geometry) (old : MachineState) (event : Event) → IsAllowed g old event → dispatches_or_returns event.step ≡ false
    → event.state_after.core.in_flight ≡ old.core.in_flight
event_keeps_out g old event allowed = by (ways g old event allowed)
  where
    by : {event : Event} {p : Passed} → Way g old event p → dispatches_or_returns event.step ≡ false → event.state_after.core.in_flight ≡ old.core.in_flight
    by (Grants hand found works free first) still = absurd (true≢false still)
    by (Backs i ticket found result one_out) still = absurd (true≢false still)
    by _ still = refl
