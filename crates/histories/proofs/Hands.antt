-- Each ticket is in as many hands as there are messages in flight with it, whatever comes.
use Rattle.std.proofs.Common.{◌≡◌, ℕ, ◌<◌, suc, true, false, List, [], ◌∷◌, Some, None, refl, ap, ◌∙◌, length, arith}
use Rattle.std.specs.Prelude.{◌==◌, cond, count_by, position, slice_get}
use Rattle.std.proofs.lemmas.Bool.{eq-eqb, eqb-true, lt-ltb}
use Rattle.std.proofs.lemmas.List.{length-set}
use Rattle.std.proofs.lemmas.List.Sums.{sum_by-cons, sum_by_push}
use Rattle.affinity.specs.declared.geometry.Geometry.{Geometry}
use Rattle.histories.specs.CoreState.{Entry}
use Rattle.histories.specs.MachineState.{Hand, MachineState, Empty, Job, Result, is_empty, full_hands, HandsHold, has_ticket}
use Rattle.histories.specs.Events.{Event, IsAllowed}
use Rattle.histories.specs.Runs.{IsLegal, end_state}
use Rattle.histories.proofs.FullHands.{few_hands, hands-set}
use Rattle.histories.proofs.Lists.{picked, sum_by-picked}
use Rattle.histories.proofs.Ways.{Passed, Way, Grants, Runs, Backs, ways}

-- ---- the hands with a ticket

abbrev weight : ℕ → Hand → ℕ
weight t hand = cond (has_ticket t hand) 1 0

abbrev out_with : ℕ → List Entry → ℕ
out_with t es = count_by (λ e. e.0 == t) es

-- where a ticket is in some hand, it is in the hand of this number
pub hand_with : (t : ℕ) (hands : List Hand) → 0 < count_by (has_ticket t) hands
    → (i : ℕ) × (hand : Hand) × (slice_get hands i ≡ Some hand) × (has_ticket t hand ≡ true)
hand_with t [] some = absurd (omega (arith, some))
hand_with t (hand ∷ hands) some = elim (has_ticket t hand) as (λ b. has_ticket t hand ≡ b
    → (i : ℕ) × (found : Hand) × (slice_get (hand ∷ hands) i ≡ Some found) × (has_ticket t found ≡ true)) [
      | true ↦ λ e. (0, hand, refl, e)
      | false ↦ λ e.
          let here = ap {B = ℕ} (λ b. cond b 1 0) e in
          let all = sum_by-cons (weight t) hand hands in
          let k = hand_with t hands (omega (arith, some, here, all)) in
          (suc k.0, k.1, k.2, k.3)
    ] refl

taken : (t : ℕ) (hand : Hand) (hands : List Hand) → has_ticket t hand ≡ true → count_by (has_ticket t) (hand ∷ hands) ≡ 0 → ⊥
taken t hand hands has none =
    let here = ap {B = ℕ} (λ b. cond b 1 0) has in let all = sum_by-cons (weight t) hand hands in omega (arith, none, here, all)

-- where no ticket is in a hand, the first hand is empty
pub hand_free : (hands : List Hand) → 0 < length hands → ((t : ℕ) → count_by (has_ticket t) hands ≡ 0)
    → (i : ℕ) × (position is_empty hands ≡ Some i)
hand_free [] some none = absurd (omega (arith, some))
hand_free (Empty ∷ hands) some none = (0, ap (λ b. cond b (Some 0) None) (lt-ltb 0 (suc (length hands)) (omega arith)))
hand_free (Job t ∷ hands) some none = absurd (taken t (Job t) hands (eq-eqb t t refl) (none t))
hand_free (Result t ∷ hands) some none = absurd (taken t (Result t) hands (eq-eqb t t refl) (none t))

-- Where nothing is in flight and every hand is empty, no ticket is anywhere.
pub start_holds : (w : MachineState) → w.core.in_flight ≡ [] → full_hands w.hands ≡ 0 → HandsHold w
start_holds w none empty t =
    let out : out_with t w.core.in_flight ≡ 0 = ap (out_with t) none in
    let few = few_hands (has_ticket t) refl w.hands in
    omega (arith, out, few, empty)

-- Each event keeps them.
pub event_holds : (g : Geometry) (old : MachineState) (event : Event) → IsAllowed g old event → HandsHold old → HandsHold event.state_after
event_holds g old event allowed h = by (ways g old event allowed)
  where
    by : {event : Event} {p : Passed} → Way g old event p → HandsHold event.state_after
    by (Grants hand found works free first) = λ t.
        let counted = hands-set (has_ticket t) old.hands hand Empty (Job found.0.0) free in
        let more = sum_by_push (λ (e : Entry). cond (e.0 == t) 1 0) old.core.in_flight found.0 in
        omega (arith, counted, more, h t)
    by (Runs i ticket job) = λ t. let k = hands-set (has_ticket t) old.hands i (Job ticket) (Result ticket) job in omega (arith, k, h t)
    by (Backs i ticket found result one_out) = λ t.
        let k = picked (λ d. d.0 == ticket) old.core.in_flight found one_out in
        let same = ap {B = ℕ} (λ n. cond (n == t) 1 0) (eqb-true found.0.0 ticket k.passes) in
        let counted = hands-set (has_ticket t) old.hands i (Result ticket) Empty result in
        let fewer = sum_by-picked (λ (e : Entry). cond (e.0 == t) 1 0) _ old.core.in_flight found one_out in
        omega (arith, same, counted, fewer, h t)
    by _ = h

-- what a run leaves
pub last_holds : (g : Geometry) (old : MachineState) (events : List Event) → IsLegal g old events → HandsHold old → HandsHold (end_state old events)
last_holds g old [] legal h = h
last_holds g old (event ∷ events) legal h = last_holds g event.state_after events legal.1 (event_holds g old event legal.0 h)

-- No hand comes or goes.
pub event_many : (g : Geometry) (old : MachineState) (event : Event) → IsAllowed g old event → length event.state_after.hands ≡ length old.hands
event_many g old event allowed = by (ways g old event allowed)
  where
    by : {event : Event} {p : Passed} → Way g old event p → length event.state_after.hands ≡ length old.hands
    by (Grants hand found works free first) = length-set old.hands hand (Job found.0.0)
    by (Runs i ticket job) = length-set old.hands i (Result ticket)
    by (Backs i ticket found result one_out) = length-set old.hands i Empty
    by _ = refl

pub last_many : (g : Geometry) (old : MachineState) (events : List Event) → IsLegal g old events
    → length (end_state old events).hands ≡ length old.hands
last_many g old [] legal = refl
last_many g old (event ∷ events) legal = last_many g event.state_after events legal.1 ∙ event_many g old event legal.0
