-- Each event leads from a sound core state to a sound one.
use Rattle.std.proofs.Common.{◌≡◌, ℕ, ◌+◌, ◌<◌, ◌≤◌, List, [], ◌∷◌, ◌++◌, Some, refl, ap, sym, ◌∙◌, subst, append_assoc, take, drop, length, true≢false, arith}
use Rattle.std.specs.Prelude.{◌==◌}
use Rattle.std.specs.List.{AllByRecursion}
use Rattle.std.proofs.lemmas.List.{take-append-drop, length-append}
use Rattle.affinity.specs.declared.geometry.Geometry.{Geometry}
use Rattle.protocol.specs.declared.messages.Msg.{Msg}
use Rattle.affinity.proofs.Elements.{all_join, all_weaker}
use Rattle.meaning.specs.Step.{reply_to}
use Rattle.histories.specs.CoreState.{Entry, Replied, CoreState, entries, held, AreUnrelated, AreAscending, HaveDistinctTickets}
use Rattle.histories.specs.Eligible.{is_eligible, next_eligible}
use Rattle.histories.specs.MachineState.{Hand, MachineState}
use Rattle.histories.specs.Events.{Event, IsAllowed, find_in_flight, grant, give_back, log}
use Rattle.histories.specs.Runs.{IsLegal, end_state}
use Rattle.histories.specs.IsSoundCoreState.{HaveRepliesAt, HasRoom, IsSoundCoreState}
use Rattle.histories.specs.Failures.{DoubtOnlyAfterFailure}
use Rattle.histories.proofs.Lists.{all_front, all_back, all_moved, all_without, before_push, before_back, before_front, before_without, before_moved, picked, length-picked}
use Rattle.histories.proofs.AreUnrelated.{grant_apart, back_apart}
use Rattle.histories.proofs.Held.{log_held, held_grant, length_held}
use Rattle.histories.proofs.Ways.{Passed, Way, ways}
use Rattle.histories.proofs.Ways as way
use Rattle.histories.proofs.SerialReplies.{InARow, in_a_row}
use Rattle.histories.proofs.Room.{back_room, grant_room, log_room}

once_turned : (e d : Entry) → (e.0 ≡ d.0 → ⊥) → d.0 ≡ e.0 → ⊥
once_turned e d h is = h (sym is)

-- The entry's ticket was given: it is below n, the next one.
abbrev IsGiven : ℕ → Entry → Type 0
IsGiven n e = e.0 < n

module _ (g : Geometry) where
  -- what is logged next gets its replies one after the other
  pub row_of : (w : CoreState) (n : ℕ) → IsSoundCoreState g w → InARow g w.committed (take n w.ran) (drop n w.ran)
  row_of w n h =
      let whole : take n w.ran ++ drop n w.ran ≡ w.ran = take-append-drop n w.ran in
      in_a_row g w.committed (take n w.ran) (drop n w.ran)
      (subst (λ r. AreUnrelated g (entries r)) (sym whole) (before_front _ (entries w.ran) w.in_flight (before_back _ (entries w.logged) _ h.apart)))
      (subst (HaveRepliesAt g w.committed) (sym whole) h.replied)

  module _ (old : CoreState) (h : IsSoundCoreState g old) where
    pub arrive_sound : (m : Msg) → length old.waiting + length (held old) < old.slots
        → IsSoundCoreState g (record old { waiting = old.waiting ++ (old.next, m) ∷ []; next = old.next + 1 })
    arrive_sound m fits =
        let one : Entry = (old.next, m) in
        let same = sym (append_assoc old.in_flight old.waiting (one ∷ [])) in
        let l = length-append old.waiting (one ∷ []) in
        let given = all_weaker (IsGiven old.next) (IsGiven (old.next + 1)) (λ e lt. omega (arith, lt)) (old.in_flight ++ old.waiting) h.given in
        let still_given = subst (AllByRecursion (IsGiven (old.next + 1))) (sym same)
        (all_join (IsGiven (old.next + 1)) (old.in_flight ++ old.waiting) (one ∷ []) given (omega arith, tt)) in
        let ascending = before_push (λ e d. e.0 < d.0) old.waiting one h.ascending (all_back (IsGiven old.next) old.in_flight old.waiting h.given) in
        let once = subst HaveDistinctTickets (sym same) (before_push (λ e d. e.0 ≡ d.0 → ⊥) (old.in_flight ++ old.waiting) one h.once
        (all_weaker (IsGiven old.next) (λ e. e.0 ≡ old.next → ⊥) (λ e lt is. omega (arith, lt, is)) _ h.given)) in
        let few : length (old.waiting ++ one ∷ []) + length (held old) ≤ old.slots = omega (arith, l, fits) in
        assumption (ascending, once, still_given, few, h)

    pub grant_sound : (found : Entry × List Entry) → next_eligible g old ≡ Some found → IsSoundCoreState g (grant old found)
    grant_sound found first =
        let k = picked (is_eligible g old) old.waiting found first in
        let one = found.0 in
        let from : old.in_flight ++ old.waiting ≡ old.in_flight ++ (k.before ++ one ∷ k.behind) = ap (λ l. old.in_flight ++ l) k.whole in
        let to : old.in_flight ++ one ∷ (k.before ++ k.behind) ≡ (old.in_flight ++ one ∷ []) ++ found.1 = sym (append_assoc old.in_flight (one ∷ []) _)
        ∙ ap (λ l. (old.in_flight ++ one ∷ []) ++ l) (sym k.rest) in
        let fewer = length-picked (is_eligible g old) old.waiting found first in
        let holds = ap length (held_grant old found) ∙ length-append (held old) (one ∷ []) in
        let fits = h.fits in
        let ascending = subst AreAscending (sym k.rest) (before_without _ k.before one k.behind (subst AreAscending k.whole h.ascending)) in
        let once = subst HaveDistinctTickets to (before_moved _ once_turned old.in_flight k.before one k.behind (subst HaveDistinctTickets from h.once)) in
        let given = subst (AllByRecursion (IsGiven old.next)) to (moved k.before one k.behind (subst (AllByRecursion (IsGiven old.next)) from h.given)) in
        let few : length found.1 + length (held (grant old found)) ≤ old.slots = omega (arith, fewer, holds, fits) in
        assumption (grant_apart g old found first h.apart, ascending, once, given, grant_room g old h.room found first, few, h)
      where
        moved : (us : List Entry) (e : Entry) (vs : List Entry) → AllByRecursion (IsGiven old.next) (old.in_flight ++ (us ++ e ∷ vs))
            → AllByRecursion (IsGiven old.next) (old.in_flight ++ e ∷ (us ++ vs))
        moved us e vs h = all_join (IsGiven old.next) old.in_flight (e ∷ (us ++ vs)) (all_front (IsGiven old.next) old.in_flight _ h)
            (all_moved (IsGiven old.next) us e vs (all_back (IsGiven old.next) old.in_flight _ h))

    pub back_sound : (ticket : ℕ) (found : Entry × List Entry) → find_in_flight old ticket ≡ Some found → IsSoundCoreState g (give_back g old found)
    back_sound ticket found one_out =
        let k = picked (λ d. d.0 == ticket) old.in_flight found one_out in
        let one = found.0 in
        let a : Replied = (one.0, one.1, reply_to g old.committed one.1) in
        let from : old.in_flight ++ old.waiting ≡ k.before ++ one ∷ (k.behind ++ old.waiting) = ap (λ l. l ++ old.waiting) k.whole
        ∙ append_assoc k.before (one ∷ k.behind) old.waiting in
        let to : k.before ++ (k.behind ++ old.waiting) ≡ found.1 ++ old.waiting = sym (append_assoc k.before k.behind old.waiting) ∙ ap
        (λ l. l ++ old.waiting) (sym k.rest) in
        let fewer = length-picked (λ d. d.0 == ticket) old.in_flight found one_out in
        let more = length-append old.ran (a ∷ []) in
        let held_was = length_held old in
        let held_now = length_held (give_back g old found) in
        let fits = h.fits in
        let replied = all_join (λ a. a.2 ≡ reply_to g old.committed a.1) old.ran (a ∷ []) h.replied (refl, tt) in
        let once = subst HaveDistinctTickets to (before_without _ k.before one (k.behind ++ old.waiting) (subst HaveDistinctTickets from h.once)) in
        let given = subst (AllByRecursion (IsGiven old.next)) to (all_without (IsGiven old.next) k.before one (k.behind ++ old.waiting)
        (subst (AllByRecursion (IsGiven old.next)) from h.given)) in
        let few : length old.waiting + length (held (give_back g old found)) ≤ old.slots = omega (arith, fewer, more, held_was, held_now, fits) in
        assumption (back_apart g old ticket found one_out h.apart, replied, once, given, back_room g old h.room ticket found one_out, few, h)

    pub log_sound : (n : ℕ) → IsSoundCoreState g (log g old n)
    log_sound n =
        let row = row_of old n h in
        let apart = subst (AreUnrelated g) (sym (log_held g old n)) h.apart in
        let replied = subst (λ x. HaveRepliesAt g x (drop n old.ran)) (sym row.logs) row.still in
        let fits = subst (λ l. length old.waiting + length l ≤ old.slots) (sym (log_held g old n)) h.fits in
        assumption (apart, replied, log_room g old h.room n, fits, h)

    pub answer_sound : (a : Replied) (rest : List Replied) → old.logged ≡ a ∷ rest → IsSoundCoreState g (record old { logged = rest })
    answer_sound a rest front =
        let fits = subst (λ l. length old.waiting + length (entries l ++ (entries old.ran ++ old.in_flight)) ≤ old.slots) front h.fits in
        let apart = (subst (λ l. AreUnrelated g (entries l ++ (entries old.ran ++ old.in_flight))) front h.apart).1 in
        let fewer : length old.waiting + length (held (record old { logged = rest })) ≤ old.slots = omega (arith, fits) in
        assumption (apart, fewer, h)

    way_sound : {hands : List Hand} {event : Event} {p : Passed} → Way g (record { core = old; hands = hands }) event p
        → IsSoundCoreState g event.state_after.core
    way_sound (way.Arrives m works fits) = arrive_sound m fits
    way_sound (way.Grants hand found works free first) = grant_sound found first
    way_sound (way.Backs i ticket found result one_out) = back_sound ticket found one_out
    way_sound (way.Logs n works) = log_sound n
    way_sound (way.Answers a rest front) = answer_sound a rest front
    way_sound (way.Points s o room pieces_left works quiet fits) = assumption (fits h.room, h)
    way_sound _ = assumption h

  pub event_sound : (old : MachineState) (event : Event) → IsAllowed g old event → IsSoundCoreState g old.core → IsSoundCoreState g event.state_after.core
  event_sound old event allowed h = way_sound old.core h (ways g old event allowed)

  pub run_sound : (old : MachineState) (events : List Event) → IsLegal g old events → IsSoundCoreState g old.core
      → AllByRecursion (λ event. IsSoundCoreState g event.state_after.core) events
  run_sound old [] legal h = tt
  run_sound old (event ∷ events) legal h =
      let k = event_sound old event legal.0 h in
      (k, run_sound event.state_after events legal.1 k)

  pub last_sound : (old : MachineState) (events : List Event) → IsLegal g old events → IsSoundCoreState g old.core → IsSoundCoreState g (end_state old events).core
  last_sound old [] legal h = h
  last_sound old (event ∷ events) legal h = last_sound event.state_after events legal.1 (event_sound old event legal.0 h)

-- ---- the number of slots

pub event_slots : (g : Geometry) (old : MachineState) (event : Event) → IsAllowed g old event → event.state_after.core.slots ≡ old.core.slots
event_slots g old event allowed = by (ways g old event allowed)
  where
    by : {event : Event} {p : Passed} → Way g old event p → event.state_after.core.slots ≡ old.core.slots
    by (way.Arrives m works fits) = refl
    by _ = refl

-- In each core state of a run the log has room for what is in flight or ran, and the slots that there were at the start are enough.
pub run_fits : (g : Geometry) (old : MachineState) (events : List Event) → IsLegal g old events → IsSoundCoreState g old.core
    → AllByRecursion (λ event. HasRoom old.core.slots event.state_after.core) events
run_fits g old [] legal h = tt
run_fits g old (event ∷ events) legal h =
    let k = event_sound g old event legal.0 h in
    let same = event_slots g old event legal.0 in (
      (k.room, subst (λ n. length event.state_after.core.waiting + length (held event.state_after.core) ≤ n) same k.fits),
      subst (λ n. AllByRecursion (λ event. HasRoom n event.state_after.core) events) same (run_fits g event.state_after events legal.1 k),
    )

-- ---- what is in `doubt`

pub event_doubts : (g : Geometry) (old : MachineState) (event : Event) → IsAllowed g old event → DoubtOnlyAfterFailure old.core
    → DoubtOnlyAfterFailure event.state_after.core
event_doubts g old event allowed h = by (ways g old event allowed)
  where
    by : {event : Event} {p : Passed} → Way g old event p → DoubtOnlyAfterFailure event.state_after.core
    by (way.Fails s o doubt works quiet doubts) = λ fine. absurd (true≢false fine)
    by _ = h
