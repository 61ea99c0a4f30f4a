-- The replies in a legal run are those of the serial server to the messages in the order in which they arrived.
use Rattle.std.proofs.Common.{◌≡◌, ℕ, ◌+◌, ◌<◌, ◌≤◌, false, List, [], ◌∷◌, ◌++◌, Some, ap, sym, ◌∙◌, subst, append_assoc, take, arith}
use Rattle.std.specs.Prelude.{◌==◌, IsPermutation}
use Rattle.std.specs.List.{AllByRecursion}
use Rattle.std.proofs.lemmas.List.{append-nil}
use Rattle.std.proofs.lemmas.Bool.{true≢false}
use Rattle.std.proofs.lemmas.List.Sorted.{IsPermutation-append_left, IsPermutation-append_right, IsPermutation-middle, IsPermutation-refl, IsPermutation-trans}
use Rattle.affinity.specs.declared.geometry.Geometry.{Geometry}
use Rattle.affinity.proofs.Elements.{all_weaker}
use Rattle.protocol.specs.declared.replies.Reply.{Reply}
use Rattle.meaning.specs.State.{State}
use Rattle.meaning.specs.Step.{reply_to, state_after_all}
use Rattle.meaning.specs.TicketOrder.{serial_replies, messages_of, by_ticket, InOrderIfRelated}
use Rattle.meaning.proofs.ByTicket.{by_ticket-ascending, AreAscending as AreEachLess}
use Rattle.histories.specs.CoreState.{Entry, Replied, CoreState, entries, held, are_related_entries, AreUnrelated, AreAscending, EachBefore, IsIdle}
use Rattle.histories.specs.Eligible.{is_eligible, next_eligible}
use Rattle.histories.specs.MachineState.{Hand, MachineState}
use Rattle.histories.specs.Events.{Event, find_in_flight, grant, give_back, log}
use Rattle.histories.specs.Runs.{IsLegal, end_state, logged_at, arrives, logged_messages, arrived, answered}
use Rattle.histories.specs.IsSoundCoreState.{IsSoundCoreState}
use Rattle.histories.specs.IsSerialHistory.{ticket_replies}
use Rattle.histories.proofs.Lists.{picked, all_front, all_permuted, before_back, before_front, before_moved, before_one, before_past, before_push}
use Rattle.histories.proofs.AreUnrelated.{apart_turned}
use Rattle.histories.proofs.Entries.{entries-append, entries_split}
use Rattle.histories.proofs.Ways.{Passed, Way, Arrives, Grants, Backs, Logs, ways}
use Rattle.histories.proofs.SerialReplies.{serial_replies-append, IsAsGood, good_itself, good_on, good_push, good_moved}
use Rattle.histories.proofs.Elements.{IsIn, in_left}
use Rattle.histories.proofs.NextEligible.{earlier_free}
use Rattle.histories.proofs.IsSoundCoreState.{event_sound}
use Rattle.histories.proofs.Idle.{idle_sound, none_in_flight, none_ran, none_logged}
use Rattle.histories.proofs.AnsweredFirst.{run_answers}
use Rattle.histories.proofs.Runs.{run_follows}

-- ---- a run leaves its messages in a list (the row) that is in step with the list of arrivals

-- the row: all that arrived, namely what was logged so far, then what ran, what is in flight and what waits
abbrev pub row : CoreState → List Replied → List Entry
row w past = entries past ++ (entries w.ran ++ (w.in_flight ++ w.waiting))

-- Two lists in step stay so when the same message is put behind each, and when a message of the second moves forward past unrelated ones.
pub record KeepsInStep (g : Geometry) (AreInStep : List Entry → List Entry → Type 0) : Type 0 where
  pub push : (es fs : List Entry) (e : Entry) → AreInStep es fs → AreInStep (es ++ e ∷ []) (fs ++ e ∷ [])
  pub moved : (es ps us : List Entry) (e : Entry) (vs : List Entry) → AllByRecursion (λ d. are_related_entries g e d ≡ false) us
      → AreInStep es (ps ++ (us ++ e ∷ vs)) → AreInStep es (ps ++ e ∷ (us ++ vs))

module _ (g : Geometry) (AreInStep : List Entry → List Entry → Type 0) (keeps : KeepsInStep g AreInStep) where
  -- an event that logs no message, and at which none arrives
  quiet : (new : CoreState) (past : List Replied) (all : List Entry) → AreInStep all (row new past) → AreInStep (all ++ []) (row new (past ++ []))
  quiet new past all good = subst (λ l. AreInStep l (row new (past ++ []))) (sym (append-nil all))
      (subst (λ l. AreInStep all (row new l)) (sym (append-nil past)) good)

  one_more : (w : CoreState) (past : List Replied) (e : Entry)
      → row w past ++ e ∷ [] ≡ entries past ++ (entries w.ran ++ (w.in_flight ++ (w.waiting ++ e ∷ [])))
  one_more w past e =
      append_assoc (entries past) _ (e ∷ [])
      ∙ ap (λ l. entries past ++ l) (append_assoc (entries w.ran) _ (e ∷ []) ∙ ap
      (λ l. entries w.ran ++ l) (append_assoc w.in_flight w.waiting (e ∷ [])))

  module _ (old : CoreState) (past : List Replied) (all : List Entry) (h : IsSoundCoreState g old) (good : AreInStep all (row old past)) where
    grant_in_step : (found : Entry × List Entry) → next_eligible g old ≡ Some found → AreInStep all (row (grant old found) past)
    grant_in_step found first =
        let k = picked (is_eligible g old) old.waiting found first in
        let one = found.0 in
        let P = entries past in
        let R = entries old.ran in
        let free = earlier_free g old found h first in
        let F = P ++ (R ++ old.in_flight) in
        let joined : (l : List Entry) → P ++ (R ++ (old.in_flight ++ l)) ≡ F ++ l = λ l. ap (λ m. P ++ m) (sym (append_assoc R old.in_flight l))
        ∙ sym (append_assoc P (R ++ old.in_flight) l) in
        let from : row old past ≡ F ++ (k.before ++ one ∷ k.behind) = ap (λ l. P ++ (R ++ (old.in_flight ++ l))) k.whole ∙ joined _ in
        let to : F ++ one ∷ (k.before ++ k.behind) ≡ row (grant old found) past =
        sym (joined _) ∙ ap (λ l. P ++ (R ++ l)) (sym (append_assoc old.in_flight (one ∷ []) _) ∙ ap
        (λ l. (old.in_flight ++ one ∷ []) ++ l) (sym k.rest)) in
        subst (AreInStep all) to (keeps.moved all F k.before one k.behind free (subst (AreInStep all) from good))

    back_in_step : (ticket : ℕ) (found : Entry × List Entry) → find_in_flight old ticket ≡ Some found → AreInStep all (row (give_back g old found) past)
    back_in_step ticket found one_out =
        let k = picked (λ d. d.0 == ticket) old.in_flight found one_out in
        let one = found.0 in
        let P = entries past in
        let R = entries old.ran in
        let L = entries old.logged in
        let whole : held old ≡ (L ++ R) ++ (k.before ++ one ∷ k.behind) = ap (λ o. L ++ (R ++ o)) k.whole ∙ sym (append_assoc L R _) in
        let free = all_front (λ d. are_related_entries g one d ≡ false) k.before k.behind (before_back
        (λ e d. are_related_entries g e d ≡ false) (L ++ R) _ (before_moved
        (λ e d. are_related_entries g e d ≡ false) (apart_turned g) (L ++ R) k.before one k.behind (subst (AreUnrelated g) whole h.apart))).0 in
        let from : row old past ≡ (P ++ R) ++ (k.before ++ one ∷ (k.behind ++ old.waiting)) =
        ap (λ o. P ++ (R ++ (o ++ old.waiting))) k.whole ∙ ap (λ l. P ++ (R ++ l)) (append_assoc k.before (one ∷ k.behind) old.waiting)
        ∙ sym (append_assoc P R _) in
        let back : R ++ one ∷ [] ≡ entries (old.ran ++ (one.0, one.1, reply_to g old.committed one.1)
        ∷ []) = sym (entries-append old.ran ((one.0, one.1, reply_to g old.committed one.1) ∷ [])) in
        let to : (P ++ R) ++ one ∷ (k.before ++ (k.behind ++ old.waiting)) ≡ row (give_back g old found) past =
        append_assoc P R _ ∙ ap (λ l. P ++ l) (sym (append_assoc R (one ∷ []) _) ∙
        (λ i. back i ++ (sym (append_assoc k.before k.behind old.waiting) i)) ∙ ap
        (λ o. entries (old.ran ++ (one.0, one.1, reply_to g old.committed one.1) ∷ []) ++ (o ++ old.waiting)) (sym k.rest)) in
        subst (AreInStep all) to (keeps.moved all (P ++ R) k.before one (k.behind ++ old.waiting) free (subst (AreInStep all) from good))

    log_in_step : (n : ℕ) → AreInStep all (row (log g old n) (past ++ take n old.ran))
    log_in_step n = subst (AreInStep all) (sym (entries_split past old.ran (old.in_flight ++ old.waiting) n)) good

    way_in_step : {hands : List Hand} {event : Event} {p : Passed} → Way g (record { core = old; hands = hands }) event p
        → AreInStep (all ++ p.come) (row event.state_after.core (past ++ p.gone))
    way_in_step (Arrives m works fits) =
        let one : Entry = (old.next, m) in
        subst (λ l. AreInStep (all ++ one ∷ []) (row (record old { waiting = old.waiting ++ one ∷ []; next = old.next + 1 }) l)) (sym (append-nil past))
        (subst (AreInStep (all ++ one ∷ [])) (one_more old past one) (keeps.push all (row old past) one good))
    way_in_step (Grants hand found works free first) = quiet (grant old found) past all (grant_in_step found first)
    way_in_step (Backs i ticket found result one_out) = quiet (give_back g old found) past all (back_in_step ticket found one_out)
    way_in_step (Logs n works) = subst (λ l. AreInStep l (row (log g old n) (past ++ take n old.ran))) (sym (append-nil all)) (log_in_step n)
    way_in_step _ = quiet old past all good

  run_in_step : (old : MachineState) (events : List Event) (past : List Replied) (all : List Entry) → IsLegal g old events
      → IsSoundCoreState g old.core → AreInStep all (row old.core past)
      → AreInStep (all ++ arrived events) (row (end_state old events).core (past ++ logged_messages old events))
  run_in_step old [] past all legal h good = quiet old.core past all good
  run_in_step old (event ∷ events) past all legal h good =
      let gone = logged_at old.core event.step event.device_failed in
      let come = arrives event.step event.outcome in
      let k = run_in_step event.state_after events (past ++ gone) (all ++ come) legal.1 (event_sound g old event legal.0 h)
      (way_in_step old.core past all h good (ways g old event legal.0)) in
      subst (λ l. AreInStep l (row (end_state event.state_after events).core (past
      ++ (gone ++ logged_messages event.state_after events)))) (append_assoc all come (arrived events))
      (subst (λ l. AreInStep ((all ++ come)
      ++ arrived events) (row (end_state event.state_after events).core l)) (append_assoc past gone (logged_messages event.state_after events)) k)

  -- From a core state without messages on, the list of arrivals and the row are in step.
  pub arrivals_in_step : (old : MachineState) (events : List Event) → IsLegal g old events → IsIdle old.core → AreInStep [] []
      → AreInStep (arrived events) (row (end_state old events).core (logged_messages old events))
  arrivals_in_step old events legal idle start =
      let none : row old.core [] ≡ [] = λ i. entries (none_ran old.core idle i) ++ (none_in_flight old.core idle i ++ idle.none_waits i) in
      run_in_step old events [] [] legal (idle_sound old.core idle g) (subst (AreInStep []) (sym none) start)

-- ---- each has the same replies

good_in_step : (g : Geometry) (x : State) → KeepsInStep g (IsAsGood g x)
good_in_step g x = record {
  push = good_push g x;
  moved = λ es ps us e vs free good. good_on g x es _ _ good (good_moved g x ps us e vs free);
}

-- ---- none is lost, none is there twice, and related ones stay in order

-- The second list has the messages of the first, each as often. Its messages at related places are by ticket, if those of the first are.
pub record IsReordered (g : Geometry) (es fs : List Entry) : Type 0 where
  pub same : IsPermutation es fs
  pub ordered : EachBefore (InOrderIfRelated g) es → EachBefore (InOrderIfRelated g) fs

reordered_in_step : (g : Geometry) → KeepsInStep g (IsReordered g)
reordered_in_step g = record {
  push = λ es fs e h. record {
    same = IsPermutation-append_left (e ∷ []) es fs h.same;
    ordered = λ ordered. before_push (InOrderIfRelated g) fs e (h.ordered (before_front (InOrderIfRelated g) es (e ∷ []) ordered))
        (all_permuted (λ d. InOrderIfRelated g d e) es fs h.same (before_one (InOrderIfRelated g) es e [] ordered));
  };
  moved = λ es ps us e vs free h. record {
    same = IsPermutation-trans es _ _ h.same (IsPermutation-append_right ps _ _ (IsPermutation-middle us e vs));
    ordered = λ ordered. before_past (InOrderIfRelated g) ps us e vs
        (all_weaker (λ d. are_related_entries g e d ≡ false) (InOrderIfRelated g e) (λ d free related. absurd (true≢false (sym related ∙ free))) us free)
        (h.ordered ordered);
  };
}

pub arrivals_reordered : (g : Geometry) (old : MachineState) (events : List Event) → IsLegal g old events → IsIdle old.core
    → IsReordered g (arrived events) (row (end_state old events).core (logged_messages old events))
arrivals_reordered g old events legal idle =
    arrivals_in_step g (IsReordered g) (reordered_in_step g) old events legal idle
    (record { same = IsPermutation-refl []; ordered = λ ordered. ordered })

-- ---- tickets are given in order

-- The tickets ascend from n on.
abbrev AscendFrom : ℕ → List Entry → Type 0
AscendFrom n [] = Unit {0}
AscendFrom n (e ∷ es) = (n ≤ e.0) × AscendFrom (e.0 + 1) es

all_later : (n k : ℕ) (es : List Entry) → AscendFrom n es → k < n → AllByRecursion (λ d. k < d.0) es
all_later n k [] h less = tt
all_later n k (e ∷ es) h less = let from = h.0 in (omega (arith, from, less), all_later (e.0 + 1) k es h.1 (omega (arith, from, less)))

ascend : (n : ℕ) (es : List Entry) → AscendFrom n es → AreAscending es
ascend n [] h = tt
ascend n (e ∷ es) h = (all_later (e.0 + 1) e.0 es h.1 (omega arith), ascend (e.0 + 1) es h.1)

way_given : {g : Geometry} {old : MachineState} {event : Event} {p : Passed} → Way g old event p → (later : List Entry)
    → AscendFrom event.state_after.core.next later → AscendFrom old.core.next (p.come ++ later)
way_given (Arrives m works fits) later h = (omega arith, h)
way_given _ later h = h

run_given : (g : Geometry) (old : MachineState) (events : List Event) → IsLegal g old events → AscendFrom old.core.next (arrived events)
run_given g old [] legal = tt
run_given g old (event ∷ events) legal = way_given (ways g old event legal.0) (arrived events) (run_given g event.state_after events legal.1)

-- The tickets of the messages that arrive in a run ascend.
pub run_ascending : (g : Geometry) (old : MachineState) (events : List Event) → IsLegal g old events → AreAscending (arrived events)
run_ascending g old events legal = ascend old.core.next (arrived events) (run_given g old events legal)

each_less : (es : List Entry) → AreAscending es → AreEachLess es
each_less [] h = tt
each_less (e ∷ es) h = (h.0, each_less es h.1)

-- So sorting them by ticket changes nothing.
pub arrived_by_ticket : (g : Geometry) (old : MachineState) (events : List Event) → IsLegal g old events
    → by_ticket (arrived events) ≡ arrived events
arrived_by_ticket g old events legal = by_ticket-ascending (arrived events) (each_less (arrived events) (run_ascending g old events legal))

-- ---- from a core state in which nothing waits and nothing is held

module _ (g : Geometry) (old : MachineState) (events : List Event) (legal : IsLegal g old events) (h : IsSoundCoreState g old.core)
    (idle : IsIdle old.core) where
  good : IsAsGood g old.core.committed (by_ticket (arrived events)) (row (end_state old events).core (logged_messages old events))
  good =
      let x = old.core.committed in
      subst (λ l. IsAsGood g x l (row (end_state old events).core (logged_messages old events))) (sym (arrived_by_ticket g old events legal))
      (arrivals_in_step g (IsAsGood g x) (good_in_step g x) old events legal idle (good_itself g x []))

  -- Each reply to a message that the run logs is one that the serial server gives to the messages by ticket.
  pub logged_by_ticket : (p : ℕ × Reply) → IsIn p (ticket_replies (logged_messages old events)) → IsIn p (serial_replies g old.core.committed (by_ticket (arrived events)))
  logged_by_ticket p is =
      let x = old.core.committed in
      good.tells p (subst (IsIn p) (sym (serial_replies-append g x (entries (logged_messages old events)) _)) (in_left p _ _
      (subst (IsIn p) (sym (run_follows g old events legal h).reply_pairs) is)))

  -- So is each reply that the run gives.
  pub answered_by_ticket : (p : ℕ × Reply) → IsIn p (answered events) → IsIn p (serial_replies g old.core.committed (by_ticket (arrived events)))
  answered_by_ticket p is =
      let all : ticket_replies (logged_messages old events) ≡ answered events ++ ticket_replies (end_state old events).core.logged =
      ap (λ l. ticket_replies l ++ ticket_replies (logged_messages old events)) (sym (none_logged old.core idle)) ∙ run_answers g old events legal in
      logged_by_ticket p (subst (IsIn p) (sym all) (in_left p (answered events) _ is))

  -- Where all was answered in the end, the committed state is the serial one too.
  pub committed_by_ticket : IsIdle (end_state old events).core
      → (end_state old events).core.committed ≡ state_after_all g old.core.committed (messages_of (by_ticket (arrived events)))
  committed_by_ticket ends =
      let new = (end_state old events).core in
      let none : row new (logged_messages old events) ≡ entries (logged_messages old events) =
      (λ i. entries (logged_messages old events) ++ (entries (none_ran new ends i) ++ (none_in_flight new ends i ++ ends.none_waits i)))
      ∙ append-nil (entries (logged_messages old events)) in
      (run_follows g old events legal h).committed ∙ ap (λ l. state_after_all g old.core.committed (messages_of l)) (sym none) ∙ sym good.state
