-- The messages that keep a waiting one back are those that did before, without the one that is answered.
use Rattle.std.proofs.Common.{◌≡◌, ℕ, zero, suc, ◌+◌, ◌<◌, Bool, true, false, List, [], ◌∷◌, ◌++◌, Some, refl, ap, sym, ◌∙◌, take, arith}
use Rattle.std.specs.Prelude.{◌&&◌, ◌||◌, ◌==◌, cond, count_by, not, nat_lt}
use Rattle.std.specs.List.{AllByRecursion, list_any}
use Rattle.std.proofs.lemmas.Bool.{eq-eqb, ne_eqb}
use Rattle.std.proofs.lemmas.List.Sums.{sum_by-append, sum_by-cons, sum_by_push}
use Rattle.std.proofs.Math.Bool.{and-false}
use Rattle.affinity.specs.declared.geometry.Geometry.{Geometry}
use Rattle.meaning.specs.Step.{reply_to}
use Rattle.histories.specs.declared.outcomes.Outcome.{Outcome}
use Rattle.histories.specs.CoreState.{Entry, Replied, CoreState, entry, entries, held, are_related_entries}
use Rattle.histories.specs.Eligible.{is_conflict_free, next_eligible}
use Rattle.histories.specs.MachineState.{MachineState}
use Rattle.histories.specs.Events.{Event, IsAllowed, find_in_flight, give_back, grant, IsAnswered}
use Rattle.histories.specs.IsSoundCoreState.{IsSoundCoreState}
use Rattle.histories.specs.Runs.{IsLegal, answered_at, answered_messages, end_state}
use Rattle.histories.specs.Progress.{kept_back_by}
use Rattle.histories.proofs.Entries.{entries-append}
use Rattle.histories.proofs.Held.{held_grant, log_held}
use Rattle.histories.proofs.Elements.{all_at, IsIn}
use Rattle.histories.proofs.NextEligible.{goes_first}
use Rattle.histories.proofs.Lists.{all_back, sum_by-picked}
use Rattle.histories.proofs.Ways.{Passed, Way, Nothing, Arrives, Grants, Runs, Backs, Logs, Answers, Points, Fails, ways}
use Rattle.histories.proofs.CanGoOn.{not_less}
use Rattle.histories.proofs.IsSoundCoreState.{event_sound}

both_none : (a b : ℕ) → ((a == 0) && (b == 0)) ≡ ((a + b) == 0)
both_none zero b = let same : b ≡ 0 + b = omega arith in ap (λ c. c && (b == 0)) (eq-eqb 0 0 refl) ∙ ap (λ n. n == 0) same
both_none (suc a) b =
    ap (λ c. c && (b == 0)) (ne_eqb (suc a) 0 (λ e. omega (arith, e))) ∙ sym (ne_eqb (suc a + b) 0 (λ e. omega (arith, e)))

-- no element passes a test exactly if none is counted
none_counted : {A : Type 0} (p : A → Bool) (xs : List A) → not (list_any p xs) ≡ (count_by p xs == 0)
none_counted p [] = sym (eq-eqb 0 0 refl)
none_counted p (x ∷ xs) = by (p x) ∙ ap (λ b. (cond (p x) 1 0 == 0) && b) (none_counted p xs) ∙ both_none (cond (p x) 1 0) (count_by p xs)
    ∙ ap (λ n. n == 0) (sym (sum_by-cons (λ x. cond (p x) 1 0) x xs))
  where
    by : (b : Bool) → not (b || list_any p xs) ≡ ((cond b 1 0 == 0) && not (list_any p xs))
    by true = refl
    by false = refl

module _ (g : Geometry) (e : Entry) where
  abbrev related : Entry → Bool
  related d = are_related_entries g e d

  abbrev earlier : Entry → Bool
  earlier d = nat_lt d.0 e.0 && are_related_entries g e d

  abbrev one : Entry → ℕ
  one d = cond (related d) 1 0

  abbrev one_earlier : Entry → ℕ
  one_earlier d = cond (earlier d) 1 0

  -- a waiting message is conflict-free exactly if nothing keeps it back
  pub free_if_none : (w : CoreState) → is_conflict_free g w e ≡ (kept_back_by g w e == 0)
  free_if_none w = (λ i. none_counted related (held w) i && none_counted earlier w.waiting i)
      ∙ both_none (count_by related (held w)) (count_by earlier w.waiting)

  -- so many of those that kept it back don't do so any more, and no other one does
  abbrev Fewer : ℕ → CoreState → CoreState → Type 0
  Fewer n old new = kept_back_by g new e + n ≡ kept_back_by g old e

  arrive_fewer : (w : CoreState) (d : Entry) → e.0 < d.0 → Fewer 0 w (record w { waiting = w.waiting ++ d ∷ []; next = w.next + 1 })
  arrive_fewer w d later =
      let all = sum_by_push one_earlier w.waiting d in
      let none : one_earlier d ≡ 0 = ap {B = ℕ} (λ b. cond (b && related d) 1 0) (not_less e.0 d.0 (omega (arith, later))) in
      omega (arith, all, none)

  grant_fewer : (w : CoreState) (found : Entry × List Entry) → IsSoundCoreState g w → next_eligible g w ≡ Some found → IsIn e found.1
      → Fewer 0 w (grant w found)
  grant_fewer w found sound first is =
      let holds = ap (count_by related) (held_grant w found) ∙ sum_by_push one (held w) found.0 in
      let fewer = sum_by-picked one_earlier _ w.waiting found first in
      let counted = before (related found.0) refl in
      omega (arith, holds, fewer, counted)
    where
      -- what is dispatched keeps e back exactly if it did so before
      before : (b : Bool) → related found.0 ≡ b → one found.0 ≡ one_earlier found.0
      before true touching = λ i. cond ((touching ∙ sym (λ j. goes_first g e w found sound first is touching j && touching j)) i) 1 0
      before false apart =
          ap {B = ℕ} (λ b. cond b 1 0) (apart ∙ sym (ap (λ b. nat_lt found.0.0 e.0 && b) apart ∙ and-false (nat_lt found.0.0 e.0)))

  -- how many of the held messages keep e back
  held_parts : (w : CoreState) → count_by related (held w) ≡ count_by related (entries w.logged) + (count_by related (entries w.ran) + count_by related w.in_flight)
  held_parts w =
      sum_by-append one (entries w.logged) (entries w.ran ++ w.in_flight)
      ∙ ap (λ n. count_by related (entries w.logged) + n) (sum_by-append one (entries w.ran) w.in_flight)

  back_fewer : (w : CoreState) (ticket : ℕ) (found : Entry × List Entry) → find_in_flight w ticket ≡ Some found → Fewer 0 w (give_back g w found)
  back_fewer w ticket found one_out =
      let a : Replied = (found.0.0, found.0.1, reply_to g w.committed found.0.1) in
      let holds = held_parts (give_back g w found) in
      let held_before = held_parts w in
      let ran = ap (count_by related) (entries-append w.ran (a ∷ [])) ∙ sum_by_push one (entries w.ran) found.0 in
      let fewer = sum_by-picked one _ w.in_flight found one_out in
      omega (arith, holds, held_before, ran, fewer)

  answer_fewer : (w : CoreState) (a : Replied) (rest : List Replied) → w.logged ≡ a ∷ rest → Fewer (one (a.0, a.1)) w (record w { logged = rest })
  answer_fewer w a rest front =
      let holds = held_parts (record w { logged = rest }) in
      let held_before = held_parts w in
      let logged = ap (λ l. count_by related (entries l)) front ∙ sum_by-cons one (a.0, a.1) (entries rest) in
      omega (arith, holds, held_before, logged)

  -- how many of those that an outcome answers kept e back
  abbrev answered_of : CoreState → Outcome → ℕ
  answered_of w o = count_by (λ a. related (entry a)) (answered_at w o)

  way_fewer : {old : MachineState} {event : Event} {p : Passed} → Way g old event p → IsSoundCoreState g old.core
      → IsIn e old.core.waiting → IsIn e event.state_after.core.waiting → Fewer (answered_of old.core event.outcome) old.core event.state_after.core
  way_fewer (Nothing s o quiet) sound was is = let none = ap (count_by (λ a. related (entry a))) quiet.0 in omega (arith, none)
  way_fewer (Points s o room pieces_left works quiet fits) sound was is = let none = ap (count_by (λ a. related (entry a))) quiet.0 in omega (arith, none)
  way_fewer (Fails s o doubt works quiet doubts) sound was is = let none = ap (count_by (λ a. related (entry a))) quiet.0 in omega (arith, none)
  way_fewer (Runs i ticket job) sound was is = omega arith
  way_fewer {old = old} (Arrives m works fits) sound was is = arrive_fewer old.core (old.core.next, m)
      (all_at (λ e. e.0 < old.core.next) old.core.waiting e (all_back (λ e. e.0 < old.core.next) old.core.in_flight old.core.waiting sound.given) was)
  way_fewer {old = old} (Grants hand found works free first) sound was is = grant_fewer old.core found sound first is
  way_fewer {old = old} (Backs i ticket found result one_out) sound was is = back_fewer old.core ticket found one_out
  way_fewer {old = old} (Logs n works) sound was is = let holds = ap (count_by related) (log_held g old.core n) in omega (arith, holds)
  way_fewer {old = old} (Answers a rest front) sound was is =
      let counted = ap (λ l. count_by (λ a. related (entry a)) (take 1 l)) front ∙ sum_by-cons (λ (a : Replied). one (entry a)) a [] in
      let fewer = answer_fewer old.core a rest front in
      omega (arith, counted, fewer)

  -- where no message that is answered is related to e, none of those that kept e back is answered
  way_keeps : {old : MachineState} {event : Event} {p : Passed} → Way g old event p
      → ((a : Replied) → IsAnswered old.core event.state_after.core a → related (entry a) ≡ false) → answered_of old.core event.outcome ≡ 0
  way_keeps (Nothing s o quiet) off = ap (count_by (λ a. related (entry a))) quiet.0
  way_keeps (Points s o room pieces_left works quiet fits) off = ap (count_by (λ a. related (entry a))) quiet.0
  way_keeps (Fails s o doubt works quiet doubts) off = ap (count_by (λ a. related (entry a))) quiet.0
  way_keeps (Answers a rest front) off =
      let counted = ap (λ l. count_by (λ a. related (entry a)) (take 1 l)) front ∙ sum_by-cons (λ (a : Replied). one (entry a)) a [] in
      let none = ap {B = ℕ} (λ b. cond b 1 0) (off a front) in
      omega (arith, counted, none)
  way_keeps _ off = refl

pub event_fewer : (g : Geometry) (old : MachineState) (event : Event) (e : Entry) → IsAllowed g old event → IsSoundCoreState g old.core
    → IsIn e old.core.waiting → IsIn e event.state_after.core.waiting
    → kept_back_by g event.state_after.core e + count_by (λ a. are_related_entries g e (entry a)) (answered_at old.core event.outcome)
    ≡ kept_back_by g old.core e
event_fewer g old event e allowed sound was is = way_fewer g e (ways g old event allowed) sound was is

-- Only the answer to a message at a related place makes a waiting message conflict-free.
pub event_clears : {g : Geometry} (old : MachineState) (event : Event) (e : Entry) → IsAllowed g old event → IsSoundCoreState g old.core
    → IsIn e old.core.waiting → IsIn e event.state_after.core.waiting
    → ((a : Replied) → IsAnswered old.core event.state_after.core a → are_related_entries g e (entry a) ≡ false)
    → is_conflict_free g event.state_after.core e ≡ is_conflict_free g old.core e
event_clears {g} old event e allowed sound was is off =
    let fewer = event_fewer g old event e allowed sound was is in
    let none = way_keeps g e (ways g old event allowed) off in
    let same : kept_back_by g event.state_after.core e ≡ kept_back_by g old.core e = omega (arith, fewer, none) in
    free_if_none g e event.state_after.core ∙ ap (λ n. n == 0) same ∙ sym (free_if_none g e old.core)

pub run_fewer : (g : Geometry) (old : MachineState) (events : List Event) (e : Entry) → IsLegal g old events → IsSoundCoreState g old.core
    → IsIn e old.core.waiting → AllByRecursion (λ event. IsIn e event.state_after.core.waiting) events
    → kept_back_by g (end_state old events).core e + count_by (λ a. are_related_entries g e (entry a)) (answered_messages old events)
    ≡ kept_back_by g old.core e
run_fewer g old [] e legal sound was waits = omega arith
run_fewer g old (event ∷ events) e legal sound was waits =
    let first = event_fewer g old event e legal.0 sound was waits.0 in
    let rest = run_fewer g event.state_after events e legal.1 (event_sound g old event legal.0 sound) waits.0 waits.1 in
    let all = sum_by-append (λ (a : Replied). cond (are_related_entries g e (entry a)) 1 0) (answered_at old.core event.outcome)
    (answered_messages event.state_after events) in
    omega (arith, first, rest, all)
