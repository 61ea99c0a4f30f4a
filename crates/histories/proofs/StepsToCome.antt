-- Each message takes five steps: what an event lowers `steps_to_come` by, or an arrival raises it by.
use Rattle.std.proofs.Common.{◌≡◌, ℕ, ◌+◌, ◌*◌, ◌<◌, ◌≤◌, Bool, true, false, List, [], ◌∷◌, refl, ap, sym, ◌∙◌, take, drop, length, arith}
use Rattle.std.specs.Prelude.{cond, nat_lt}
use Rattle.std.proofs.lemmas.Bool.{ltb-true}
use Rattle.std.proofs.lemmas.List.{length-append, take-append-drop}
use Rattle.std.proofs.lemmas.List.Sums.{sum_by-cons}
use Rattle.affinity.specs.declared.geometry.Geometry.{Geometry}
use Rattle.meaning.specs.Step.{reply_to}
use Rattle.histories.specs.MachineState.{MachineState, Empty, Job, Result, full_hands, has_job}
use Rattle.histories.specs.Events.{Event, IsAllowed}
use Rattle.histories.specs.CoreState.{IsIdle}
use Rattle.histories.specs.Progress.{steps_at, steps_in, steps_to_come, useful_events}
use Rattle.histories.specs.Runs.{IsLegal, arrived, arrives, end_state}
use Rattle.histories.proofs.Idle.{none_in_flight, none_logged, none_ran}
use Rattle.histories.proofs.FullHands.{few_hands, hands-set}
use Rattle.histories.proofs.Lists.{sum_by-each, length-picked}
use Rattle.histories.proofs.Ways.{Passed, Way, Nothing, Arrives, Grants, Runs, Backs, Logs, Answers, Points, Fails, ways}

-- The messages that take a step, and the steps to come after it, are the steps to come before it, and five for each message that arrives.
pub event_counts : (g : Geometry) (old : MachineState) (event : Event) → IsAllowed g old event
    → steps_at event.outcome + steps_to_come event.state_after ≡ steps_to_come old + 5 * length (arrives event.step event.outcome)
event_counts g old event allowed = by (ways g old event allowed)
  where
    by : {event : Event} {p : Passed} → Way g old event p → steps_at event.outcome + steps_to_come event.state_after ≡ steps_to_come old + 5 * length p.come
    by (Nothing s o quiet) = let none = quiet.1 in omega (arith, none)
    by (Arrives m works fits) = let more = length-append old.core.waiting ((old.core.next, m) ∷ []) in omega (arith, more)
    by (Grants hand found works free first) =
        let counted = hands-set has_job old.hands hand Empty (Job found.0.0) free in
        let more = length-append old.core.in_flight (found.0 ∷ []) in
        let fewer = length-picked _ old.core.waiting found first in
        omega (arith, counted, more, fewer)
    by (Runs i ticket job) = let k = hands-set has_job old.hands i (Job ticket) (Result ticket) job in omega (arith, k)
    by (Backs i ticket found result one_out) =
        let k = hands-set has_job old.hands i (Result ticket) Empty result in
        let fewer = length-picked _ old.core.in_flight found one_out in
        let more = length-append old.core.ran ((found.0.0, found.0.1, reply_to g old.core.committed found.0.1) ∷ []) in
        omega (arith, k, fewer, more)
    by (Logs n works) =
        let parts = ap length (sym (take-append-drop n old.core.ran)) ∙ length-append (take n old.core.ran) (drop n old.core.ran) in
        let more = length-append old.core.logged (take n old.core.ran) in
        omega (arith, parts, more)
    by (Answers a rest front) = let long = ap length front in omega (arith, long)
    by (Points s o room pieces_left works quiet fits) = let none = quiet.1 in omega (arith, none)
    by (Fails s o doubt works quiet doubts) = let none = quiet.1 in omega (arith, none)

pub run_counts : (g : Geometry) (old : MachineState) (events : List Event) → IsLegal g old events
    → steps_in events + steps_to_come (end_state old events) ≡ steps_to_come old + 5 * length (arrived events)
run_counts g old [] legal = omega arith
run_counts g old (event ∷ events) legal =
    let first = event_counts g old event legal.0 in
    let rest = run_counts g event.state_after events legal.1 in
    let one = sum_by-cons (λ (event : Event). steps_at event.outcome) event events in
    let more = length-append (arrives event.step event.outcome) (arrived events) in
    omega (arith, first, rest, one, more)

-- the events that do something are no more than the steps that messages take in them
useful_few : (events : List Event) → useful_events events ≤ steps_in events
useful_few events = sum_by-each _ _ (λ (event : Event). at_most (steps_at event.outcome) (nat_lt 0 (steps_at event.outcome))
    (ltb-true 0 (steps_at event.outcome))) events
  where
    at_most : (n : ℕ) (b : Bool) → (b ≡ true → 0 < n) → cond b 1 0 ≤ n
    at_most n true h = let less = h refl in omega (arith, less)
    at_most n false h = omega arith

pub run_ends : (g : Geometry) (old : MachineState) (events : List Event) → IsLegal g old events
    → useful_events events + steps_to_come (end_state old events) ≤ steps_to_come old + 5 * length (arrived events)
run_ends g old events legal = let all = run_counts g old events legal in let few = useful_few events in omega (arith, all, few)

-- Where nothing waits, nothing is held and every hand is empty, no step is to come.
none_to_come : (w : MachineState) → IsIdle w.core → full_hands w.hands ≡ 0 → steps_to_come w ≡ 0
none_to_come w idle empty =
    let waiting = ap length idle.none_waits in
    let in_flight = ap length (none_in_flight w.core idle) in
    let ran = ap length (none_ran w.core idle) in
    let logged = ap length (none_logged w.core idle) in
    let jobs = few_hands has_job refl w.hands in
    omega (arith, waiting, in_flight, ran, logged, jobs, empty)

pub run_from_idle : (g : Geometry) (old : MachineState) (events : List Event) → IsLegal g old events → IsIdle old.core → full_hands old.hands ≡ 0
    → useful_events events ≤ 5 * length (arrived events)
run_from_idle g old events legal idle empty =
    let all = run_ends g old events legal in let none = none_to_come old idle empty in omega (arith, all, none)
