-- In `doubt` are the changes among a prefix of those that ran: here changes are those that were carried out.
use Rattle.std.proofs.Common.{◌≡◌, ℕ, zero, suc, ◌≤◌, Bool, true, false, List, [], ◌∷◌, refl, ap, sym, ◌∙◌, length, map, take, arith}
use Rattle.std.specs.Prelude.{cond, filter, if◌then◌else◌}
use Rattle.std.proofs.lemmas.List.{length-append, length-take-le, take-append-le, take-take}
use Rattle.affinity.specs.declared.geometry.Geometry.{Geometry}
use Rattle.protocol.specs.declared.messages.Msg.{Msg}
use Rattle.meaning.specs.Step.{is_recorded}
use Rattle.histories.specs.declared.outcomes.Step.{Step}
use Rattle.histories.specs.declared.outcomes.Step.TheVariants as steps
use Rattle.histories.specs.CoreState.{Replied, CoreState}
use Rattle.histories.specs.MachineState.{MachineState}
use Rattle.histories.specs.Events.{Event, IsAllowed, recorded}
use Rattle.histories.specs.Runs.{IsLegal, end_state}
use Rattle.histories.specs.Crash.{in_doubt, next_batch, to_append}
use Rattle.histories.specs.Failures.{DoubtOnlyAfterFailure, DoubtIsPrefixOfRan}
use Rattle.histories.proofs.Failures.{failure_lasts}
use Rattle.histories.proofs.Lists.{first_few}
use Rattle.histories.proofs.Ways.{Passed, Way, Fails, ways}
use Rattle.histories.proofs.IsSoundCoreState.{event_doubts}

-- ---- the changes among the first of those that ran

-- These are the changes among a prefix of those that ran.
pub record AreOfFirst (ran : List Replied) (ms : List Msg) : Type 0 where
  pub some : ℕ
  pub at_most : some ≤ length ran
  pub are : recorded (take some ran) ≡ ms

none_of : (ran : List Replied) → AreOfFirst ran []
none_of ran = record { some = 0; at_most = omega arith; are = refl }

none_first : (ran : List Replied) (k : ℕ) → AreOfFirst ran (take k [])
none_first ran zero = none_of ran
none_first ran (suc k) = none_of ran

-- The first k of the changes among the messages that ran are the changes among a prefix of these messages.
pub first_changes : (ran : List Replied) (k : ℕ) → AreOfFirst ran (take k (recorded ran))
first_changes ran zero = none_of ran
first_changes [] (suc k) = none_of []
first_changes (a ∷ ran) (suc k) =
    elim (is_recorded a.1 a.2) as (λ b. is_recorded a.1 a.2 ≡ b → AreOfFirst (a ∷ ran) (take (suc k) (picked b ran))) [
      | true ↦ λ e. let h = first_changes ran k in more h.some h.at_most (ap (λ b. picked b (take h.some ran)) e ∙ ap (λ l. a.1 ∷ l) h.are)
      | false ↦ λ e. let h = first_changes ran (suc k) in more h.some h.at_most (ap (λ b. picked b (take h.some ran)) e ∙ h.are)
    ] refl
  where
    more : {ms : List Msg} (n : ℕ) → n ≤ length ran → recorded (take (suc n) (a ∷ ran)) ≡ ms → AreOfFirst (a ∷ ran) ms
    more n few are = record { some = suc n; at_most = omega (arith, few); are = are }

    picked : Bool → List Replied → List Msg
    picked b l = map (λ (a : Replied). a.1) (cond b (a ∷ filter (λ a. is_recorded a.1 a.2) l) (filter (λ a. is_recorded a.1 a.2) l))

-- ---- each core state, and each moment of a run

pub no_doubts : (w : CoreState) → w.doubt ≡ [] → DoubtIsPrefixOfRan w
no_doubts w e = record { some = 0; at_most = omega arith; is = e }

-- A prefix of `doubt` is the changes among a prefix of those that ran.
pub first_doubts : (w : CoreState) → DoubtIsPrefixOfRan w → (k : ℕ) → AreOfFirst w.ran (take k w.doubt)
first_doubts w h k =
    let first = first_changes (take h.some w.ran) k in
    let long = length-take-le h.some w.ran h.at_most in
    record {
      some = first.some;
      at_most = omega (arith, first.at_most, long, h.at_most);
      are = ap recorded (sym (take-take first.some h.some w.ran (omega (arith, first.at_most, long)))) ∙ first.are ∙ ap (take k) (sym h.is);
    }

way_doubts_ran : {g : Geometry} {old : MachineState} {event : Event} {p : Passed} → Way g old event p → old.core.doubt ≡ []
    → DoubtIsPrefixOfRan event.state_after.core
way_doubts_ran (Fails s o doubt works quiet doubts) none = doubts none
way_doubts_ran _ none = no_doubts _ none

-- An event keeps this: if the device had failed before, what ran stays first in `ran`, and `doubt` stays; else nothing was in `doubt`.
pub event_doubts_ran : (g : Geometry) (old : MachineState) (event : Event) → IsAllowed g old event → DoubtOnlyAfterFailure old.core
    → DoubtIsPrefixOfRan old.core → DoubtIsPrefixOfRan event.state_after.core
event_doubts_ran g old event allowed only h = by old.core.failed refl
  where
    by : (b : Bool) → old.core.failed ≡ b → DoubtIsPrefixOfRan event.state_after.core
    by true failed =
        let s = failure_lasts g old event allowed failed in
        let long = ap length s.ran ∙ length-append old.core.ran s.back in
        record {
          some = h.some;
          at_most = omega (arith, h.at_most, long);
          is = s.doubt ∙ h.is ∙ ap recorded (sym (ap (take h.some) s.ran ∙ take-append-le h.some old.core.ran s.back h.at_most));
        }
    by false sound = way_doubts_ran (ways g old event allowed) (only sound)

pub run_doubts_ran : (g : Geometry) (old : MachineState) (events : List Event) → IsLegal g old events → DoubtOnlyAfterFailure old.core
    → DoubtIsPrefixOfRan old.core → DoubtIsPrefixOfRan (end_state old events).core
run_doubts_ran g old [] legal only h = h
run_doubts_ran g old (event ∷ events) legal only h =
    run_doubts_ran g event.state_after events legal.1 (event_doubts g old event legal.0 only) (event_doubts_ran g old event legal.0 only h)

to_append_ran : (w : CoreState) (s : Step) (k : ℕ) → AreOfFirst w.ran (take k (to_append w s))
to_append_ran w (steps.Log n) k =
    let few = first_few n w.ran in
    let h = first_doubts (record w { doubt = recorded (take few.0 w.ran) }) (record { some = few.0; at_most = few.1; is = refl }) k in
    record { some = h.some; at_most = h.at_most; are = h.are ∙ ap (λ l. take k (recorded l)) few.2 }
to_append_ran w _ k = none_first w.ran k

next_ran : (w : CoreState) (events : List Event) (k : ℕ) → AreOfFirst w.ran (take k (next_batch w events))
next_ran w [] k = none_first w.ran k
next_ran w (event ∷ events) k = to_append_ran w event.step k

-- A prefix of `in_doubt`, which a crash may leave in the log, is the changes among a prefix of those that ran.
pub crash_doubts_ran : (w : CoreState) → DoubtIsPrefixOfRan w → (events : List Event) (k : ℕ) → AreOfFirst w.ran (take k (in_doubt w events))
crash_doubts_ran w h events k =
    elim w.failed as (λ b. AreOfFirst w.ran (take k (if b then w.doubt else next_batch w events))) [
      | true ↦ first_doubts w h k
      | false ↦ next_ran w events k
    ]
