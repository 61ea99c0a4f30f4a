-- All is answered in the end, if nothing more arrives and the device works: one step that lowers what is left, and another one, and so on.
use Rattle.std.proofs.Common.{[], ◌≡◌, ℕ, zero, suc, ◌+◌, ◌<◌, ◌≤◌, false, List, ◌∷◌, ◌++◌, refl, ap, sym, ◌∙◌, subst, length, ⊎_elim, arith}
use Rattle.std.specs.Prelude.{IsPermutation}
use Rattle.std.proofs.lemmas.List.{append-nil}
use Rattle.affinity.specs.declared.geometry.Geometry.{Geometry}
use Rattle.image.specs.Pieces.{piece_count}
use Rattle.histories.specs.CoreState.{entries, IsIdle}
use Rattle.histories.specs.MachineState.{MachineState, full_hands, HandsHold}
use Rattle.histories.specs.Events.{Event}
use Rattle.histories.specs.IsSoundCoreState.{IsSoundCoreState}
use Rattle.histories.specs.Progress.{CanAnswerAll, CanDrain, CanStep, EachLeavesLess, IsBusy, work_left}
use Rattle.histories.specs.Runs.{IsLegal, answered_messages, arrived, end_state, logged_messages}
use Rattle.histories.proofs.Failures.{works_on}
use Rattle.histories.proofs.Hands.{event_holds, event_many, last_holds, last_many, start_holds}
use Rattle.histories.proofs.Idle.{idle_sound, none_in_flight, none_logged, none_ran}
use Rattle.histories.proofs.IsJoined.{runs_join}
use Rattle.histories.proofs.CanGoOn.{idle_or_goes_on}
use Rattle.histories.proofs.SerialHistories.{logged_begins, none_lost}
use Rattle.histories.proofs.IsSoundCoreState.{event_sound, last_sound}
use Rattle.histories.proofs.CanStep.{CanWork, goes, can_step}

module _ (g : Geometry) (n : ℕ) (within : n ≤ piece_count g) where
  module _ (w : MachineState) (can : CanWork g w) where
    can_still : (k : CanStep g n w) → CanWork g k.event.state_after
    can_still k =
        let many = event_many g w k.event k.allowed in
        record {
          sound = event_sound g w k.event k.allowed can.sound;
          works = works_on g w k.event k.allowed k.none_fails can.works;
          holds = event_holds g w k.event k.allowed can.holds;
          some_hand = omega (arith, many, can.some_hand);
        }

    -- first a step, and then a run; or nothing is left to do
    drains_on : ((k : CanStep g n w) → CanDrain g n k.event.state_after) → CanDrain g n w
    drains_on rest = ⊎_elim
        (λ (idle : IsIdle w.core). record { events = []; legal = tt; none_arrives = refl; none_fails = tt; online = tt; at_most = omega arith; idle = idle })
        (λ on. step_first (goes g n within w can w.core.in_flight refl on) (rest (goes g n within w can w.core.in_flight refl on)))
        (idle_or_goes_on g w.core can.sound can.works)
      where
        step_first : (k : CanStep g n w) → CanDrain g n k.event.state_after → CanDrain g n w
        step_first k rest = record {
          events = k.event ∷ rest.events;
          legal = (k.allowed, rest.legal);
          none_arrives = λ i. k.none_arrives i ++ rest.none_arrives i;
          none_fails = (k.none_fails, rest.none_fails);
          online = (k.online, rest.online);
          at_most = omega (arith, rest.at_most, k.less);
          idle = rest.idle;
        }

  drains : (fuel : ℕ) (w : MachineState) → CanWork g w → work_left g n w ≤ fuel → CanDrain g n w
  drains zero w can few = drains_on w can (λ k. absurd (omega (arith, few, k.less)))
  drains (suc fuel) w can few = drains_on w can (λ k. drains fuel k.event.state_after (can_still w can k) (omega (arith, few, k.less)))

  pub can_drain : (w : MachineState) → IsSoundCoreState g w.core → w.core.failed ≡ false → HandsHold w → 0 < length w.hands → CanDrain g n w
  can_drain w sound works holds some_hand =
      drains (work_left g n w) w (record { sound = sound; works = works; holds = holds; some_hand = some_hand }) (omega arith)

  less_each : (w : MachineState) (events : List Event) → EachLeavesLess g n w events → length events + work_left g n (end_state w events) ≤ work_left g n w
  less_each w [] h = omega arith
  less_each w (event ∷ events) h = let rest = less_each event.state_after events h.1 in omega (arith, h.0, rest)

  -- whichever events that leave less to do come, they are few, and as long as anything waits or is held, there is another one
  pub any_drains : (w : MachineState) (events : List Event) → IsSoundCoreState g w.core → HandsHold w → 0 < length w.hands → IsLegal g w events
      → EachLeavesLess g n w events → (end_state w events).core.failed ≡ false
      → (length events + work_left g n (end_state w events) ≤ work_left g n w) × (IsBusy (end_state w events).core → CanStep g n (end_state w events))
  any_drains w events sound holds some_hand legal less works = (
    less_each w events less,
    λ busy.
        let many = last_many g w events legal in
        can_step g n within (end_state w events) (last_sound g w events legal sound) works (last_holds g w events legal holds) (omega (arith, some_hand, many)) busy,
  )

  -- where nothing waits and nothing is held in the end, all that arrived was answered
  all_answered : (old : MachineState) (events : List Event) → IsLegal g old events → IsIdle old.core → IsIdle (end_state old events).core
      → IsPermutation (arrived events) (entries (answered_messages old events))
  all_answered old events legal idle ends =
      let now = (end_state old events).core in
      let logged_is : logged_messages old events ≡ answered_messages old events = logged_begins g old events legal idle
      ∙ ap (λ l. answered_messages old events ++ l) (none_logged now ends) ∙ append-nil (answered_messages old events) in
      let rest : entries now.ran ++ (now.in_flight ++ now.waiting) ≡ [] = λ i. entries (none_ran now ends i) ++ (none_in_flight now ends i ++ ends.none_waits i) in
      subst (IsPermutation (arrived events)) ((λ i. entries (logged_is i) ++ rest i) ∙ append-nil (entries (answered_messages old events)))
      (none_lost g old events legal idle)

  pub can_answer_all : (start : MachineState) (events : List Event) → IsLegal g start events → IsIdle start.core → full_hands start.hands ≡ 0
      → 0 < length start.hands → (end_state start events).core.failed ≡ false → CanAnswerAll g n start events
  can_answer_all start events legal idle empty some_hand works =
      let many = last_many g start events legal in
      let k = can_drain (end_state start events) (last_sound g start events legal (idle_sound start.core idle g)) works
      (last_holds g start events legal (start_holds start (none_in_flight start.core idle) empty)) (omega (arith, some_hand, many)) in
      let joined = runs_join g start events k.events legal k.legal in
      let arrived_is : arrived (events ++ k.events) ≡ arrived events = joined.arrived_is
      ∙ ap (λ l. arrived events ++ l) k.none_arrives ∙ append-nil (arrived events) in
      record {
        more = k.events;
        legal = joined.legal;
        none_arrives = k.none_arrives;
        none_fails = k.none_fails;
        online = k.online;
        each_once = subst (λ l. IsPermutation l (entries (answered_messages start (events ++ k.events)))) arrived_is
            (all_answered start (events ++ k.events) joined.legal idle (subst (λ (w : MachineState). IsIdle w.core) (sym joined.end_state_is) k.idle));
      }
