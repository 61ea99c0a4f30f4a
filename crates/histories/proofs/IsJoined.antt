-- A legal run, and one from where it ended, are together one legal run; what a crash of either may leave, a crash of that one may leave.
use Rattle.std.proofs.Common.{◌≡◌, ℕ, zero, suc, ◌+◌, ◌≤◌, true, false, List, [], ◌∷◌, ◌++◌, refl, rules, ap, sym, ◌∙◌, subst, append_assoc, length, take, drop, arith}
use Rattle.std.specs.Prelude.{if◌then◌else◌}
use Rattle.std.proofs.lemmas.List.{drop-append-le, length-append, take-append-le}
use Rattle.affinity.specs.declared.geometry.Geometry.{Geometry}
use Rattle.protocol.specs.declared.messages.Msg.{Msg}
use Rattle.meaning.specs.State.{State}
use Rattle.meaning.specs.Step.{state_after_all}
use Rattle.histories.specs.CoreState.{CoreState}
use Rattle.histories.specs.MachineState.{MachineState}
use Rattle.histories.specs.Events.{Event}
use Rattle.histories.specs.Runs.{IsLegal, end_state, logged_at, appended_at, arrives, answers, appended_messages, IsJoined}
use Rattle.histories.specs.Crash.{in_doubt, next_batch, IsLogAfter, IsLeftSince}
use Rattle.histories.specs.IsSoundCoreState.{IsSoundCoreState}
use Rattle.histories.proofs.Runs.{run_appended}
use Rattle.histories.proofs.SerialReplies.{state_after_all-joined}

pub runs_join : (g : Geometry) (old : MachineState) (events more : List Event) → IsLegal g old events → IsLegal g (end_state old events) more
    → IsJoined g old events more
runs_join g old [] more legal on = search rules
runs_join g old (event ∷ events) more legal on =
    let k = runs_join g event.state_after events more legal.1 on in
    record {
      legal = (legal.0, k.legal);
      end_state_is = k.end_state_is;
      logged_is = ap (λ l. logged_at old.core event.step event.device_failed ++ l) k.logged_is ∙ sym (append_assoc (logged_at old.core event.step event.device_failed) _ _);
      appended_is = ap (λ l. appended_at old.core event.step event.device_failed ++ l) k.appended_is
          ∙ sym (append_assoc (appended_at old.core event.step event.device_failed) _ _);
      arrived_is = ap (λ l. arrives event.step event.outcome ++ l) k.arrived_is ∙ sym (append_assoc (arrives event.step event.outcome) _ _);
      answered_is = ap (λ l. answers event.outcome ++ l) k.answered_is ∙ sym (append_assoc (answers event.outcome) _ _);
    }

-- ---- what a crash leaves

-- A prefix of `in_doubt` stays one when more events follow `rest`. If `rest` is empty, `in_doubt` is empty unless the
-- device has failed, and then it is `doubt`, whatever events follow.
still_in_doubt : (w : CoreState) (rest more : List Event) (n : ℕ) → n ≤ length (in_doubt w rest)
    → (n ≤ length (in_doubt w (rest ++ more))) × (take n (in_doubt w rest) ≡ take n (in_doubt w (rest ++ more)))
still_in_doubt w rest more zero le = (omega arith, refl)
still_in_doubt w [] more (suc n) le =
    elim w.failed as (λ b. suc n ≤ length (if b then w.doubt else [])
    → (suc n ≤ length (if b then w.doubt else next_batch w more))
    × (take (suc n) (if b then w.doubt else []) ≡ take (suc n) (if b then w.doubt else next_batch w more))) [
      | true ↦ λ le. (le, refl)
      | false ↦ λ le. absurd (omega (arith, le))
    ] le
still_in_doubt w (event ∷ rest) more (suc n) le = (le, refl)

pub log_of_first : (old : MachineState) (events more : List Event) (k : ℕ) (ms : List Msg) → k ≤ length events → IsLogAfter old events k ms
    → IsLogAfter old (events ++ more) k ms
log_of_first old events more k ms le log =
    let first = sym (take-append-le k events more le) in
    let rest = sym (drop-append-le k events more le) in
    let still = still_in_doubt (end_state old (take k events)).core (drop k events) more log.some log.at_most in
    record {
      some = log.some;
      at_most = subst (λ l. log.some ≤ length l) (λ i. in_doubt (end_state old (first i)).core (rest i)) still.0;
      is = log.is ∙ ap (λ l. appended_messages old (take k events) ++ l) still.1
          ∙ (λ i. appended_messages old (first i) ++ take log.some (in_doubt (end_state old (first i)).core (rest i)));
    }

pub log_of_second : (old : MachineState) (events more : List Event) (k : ℕ) (ms : List Msg) → IsLogAfter (end_state old events) more k ms
    → IsLogAfter old (events ++ more) (length events + k) (appended_messages old events ++ ms)
log_of_second old [] more k ms log = let none : k ≡ 0 + k = omega arith in subst (λ n. IsLogAfter old more n ms) none log
log_of_second old (event ∷ events) more k ms log =
    let now = appended_at old.core event.step event.device_failed in
    let later = log_of_second event.state_after events more k ms log in
    let one_more : suc (length events + k) ≡ suc (length events) + k = omega arith in
    subst (λ n. IsLogAfter old (event ∷ (events ++ more)) n ((now ++ appended_messages event.state_after events) ++ ms)) one_more (record {
      some = later.some;
      at_most = later.at_most;
      is = append_assoc now _ _ ∙ ap (λ l. now ++ l) later.is ∙ sym (append_assoc now _ _);
    })

pub left_of_first : (g : Geometry) (old : MachineState) (events more : List Event) (k : ℕ) (x : State) → IsLeftSince g old events k x
    → IsLeftSince g old (events ++ more) k x
left_of_first g old events more k x left =
    let long = length-append events more in
    record {
      after = left.after;
      since = left.since;
      within = omega (arith, left.within, long);
      log = left.log;
      is_log = log_of_first old events more left.after left.log left.within left.is_log;
      state = left.state;
    }

pub left_of_second : {g : Geometry} (old : MachineState) (events : List Event) {more : List Event} {k : ℕ} {x : State} → IsLegal g old events
    → IsSoundCoreState g old.core → IsLeftSince g (end_state old events) more k x → IsLeftSince g old (events ++ more) (length events + k) x
left_of_second {g} old events {more} legal sound left =
    let long = length-append events more in
    record {
      after = length events + left.after;
      since = omega (arith, left.since);
      within = omega (arith, left.within, long);
      log = appended_messages old events ++ left.log;
      is_log = log_of_second old events more left.after left.log left.is_log;
      state = left.state ∙ ap (λ y. state_after_all g y left.log) (run_appended g old events legal sound)
          ∙ sym (state_after_all-joined g old.core.committed (appended_messages old events) left.log);
    }
