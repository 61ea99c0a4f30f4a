-- The messages that a run answers are the first of those that were logged before it and in it.
use Rattle.std.proofs.Common.{◌≡◌, ℕ, ◌≤◌, List, [], ◌∷◌, ◌++◌, refl, ap, sym, ◌∙◌, append_assoc, take, drop}
use Rattle.std.proofs.lemmas.List.{append-nil}
use Rattle.affinity.specs.declared.geometry.Geometry.{Geometry}
use Rattle.protocol.specs.declared.messages.Msg.{Msg}
use Rattle.histories.specs.declared.outcomes.Outcome.{Outcome}
use Rattle.histories.specs.CoreState.{Replied, CoreState}
use Rattle.histories.specs.MachineState.{MachineState}
use Rattle.histories.specs.Events.{Event, recorded}
use Rattle.histories.specs.Runs.{IsLegal, end_state, logged_at, logged_messages, appended_messages, answered, answered_at, answered_messages, answered_changes}
use Rattle.histories.specs.Crash.{IsLogAfter, in_doubt}
use Rattle.histories.specs.IsSerialHistory.{ticket_replies}
use Rattle.histories.proofs.Ways.{Passed, Way, nothing, Nothing, Logs, Answers, Points, Fails, ways}
use Rattle.histories.proofs.SerialReplies.{ticket_replies-append}
use Rattle.histories.proofs.Runs.{appended_is_recorded}
use Rattle.histories.proofs.Entries.{recorded-append}
use Rattle.histories.proofs.Crashes.{legal_first, appended_first}

-- What was logged before an event, and then what it logs, is the message that it answers, if any, and then what is logged after it.
record Ordered (old : CoreState) (logged : List Replied) (p : Passed) (o : Outcome) : Type 0 where
  order : old.logged ++ p.gone ≡ answered_at old o ++ logged
  same : ticket_replies (answered_at old o) ≡ p.reply_pairs

silent : (w : CoreState) (o : Outcome) → answered_at w o ≡ [] → Ordered w w.logged nothing o
silent w o none = record { order = append-nil w.logged ∙ ap (λ l. l ++ w.logged) (sym none); same = ap ticket_replies none }

way_ordered : {g : Geometry} {old : MachineState} {event : Event} {p : Passed} → Way g old event p
    → Ordered old.core event.state_after.core.logged p event.outcome
way_ordered {old = old} (Logs n works) = record { order = refl; same = refl }
way_ordered {old = old} (Answers a rest front) = record {
  order = append-nil old.core.logged ∙ front ∙ ap (λ l. take 1 l ++ rest) (sym front);
  same = ap (λ l. ticket_replies (take 1 l)) front;
}
way_ordered {old = old} (Nothing s o quiet) = silent old.core o quiet.0
way_ordered {old = old} (Points s o room pieces_left works quiet fits) = silent old.core o quiet.0
way_ordered {old = old} (Fails s o doubt works quiet doubts) = silent old.core o quiet.0
way_ordered {old = old} _ = record { order = append-nil old.core.logged; same = refl }

-- ---- a run

pub run_in_order : (g : Geometry) (old : MachineState) (events : List Event) → IsLegal g old events
    → old.core.logged ++ logged_messages old events ≡ answered_messages old events ++ (end_state old events).core.logged
run_in_order g old [] legal = append-nil old.core.logged
run_in_order g old (event ∷ events) legal =
    let gone = logged_at old.core event.step event.device_failed in
    let later = logged_messages event.state_after events in
    let now = answered_at old.core event.outcome in
    sym (append_assoc old.core.logged gone later)
    ∙ ap (λ l. l ++ later) (way_ordered (ways g old event legal.0)).order
    ∙ append_assoc now event.state_after.core.logged later
    ∙ ap (λ l. now ++ l) (run_in_order g event.state_after events legal.1)
    ∙ sym (append_assoc now (answered_messages event.state_after events) (end_state event.state_after events).core.logged)

pub run_replies : (g : Geometry) (old : MachineState) (events : List Event) → IsLegal g old events
    → ticket_replies (answered_messages old events) ≡ answered events
run_replies g old [] legal = refl
run_replies g old (event ∷ events) legal =
    let k = way_ordered (ways g old event legal.0) in
    ticket_replies-append (answered_at old.core event.outcome) (answered_messages event.state_after events)
    ∙ (λ i. k.same i ++ run_replies g event.state_after events legal.1 i)

-- The replies of what was logged before a run and in it, in log order, are those that it gives, and then those of what is still logged.
pub run_answers : (g : Geometry) (old : MachineState) (events : List Event) → IsLegal g old events
    → ticket_replies old.core.logged ++ ticket_replies (logged_messages old events) ≡ answered events ++ ticket_replies (end_state old events).core.logged
run_answers g old events legal =
    sym (ticket_replies-append old.core.logged (logged_messages old events)) ∙ ap ticket_replies (run_in_order g old events legal)
    ∙ ticket_replies-append (answered_messages old events) _ ∙ ap (λ l. l ++ ticket_replies (end_state old events).core.logged) (run_replies g old events legal)

-- The changes logged at the start, and then the log that a later crash leaves, begin with all changes that were answered.
pub answered_left : (g : Geometry) {old : MachineState} {events : List Event} {k after : ℕ} {ms : List Msg} → IsLegal g old events → k ≤ after
    → IsLogAfter old events after ms
    → (rest : List Msg) × (recorded old.core.logged ++ ms ≡ answered_changes old (take k events) ++ rest)
answered_left g {old} {events} {k} {after} legal le log =
    let j = appended_first old events k after le in
    let first = take k events in
    let begun = recorded old.core.logged in
    let more = j.0 ++ take log.some (in_doubt (end_state old (take after events)).core (drop after events)) in
    let still = recorded (end_state old first).core.logged in
    let answers_first : begun ++ appended_messages old first ≡ answered_changes old first ++ still =
    ap (λ l. begun ++ l) (appended_is_recorded old first) ∙ sym (recorded-append old.core.logged (logged_messages old first))
    ∙ ap recorded (run_in_order g old first (legal_first g old events k legal))
    ∙ recorded-append (answered_messages old first) (end_state old first).core.logged in (
      still ++ more,
      ap (λ l. begun ++ l) (log.is ∙ ap (λ l. l ++ take log.some (in_doubt (end_state old (take after events)).core (drop after events))) j.1
          ∙ append_assoc (appended_messages old first) j.0 _)
          ∙ sym (append_assoc begun (appended_messages old first) more) ∙ ap (λ l. l ++ more) answers_first
          ∙ append_assoc (answered_changes old first) still more,
    )
