-- The replies in a legal run, in log order, and the state that it commits.
use Rattle.std.proofs.Common.{◌≡◌, Bool, true, false, List, [], ◌∷◌, ◌++◌, refl, ap, sym, ◌∙◌, take}
use Rattle.std.specs.Prelude.{◌||◌, if◌then◌else◌}
use Rattle.affinity.specs.declared.geometry.Geometry.{Geometry}
use Rattle.meaning.specs.Step.{state_after_all}
use Rattle.meaning.specs.TicketOrder.{serial_replies, messages_of}
use Rattle.histories.specs.declared.outcomes.Step.{Step}
use Rattle.histories.specs.declared.outcomes.Step.TheVariants as steps
use Rattle.histories.specs.CoreState.{Replied, CoreState, entries}
use Rattle.histories.specs.MachineState.{MachineState}
use Rattle.histories.specs.Events.{Event, IsAllowed, batch, recorded}
use Rattle.histories.specs.Runs.{IsLegal, end_state, logged_at, appended_at, logged_messages, appended_messages}
use Rattle.histories.specs.IsSoundCoreState.{IsSoundCoreState}
use Rattle.histories.specs.IsSerialHistory.{ticket_replies}
use Rattle.histories.proofs.Ways.{Passed, Way, Logs, ways}
use Rattle.histories.proofs.SerialReplies.{state_after_all-append, state_after_all-joined, serial_replies-append, ticket_replies-append}
use Rattle.histories.proofs.IsSoundCoreState.{row_of, event_sound}
use Rattle.histories.proofs.Entries.{recorded-append, entries-append}

-- ---- what an event or a run logs

-- What is logged has the serial server's replies, and the committed state follows.
pub record Follows (g : Geometry) (old new : CoreState) (gone : List Replied) : Type 0 where
  pub reply_pairs : serial_replies g old.committed (entries gone) ≡ ticket_replies gone
  pub committed : new.committed ≡ state_after_all g old.committed (messages_of (entries gone))

event_follows : (g : Geometry) (old : MachineState) (event : Event) → IsAllowed g old event → IsSoundCoreState g old.core
    → Follows g old.core event.state_after.core (logged_at old.core event.step event.device_failed)
event_follows g old event allowed h = by (ways g old event allowed)
  where
    by : {event : Event} {p : Passed} → Way g old event p → Follows g old.core event.state_after.core p.gone
    by (Logs n works) = let k = row_of g old.core n h in record { reply_pairs = k.reply_pairs; committed = k.logs }
    by _ = record { reply_pairs = refl; committed = refl }

-- The replies of the messages that a run logs are the serial server's, one after the other in log order.
pub run_follows : (g : Geometry) (old : MachineState) (events : List Event) → IsLegal g old events → IsSoundCoreState g old.core
    → Follows g old.core (end_state old events).core (logged_messages old events)
run_follows g old [] legal h = record { reply_pairs = refl; committed = refl }
run_follows g old (event ∷ events) legal h =
    let x = old.core.committed in
    let gone = logged_at old.core event.step event.device_failed in
    let later = logged_messages event.state_after events in
    let k = event_follows g old event legal.0 h in
    let j = run_follows g event.state_after events legal.1 (event_sound g old event legal.0 h) in
    record {
      reply_pairs = ap (serial_replies g x) (entries-append gone later) ∙ serial_replies-append g x (entries gone) (entries later)
          ∙ (λ i. k.reply_pairs i ++ serial_replies g (sym k.committed i) (entries later)) ∙ ap (λ l. ticket_replies gone ++ l) j.reply_pairs ∙ sym (ticket_replies-append gone later);
      committed = j.committed ∙ ap (λ y. state_after_all g y (messages_of (entries later))) k.committed ∙ sym (state_after_all-append g x (entries gone) (entries later))
          ∙ ap (λ l. state_after_all g x (messages_of l)) (sym (entries-append gone later));
    }

-- ---- what is appended to the log

-- What a step appends leads where the messages that it logs lead.
appends : (g : Geometry) (w : CoreState) (s : Step) (device_failed : Bool) → IsSoundCoreState g w
    → state_after_all g w.committed (appended_at w s device_failed) ≡ state_after_all g w.committed (messages_of (entries (logged_at w s device_failed)))
appends g w (steps.Log k) device_failed h = elim (device_failed || w.failed) as
    (λ b. state_after_all g w.committed (if b then [] else batch w k) ≡ state_after_all g w.committed (messages_of (entries (if b then [] else take k w.ran)))) [
      | true ↦ refl
      | false ↦ (row_of g w k h).logs
    ]
appends g w _ device_failed h = refl

-- The committed state after a run is that to which the messages lead that it appends to the log.
pub run_appended : (g : Geometry) (old : MachineState) (events : List Event) → IsLegal g old events → IsSoundCoreState g old.core
    → (end_state old events).core.committed ≡ state_after_all g old.core.committed (appended_messages old events)
run_appended g old [] legal h = refl
run_appended g old (event ∷ events) legal h =
    run_appended g event.state_after events legal.1 (event_sound g old event legal.0 h)
    ∙ ap (λ x. state_after_all g x (appended_messages event.state_after events)) ((event_follows g old event legal.0 h).committed
    ∙ sym (appends g old.core event.step event.device_failed h))
    ∙ sym (state_after_all-joined g old.core.committed (appended_at old.core event.step event.device_failed) (appended_messages event.state_after events))

appends_recorded : (w : CoreState) (s : Step) (device_failed : Bool) → appended_at w s device_failed ≡ recorded (logged_at w s device_failed)
appends_recorded w (steps.Log k) device_failed = elim (device_failed || w.failed) as
    (λ b. (if b then [] else batch w k) ≡ recorded (if b then [] else take k w.ran)) [ true ↦ refl | false ↦ refl ]
appends_recorded w _ device_failed = refl

-- What a run appends to the log is the changes that were carried out among the messages that it logs.
pub appended_is_recorded : (old : MachineState) (events : List Event) → appended_messages old events ≡ recorded (logged_messages old events)
appended_is_recorded old [] = refl
appended_is_recorded old (event ∷ events) =
    (λ i. appends_recorded old.core event.step event.device_failed i ++ appended_is_recorded event.state_after events i)
    ∙ sym (recorded-append (logged_at old.core event.step event.device_failed) (logged_messages event.state_after events))
