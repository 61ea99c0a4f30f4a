-- What a crash of a legal run may leave.
use Rattle.std.proofs.Common.{◌≡◌, ℕ, zero, suc, ◌≤◌, List, [], ◌∷◌, ◌++◌, refl, ap, sym, ◌∙◌, append_assoc, take, drop, arith}
use Rattle.affinity.specs.declared.geometry.Geometry.{Geometry}
use Rattle.protocol.specs.declared.messages.Msg.{Msg}
use Rattle.meaning.specs.State.{State}
use Rattle.meaning.specs.Step.{state_after_all}
use Rattle.histories.specs.CoreState.{Replied}
use Rattle.histories.specs.MachineState.{MachineState}
use Rattle.histories.specs.Events.{Event, recorded}
use Rattle.histories.specs.Runs.{IsLegal, end_state, logged_at, appended_messages, logged_messages}
use Rattle.histories.specs.Crash.{in_doubt, IsLogAfter, IsLeftSince}
use Rattle.histories.specs.IsSoundCoreState.{IsSoundCoreState}
use Rattle.histories.proofs.SerialReplies.{state_after_all-joined}
use Rattle.histories.proofs.Runs.{appended_is_recorded, run_appended}
use Rattle.histories.proofs.Entries.{recorded-append}

pub legal_first : (g : Geometry) (old : MachineState) (events : List Event) (k : ℕ) → IsLegal g old events → IsLegal g old (take k events)
legal_first g old events zero legal = tt
legal_first g old [] (suc k) legal = tt
legal_first g old (event ∷ events) (suc k) legal = (legal.0, legal_first g event.state_after events k legal.1)

-- what the first k events log is a prefix of what the first `after` events log
pub went_first : (old : MachineState) (events : List Event) (k after : ℕ) → k ≤ after
    → (rest : List Replied) × (logged_messages old (take after events) ≡ logged_messages old (take k events) ++ rest)
went_first old events zero after le = (logged_messages old (take after events), refl)
went_first old events (suc k) zero le = absurd (omega (arith, le))
went_first old [] (suc k) (suc after) le = ([], refl)
went_first old (event ∷ events) (suc k) (suc after) le =
    let j = went_first event.state_after events k after (omega (arith, le)) in
    let now = logged_at old.core event.step event.device_failed in
    (j.0, ap (λ l. now ++ l) j.1 ∙ sym (append_assoc now (logged_messages event.state_after (take k events)) j.0))

-- so it is with what they append
pub appended_first : (old : MachineState) (events : List Event) (k after : ℕ) → k ≤ after
    → (rest : List Msg) × (appended_messages old (take after events) ≡ appended_messages old (take k events) ++ rest)
appended_first old events k after le =
    let j = went_first old events k after le in (
      recorded j.0,
      appended_is_recorded old (take after events) ∙ ap recorded j.1 ∙ recorded-append (logged_messages old (take k events)) j.0
          ∙ ap (λ l. l ++ recorded j.0) (sym (appended_is_recorded old (take k events))),
    )

-- Whatever state a crash leaves, it comes of a log that begins with all that the first k events appended.
pub left_begins : (g : Geometry) (old : MachineState) (events : List Event) (k : ℕ) (x : State) → IsLeftSince g old events k x
    → (rest : List Msg) × (x ≡ state_after_all g old.core.committed (appended_messages old (take k events) ++ rest))
left_begins g old events k x left =
    let j = appended_first old events k left.after left.since in
    let rest = take left.is_log.some (in_doubt (end_state old (take left.after events)).core (drop left.after events)) in (
      j.0 ++ rest,
      left.state ∙ ap (state_after_all g old.core.committed) (left.is_log.is ∙ ap (λ l. l ++ rest) j.1
          ∙ append_assoc (appended_messages old (take k events)) j.0 rest),
    )

-- If the next event has not ended, that is the state committed after k events, with a prefix of the messages in doubt then.
pub left_is_committed : (g : Geometry) (old : MachineState) (events : List Event) (k : ℕ) (ms : List Msg) → IsLegal g old events
    → IsSoundCoreState g old.core → (log : IsLogAfter old events k ms)
    → state_after_all g old.core.committed ms
    ≡ state_after_all g (end_state old (take k events)).core.committed (take log.some (in_doubt (end_state old (take k events)).core (drop k events)))
left_is_committed g old events k ms legal h log =
    let rest = take log.some (in_doubt (end_state old (take k events)).core (drop k events)) in
    ap (state_after_all g old.core.committed) log.is ∙ state_after_all-joined g old.core.committed (appended_messages old (take k events)) rest
    ∙ ap (λ y. state_after_all g y rest) (sym (run_appended g old (take k events) (legal_first g old events k legal) h))
