-- Statement for operators: Legal runs: lists of events, each of them allowed in the machine state that the ones before it left.
use Rattle.std.specs.Prelude.{ℕ, Bool, ◌||◌, List, [], ◌∷◌, ◌++◌, take, if◌then◌else◌, ◌≡◌}
use Rattle.affinity.specs.declared.geometry.Geometry.{Geometry}
use Rattle.protocol.specs.declared.messages.Msg.{Msg}
use Rattle.protocol.specs.declared.replies.Reply.{Reply}
use Rattle.histories.specs.declared.outcomes.Step.{Step}
use Rattle.histories.specs.declared.outcomes.Step.TheVariants as steps
use Rattle.histories.specs.declared.outcomes.Outcome.{Outcome}
use Rattle.histories.specs.declared.outcomes.Outcome.TheVariants as outcomes
use Rattle.histories.specs.CoreState.{Entry, Replied, CoreState}
use Rattle.histories.specs.MachineState.{MachineState}
use Rattle.histories.specs.Events.{Event, IsAllowed, batch, recorded}

-- Each of these events is allowed where it comes, in a run from this machine state.
abbrev pub IsLegal : Geometry → MachineState → List Event → Type 0
IsLegal g old [] = Unit {0}
IsLegal g old (event ∷ events) = IsAllowed g old event × IsLegal g event.state_after events

-- the machine state after a run
abbrev pub end_state : MachineState → List Event → MachineState
end_state old [] = old
end_state old (event ∷ events) = end_state event.state_after events

-- the messages that a step logs, which move from `ran` to `logged`; none, if the device failed during the step or before
abbrev pub logged_at : CoreState → Step → Bool → List Replied
logged_at w (steps.Log n) device_failed = if device_failed || w.failed then [] else take n w.ran
logged_at w _ device_failed = []

-- the messages that a step appends to the log: the changes that were carried out among those that it logs
abbrev pub appended_at : CoreState → Step → Bool → List Msg
appended_at w (steps.Log n) device_failed = if device_failed || w.failed then [] else batch w n
appended_at w _ device_failed = []

-- the message that arrives at a step with this outcome, with its ticket; none at any other step
abbrev pub arrives : Step → Outcome → List Entry
arrives (steps.Arrive m) (outcomes.Ticket ticket) = (ticket, m) ∷ []
arrives _ _ = []

-- the reply that an outcome gives, with the ticket of its message; only `Answered` gives one
abbrev pub answers : Outcome → List (ℕ × Reply)
answers (outcomes.Answered ticket reply) = (ticket, reply) ∷ []
answers _ = []

-- the messages that a run logs, in log order
abbrev pub logged_messages : MachineState → List Event → List Replied
logged_messages w [] = []
logged_messages w (event ∷ events) = logged_at w.core event.step event.device_failed ++ logged_messages event.state_after events

-- the messages that a run appends to the log
abbrev pub appended_messages : MachineState → List Event → List Msg
appended_messages w [] = []
appended_messages w (event ∷ events) = appended_at w.core event.step event.device_failed ++ appended_messages event.state_after events

-- the messages that arrive in a run, in order
abbrev pub arrived : List Event → List Entry
arrived [] = []
arrived (event ∷ events) = arrives event.step event.outcome ++ arrived events

-- the replies that a run gives, in order, each with the ticket of its message
abbrev pub answered : List Event → List (ℕ × Reply)
answered [] = []
answered (event ∷ events) = answers event.outcome ++ answered events

-- the message that an outcome answers, the oldest logged one; only `Answered` answers one
abbrev pub answered_at : CoreState → Outcome → List Replied
answered_at w (outcomes.Answered ticket reply) = take 1 w.logged
answered_at w _ = []

-- the messages that a run answers, in order
abbrev pub answered_messages : MachineState → List Event → List Replied
answered_messages w [] = []
answered_messages w (event ∷ events) = answered_at w.core event.outcome ++ answered_messages event.state_after events

-- the changes that were carried out among the messages that a run answers
abbrev pub answered_changes : MachineState → List Event → List Msg
answered_changes w events = recorded (answered_messages w events)

-- Two runs, the second from where the first ended, are one run, which does what the two do.
pub record IsJoined (g : Geometry) (old : MachineState) (events more : List Event) : Type 0 where
  pub legal : IsLegal g old (events ++ more)
  pub end_state_is : end_state old (events ++ more) ≡ end_state (end_state old events) more
  pub logged_is : logged_messages old (events ++ more) ≡ logged_messages old events ++ logged_messages (end_state old events) more
  pub appended_is : appended_messages old (events ++ more) ≡ appended_messages old events ++ appended_messages (end_state old events) more
  pub arrived_is : arrived (events ++ more) ≡ arrived events ++ arrived more
  pub answered_is : answered (events ++ more) ≡ answered events ++ answered more
