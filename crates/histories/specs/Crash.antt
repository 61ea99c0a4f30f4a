-- Statement for operators: What a crash of a run may leave.
use Rattle.std.specs.Prelude.{◌≡◌, ℕ, ◌≤◌, List, [], ◌∷◌, ◌++◌, length, take, drop, if◌then◌else◌}
use Rattle.affinity.specs.declared.geometry.Geometry.{Geometry}
use Rattle.protocol.specs.declared.messages.Msg.{Msg}
use Rattle.meaning.specs.State.{State}
use Rattle.meaning.specs.Step.{state_after_all}
use Rattle.histories.specs.declared.outcomes.Step.{Step}
use Rattle.histories.specs.declared.outcomes.Step.TheVariants as steps
use Rattle.histories.specs.CoreState.{CoreState}
use Rattle.histories.specs.MachineState.{MachineState}
use Rattle.histories.specs.Events.{Event, batch}
use Rattle.histories.specs.Runs.{end_state, appended_messages}

-- the messages that a step is to append to the log
abbrev pub to_append : CoreState → Step → List Msg
to_append w (steps.Log n) = batch w n
to_append w _ = []

-- the messages that the first of these events is to append to the log
abbrev pub next_batch : CoreState → List Event → List Msg
next_batch w [] = []
next_batch w (event ∷ events) = to_append w event.step

-- The messages of which a crash in this core state, or during the first of these events, may leave any prefix in the log: in a failed core
-- state `doubt`, else what that event is to append.
abbrev pub in_doubt : CoreState → List Event → List Msg
in_doubt w events = if w.failed then w.doubt else next_batch w events

-- If a crash comes when the first k events of a run have ended and the next one has not, the messages `ms` may be what the run has left in
-- the log: all that those k events appended, and the first `some` of the messages in doubt then (`in_doubt`).
pub record IsLogAfter (old : MachineState) (events : List Event) (k : ℕ) (ms : List Msg) : Type 0 where
  pub some : ℕ
  pub at_most : some ≤ length (in_doubt (end_state old (take k events)).core (drop k events))
  pub is : ms ≡ appended_messages old (take k events) ++ take some (in_doubt (end_state old (take k events)).core (drop k events))

-- A crash that comes when at least k events of the run have ended (namely `after` of them) may leave the state x.
pub record IsLeftSince (g : Geometry) (old : MachineState) (events : List Event) (k : ℕ) (x : State) : Type 0 where
  pub after : ℕ
  pub since : k ≤ after
  pub within : after ≤ length events
  pub log : List Msg
  pub is_log : IsLogAfter old events after log
  pub state : x ≡ state_after_all g old.core.committed log
