-- Statement for operators: Incarnations: a server is opened, it runs, and a crash ends it. Then it is opened again.
use Rattle.std.specs.Prelude.{◌≡◌, ℕ, ◌≤◌, List, [], ◌∷◌, ◌++◌, length, take}
use Rattle.affinity.specs.declared.geometry.Geometry.{Geometry}
use Rattle.protocol.specs.declared.messages.Msg.{Msg}
use Rattle.meaning.specs.State.{State, empty}
use Rattle.meaning.specs.Step.{state_after_all}
use Rattle.histories.specs.MachineState.{MachineState}
use Rattle.histories.specs.Events.{Event}
use Rattle.histories.specs.Runs.{IsLegal, answered_changes}
use Rattle.histories.specs.Crash.{IsLogAfter}
use Rattle.histories.specs.CoreState.{IsIdle}

-- Either the crash came before the server was open; or the server ran from `start`, and the crash came when at least `ended` of the events
-- were over.
pub data Incarnation : Type 0 where
  Unopened : Incarnation
  Ran : (start : MachineState) → (events : List Event) → (ended : ℕ) → Incarnation

-- The server began in state x with no message in it, and a crash when at least `ended` events were over may leave `log` in the log.
pub record IsLogOfRun (g : Geometry) (x : State) (start : MachineState) (events : List Event) (ended : ℕ) (log : List Msg) : Type 0 where
  pub idle : IsIdle start.core
  pub committed : start.core.committed ≡ x
  pub legal : IsLegal g start events
  pub after : ℕ
  pub since : ended ≤ after
  pub within : after ≤ length events
  pub is_log : IsLogAfter start events after log

-- The incarnation began in state x, and the crash that ended it may leave these messages in the log.
abbrev pub IsLogOf : Geometry → State → Incarnation → List Msg → Type 0
IsLogOf g x Unopened log = log ≡ []
IsLogOf g x (Ran start events ended) log = IsLogOfRun g x start events ended log

-- Each of the incarnations began where the logs before it led, the first one in x, and left its log.
abbrev pub AreLogsOf : Geometry → State → List Incarnation → List (List Msg) → Type 0
AreLogsOf g x [] [] = Unit {0}
AreLogsOf g x [] (log ∷ logs) = ⊥
AreLogsOf g x (incarnation ∷ incarnations) [] = ⊥
AreLogsOf g x (first ∷ rest) (log ∷ logs) = IsLogOf g x first log × AreLogsOf g (state_after_all g x log) rest logs

-- the logs of all incarnations in one list, the first one's first
abbrev pub in_order : List (List Msg) → List Msg
in_order [] = []
in_order (log ∷ logs) = log ++ in_order logs

-- These incarnations, from the empty state on, may leave the state x: the serial server reaches it by the logs of all, in order.
pub record IsLeftByIncarnations (g : Geometry) (incarnations : List Incarnation) (x : State) : Type 0 where
  pub logs : List (List Msg)
  pub are_logs : AreLogsOf g empty incarnations logs
  pub state : x ≡ state_after_all g empty (in_order logs)

-- The log begins with the changes that were answered in the first `ended` events: when these were over, the crash had not come yet.
abbrev pub HoldsAnswered : Incarnation → List Msg → Type 0
HoldsAnswered Unopened log = Unit {0}
HoldsAnswered (Ran start events ended) log = (rest : List Msg) × (log ≡ answered_changes start (take ended events) ++ rest)

-- Each log begins with the changes that were answered in its incarnation, as `HoldsAnswered` counts them.
abbrev pub AllHoldAnswered : List Incarnation → List (List Msg) → Type 0
AllHoldAnswered [] logs = Unit {0}
AllHoldAnswered (incarnation ∷ incarnations) [] = ⊥
AllHoldAnswered (incarnation ∷ incarnations) (log ∷ logs) = HoldsAnswered incarnation log × AllHoldAnswered incarnations logs
