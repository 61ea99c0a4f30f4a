-- Statement for operators: What a device holds of what was sent.
use Rattle.std.specs.Prelude.{◌≡◌, ◌+◌, ◌≤◌, ℕ, List, length, Option, None}
use Rattle.std.specs.Io.KnownBytes.{Appends}
use Rattle.affinity.specs.declared.geometry.Geometry.{Geometry}
use Rattle.recovery.specs.Header.{HasHeader}
use Rattle.recovery.specs.Refusals.{refused}
use Rattle.histories.specs.CoreState.{Replied}
use Rattle.meaning.specs.Output.{joined}
use Rattle.meaning.specs.State.{State}
use Rattle.serving.specs.History.{AreInHistory, RecoversToHistory}
use Rattle.serving.specs.Lines.{admitted, ticketed}
use Rattle.serving.specs.Runs.{AreFirst}

-- A device of these bytes holds what was sent since the state `start`: a line for each of the first lines of the input, and no more of the
-- lines that were consumed lack one than there are slots. Each message with a ticket among the lines that were answered is in a history,
-- with the reply that was sent; `next` is the first ticket. The bytes recover to the state to which the changes of that history lead from
-- `start`, perhaps with more of the messages that arrived; and they are not refused.
pub record HoldsSent (g : Geometry) (start : State) (slots next : ℕ) (input before sent : Option (List ℕ)) (bytes : List ℕ) : Type 0 where
  pub consumed : List (List ℕ)
  pub first : AreFirst input consumed
  pub lines : List (List ℕ)
  pub output : Appends before sent (joined lines)
  pub few : length consumed ≤ length lines + slots
  pub history : List Replied
  pub kept : AreInHistory g history next consumed lines
  pub holds : RecoversToHistory g start (ticketed next (admitted g consumed)) history bytes
  pub header : HasHeader g bytes
  pub not_refused : refused g bytes ≡ None
