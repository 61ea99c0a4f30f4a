-- Statement for engineers: What every core state keeps.
use Rattle.std.specs.Prelude.{◌≡◌, ℕ, ◌+◌, ◌<◌, ◌≤◌, List, ◌++◌, length}
use Rattle.std.specs.List.{AllByRecursion}
use Rattle.affinity.specs.declared.geometry.Geometry.{Geometry}
use Rattle.meaning.specs.State.{State}
use Rattle.meaning.specs.Step.{reply_to}
use Rattle.histories.specs.CoreState.{Replied, CoreState, held, AreUnrelated, AreAscending, HaveDistinctTickets}
use Rattle.histories.specs.Eligible.{unlogged_changes}

-- each reply is the one that its message gets in state x
abbrev pub HaveRepliesAt : Geometry → State → List Replied → Type 0
HaveRepliesAt g x as' = AllByRecursion (λ a. a.2 ≡ reply_to g x a.1) as'

-- What every core state keeps.
pub record IsSoundCoreState (g : Geometry) (w : CoreState) : Type 0 where
  -- no two messages held at once are at related places
  pub apart : AreUnrelated g (held w)
  -- each message that ran, and isn't logged yet, has the reply that it gets in the committed state
  pub replied : HaveRepliesAt g w.committed w.ran
  -- the waiting messages are in the order of their tickets
  pub ascending : AreAscending w.waiting
  -- no two messages in flight or waiting have the same ticket, and each of their tickets is below the next one to be given
  pub once : HaveDistinctTickets (w.in_flight ++ w.waiting)
  pub given : AllByRecursion (λ e. e.0 < w.next) (w.in_flight ++ w.waiting)
  -- the log has room for all changing messages that are in flight or ran
  pub room : unlogged_changes w ≤ w.room
  -- there is a slot for each message
  pub fits : length w.waiting + length (held w) ≤ w.slots

-- The log has room for all changing messages that are in flight or ran, and there is a slot for each message.
abbrev pub HasRoom : ℕ → CoreState → Type 0
HasRoom slots w = (unlogged_changes w ≤ w.room) × (length w.waiting + length (held w) ≤ slots)
