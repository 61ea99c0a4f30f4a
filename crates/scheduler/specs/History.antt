-- Inner: What contracts know of a core's past.
use Rattle.std.specs.Prelude.{List, [], ◌++◌}
use Rattle.protocol.specs.declared.messages.Msg.{Msg}
use Rattle.parcel.specs.Tree.{TreeView}
use Rattle.scheduler.specs.declared.history.Appended.{Appended, Nothing, After'}

-- the tree when the core was opened, and the messages appended to the log since
pub record HistoryView : Type 0 where
  pub opened : TreeView
  pub since_open : List Msg

-- the messages of all batches, the oldest first (`After'` is `After` with its last snapshot taken apart: `before` is the value in it)
abbrev pub messages_in : Appended → List Msg
messages_in Nothing = []
messages_in (After' batch _ before) = messages_in before ++ batch.value.items
