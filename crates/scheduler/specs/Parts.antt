-- Statement for engineers: The parts of which a core is made, as contracts see them.
use Rattle.std.specs.Prelude.{ℕ, List}
use Rattle.checkpoint.specs.Journal.{JournalView}
use Rattle.protocol.specs.declared.messages.Msg.{Msg}
use Rattle.parcel.specs.Tree.{TreeView}
use Rattle.scheduler.specs.Slots.{Phases}
use Rattle.run_queue.specs.RunQueue.{RunQueueView}

pub record Parts : Type 0 where
  pub phases : Phases
  -- how many slots are free, and how many there are
  pub free : ℕ
  pub capacity : ℕ
  pub tree : TreeView
  pub journal : JournalView
  pub queue : RunQueueView
  -- the changes that a call of `log` hands to the journal; if the device fails then, they stay, as `doubt`
  pub batch : List Msg
  -- the ticket of the next message
  pub next : ℕ
  -- how many changing messages are in flight or ran
  pub unlogged : ℕ
  -- the tree when the core was opened, and the messages appended to the log since then
  pub opened : TreeView
  pub since_open : List Msg
