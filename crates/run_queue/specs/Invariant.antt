-- Inner: How a `RunQueue` keeps waiting and held messages.
use Rattle.std.specs.Prelude.{◌≡◌, ◌≤◌, ℕ, List, Option}
use Rattle.std.specs.List.{AllByRecursion}
use Rattle.affinity.specs.Interval.{IsAffinity, affinity_count}
use Rattle.affinity.specs.declared.geometry.Geometry.{Geometry}
use Rattle.run_queue.specs.Order.{Ascend}
use Rattle.run_queue.specs.Queues.{Waiting}
use Rattle.run_queue.specs.HeldMessages.{HeldMessages}
use Rattle.run_queue.specs.Slots.{AreInSlots}
use Rattle.run_queue.specs.ReadyTable.{IsEntryRight}
use Rattle.run_queue.specs.declared.queued_message.QueuedMessage.{QueuedMessage}

-- Each message is at an affinity of the geometry, and those that wait are in the order of their tickets.
pub record ArePlacedInOrder (g : Geometry) (held waiting : List QueuedMessage) : Type 0 where
  pub held_placed : AllByRecursion (λ t. IsAffinity g t.affinity) held
  pub waiting_placed : AllByRecursion (λ t. IsAffinity g t.affinity) waiting
  pub ascends : Ascend waiting

-- There is a queue and an entry for each affinity of any geometry, and each message has a slot of its own: what `Messages` keeps.
pub record AreQueued (g : Geometry) (slots : ℕ) (waiting : Waiting) (held : HeldMessages) : Type 0 where
  pub queues : (any : Geometry) → affinity_count any ≤ waiting.numbers
  pub entries : (any : Geometry) → affinity_count any ≤ held.numbers
  pub capacity : waiting.capacity ≡ slots
  pub in_slots : AreInSlots slots waiting.messages held.messages
  pub placed : ArePlacedInOrder g held.messages waiting.messages

-- Each entry of the ready table is right.
abbrev pub AreEntriesRight : List QueuedMessage → List QueuedMessage → List (Option QueuedMessage) → Type 0
AreEntriesRight held waiting ready_table = (n : ℕ) → IsEntryRight held waiting ready_table n
