-- Inner: How a `RunQueue` keeps to its slots.
use Rattle.std.specs.Prelude.{ℕ, ◌+◌, ◌≤◌, nat_lt, List, map, if◌then◌else◌}
use Rattle.arena.specs.Lists.{count_of}
use Rattle.run_queue.specs.declared.queued_message.QueuedMessage.{QueuedMessage}

-- the slots of messages
abbrev pub slots_in : List QueuedMessage → List ℕ
slots_in messages = map (λ t. t.slot) messages

-- how many messages have this slot
abbrev pub count_in_slot : ℕ → List QueuedMessage → ℕ
count_in_slot slot messages = count_of slot (slots_in messages)

-- At most one message, waiting or held, has each of the slots below `slots`, and no message has any other slot.
abbrev pub AreInSlots : ℕ → List QueuedMessage → List QueuedMessage → Type 0
AreInSlots slots waiting held = (slot : ℕ) → count_in_slot slot waiting + count_in_slot slot held ≤ (if nat_lt slot slots then 1 else 0)
