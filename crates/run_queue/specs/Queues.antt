-- Inner: Waiting messages in queues, one for the number of each affinity.
use Rattle.std.specs.Prelude.{◌≡◌, ℕ, ◌<◌, List, [], ◌∷◌, filter, map, if◌then◌else◌, nat_lt, Option, Some, None}
use Rattle.std.specs.List.{find}
use Rattle.arena.specs.Lists.{count_of}
use Rattle.arena.specs.ArenaView.{ArenaView, IsPartitioned, capacity_of, value_at, chain_at}
use Rattle.run_queue.specs.RunQueue.{has_number, without_slot}
use Rattle.run_queue.specs.Order.{Ascend}
use Rattle.run_queue.specs.declared.queued_message.QueuedMessage.{QueuedMessage}

-- what contracts see of `Queues`: how many queues there are, how many messages may wait, and which do, by ticket
pub record Waiting : Type 0 where
  pub numbers : ℕ
  pub capacity : ℕ
  pub messages : List QueuedMessage

-- the messages of a list of slots, or of a table by affinity number; empty entries are skipped
abbrev pub present : List (Option QueuedMessage) → List QueuedMessage
present [] = []
present (None ∷ entries) = present entries
present (Some t ∷ entries) = t ∷ present entries

-- the list with message t put in front of the first message that has a greater ticket
abbrev pub insert : QueuedMessage → List QueuedMessage → List QueuedMessage
insert t [] = t ∷ []
insert t (d ∷ messages) = if nat_lt t.ticket d.ticket then t ∷ d ∷ messages else d ∷ insert t messages

-- the messages sorted by ticket
abbrev pub by_ticket : List QueuedMessage → List QueuedMessage
by_ticket [] = []
by_ticket (t ∷ messages) = insert t (by_ticket messages)

-- the messages that an arena holds, by ticket
abbrev pub waiting_in : ArenaView QueuedMessage → List QueuedMessage
waiting_in arena = by_ticket (present arena.values)

-- the messages in these slots, in the order of the slots
abbrev pub queued_in : ArenaView QueuedMessage → List ℕ → List QueuedMessage
queued_in arena slots = present (map (value_at arena) slots)

-- The chain of each affinity number has the messages that wait at it, by ticket, and every slot without a message is free.
pub record IsQueued (arena : ArenaView QueuedMessage) : Type 0 where
  pub partitioned : IsPartitioned arena
  pub empty_is_free : (i : ℕ) → i < capacity_of arena → value_at arena i ≡ None → 0 < count_of i arena.free
  pub ascends : Ascend (waiting_in arena)
  pub queued : (n : ℕ) → queued_in arena (chain_at arena n) ≡ filter (has_number n) (waiting_in arena)

-- The first message at number n, if there is one, waits no longer, and all others still do.
abbrev pub IsFirstGone : ℕ → Waiting → Waiting → Type 0
IsFirstGone n before after =
    (t : QueuedMessage) → find (has_number n) before.messages ≡ Some t
    → after ≡ record before { messages = without_slot t.slot before.messages }
