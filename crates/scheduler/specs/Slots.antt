-- Statement for engineers: The messages of a core in its slots, by how far each has come.
use Rattle.std.specs.Prelude.{◌≡◌, ℕ, List, length, map, get_or, unwrap_or, Bool, true, ◌||◌}
use Rattle.std.specs.List.{AllByRecursion, list_any}
use Rattle.arena.specs.ArenaView.{IsPartitioned, ArenaView, chain_at, value_at}
use Rattle.protocol.specs.declared.messages.Msg.TheVariants.{Summary}
use Rattle.protocol.specs.declared.replies.Reply.{Reply}
use Rattle.protocol.specs.declared.replies.Reply.TheVariants.{Done}
use Rattle.protocol.specs.Messages.{IsMessage, is_in_range, path_of}
use Rattle.scheduler.specs.declared.core_memory.Slot.{Slot}
use Rattle.scheduler.specs.declared.core_memory.TheConstants.{WAITING, IN_FLIGHT, RAN, LOGGED, CHAINS}
use Rattle.affinity.specs.Interval.{IsAffinityOf}
use Rattle.affinity.specs.declared.geometry.Geometry.{Geometry}
use Rattle.histories.specs.Eligible.{changes}
use Rattle.histories.specs.CoreState.{Entry, Replied}
use Rattle.run_queue.specs.declared.queued_message.QueuedMessage.{QueuedMessage}

-- a slot with its number, and the reply that lies at this number
abbrev pub SlotView : Type 0
SlotView = ℕ × Slot × Reply

-- what is shown where a slot is free: never a message of the core
abbrev pub no_slot : Slot
no_slot = record { ticket = 0; message = Summary; affinity = record { number = 0; end = 0 } }

-- slot number i, with what is there and the reply at its number
abbrev pub slot_view_at : ArenaView Slot → List Reply → ℕ → SlotView
slot_view_at arena replies i = (i, unwrap_or (value_at arena i) no_slot, get_or replies i Done)

-- the slots on chain c, in order
abbrev pub slots_on : ArenaView Slot → List Reply → ℕ → List SlotView
slots_on arena replies c = map (slot_view_at arena replies) (chain_at arena c)

-- the slots of a core's messages, by how far each has come
pub record Phases : Type 0 where
  pub waiting : List SlotView
  pub in_flight : List SlotView
  pub ran : List SlotView
  pub logged : List SlotView

-- the slots on each of the arena's chains
abbrev pub phases_of : ArenaView Slot → List Reply → Phases
phases_of arena replies = record {
  waiting = slots_on arena replies WAITING;
  in_flight = slots_on arena replies IN_FLIGHT;
  ran = slots_on arena replies RAN;
  logged = slots_on arena replies LOGGED;
}

-- The arena has these chains, and a slot is on one of them at most, or free (`IsPartitioned` allows slots that are neither).
pub record HasChains (arena : ArenaView Slot) : Type 0 where
  pub partitioned : IsPartitioned arena
  pub chain_count : length arena.chains ≡ CHAINS

-- the message in a slot: with its ticket (`entry_of`), with its ticket and reply (`replied_of`), and as the run queue has it (`queued_of`)
abbrev pub entry_of : SlotView → Entry
entry_of x = (x.1.ticket, x.1.message)

abbrev pub replied_of : SlotView → Replied
replied_of x = (x.1.ticket, x.1.message, x.2)

abbrev pub queued_of : SlotView → QueuedMessage
queued_of x = record { slot = x.0; affinity = x.1.affinity; changing = changes x.1.message; ticket = x.1.ticket }

-- whether one of the held messages passes a test
abbrev pub held_any : (QueuedMessage → Bool) → Phases → Bool
held_any test l =
    list_any (λ x. test (queued_of x)) l.logged
    || (list_any (λ x. test (queued_of x)) l.ran || list_any (λ x. test (queued_of x)) l.in_flight)

-- The message in the slot is well formed and in range, and the slot's affinity is that of its place.
pub record IsPlaced (g : Geometry) (x : SlotView) : Type 0 where
  pub affinity : IsAffinityOf g (path_of g x.1.message) x.1.affinity
  pub range : is_in_range g x.1.message ≡ true
  pub message : IsMessage x.1.message

pub record ArePlaced (g : Geometry) (l : Phases) : Type 0 where
  pub waiting : AllByRecursion (IsPlaced g) l.waiting
  pub in_flight : AllByRecursion (IsPlaced g) l.in_flight
  pub ran : AllByRecursion (IsPlaced g) l.ran
  pub logged : AllByRecursion (IsPlaced g) l.logged
