-- Statement for engineers: What contracts see of a `RunQueue`, and which message goes next.
use Rattle.std.specs.Prelude.{◌≡◌, ℕ, ◌<◌, Bool, not, ◌&&◌, ◌||◌, ◌==◌, List, [], ◌∷◌, ◌++◌, filter, if◌then◌else◌, Option, Some, None}
use Rattle.std.specs.List.{list_any, AllByRecursion}
use Rattle.affinity.specs.Interval.{Interval, contains}
use Rattle.affinity.specs.declared.geometry.Geometry.{Geometry}
use Rattle.run_queue.specs.declared.queued_message.QueuedMessage.{QueuedMessage}

-- what contracts see of a `RunQueue`: waiting messages in order of arrival, held ones in any order, and the number of slots
pub record RunQueueView : Type 0 where
  pub geometry : Geometry
  pub waiting : List QueuedMessage
  pub held : List QueuedMessage
  pub slots : ℕ

-- no message waits or is held
abbrev pub queue_at_start : Geometry → ℕ → RunQueueView
queue_at_start geometry slots = record { geometry = geometry; waiting = []; held = []; slots = slots }

-- whether two affinities are related: the interval of one (its own number and those of all affinities below it) has the other's number
abbrev pub are_related_intervals : Interval → Interval → Bool
are_related_intervals a b = contains a b.number || contains b a.number

-- whether no message of the list is at an affinity related to that of t
abbrev pub is_free_of : List QueuedMessage → QueuedMessage → Bool
is_free_of others t = not (list_any (λ other. are_related_intervals t.affinity other.affinity) others)

-- whether the log has room for the message (`room`: for one more record): only a message that may change something needs it
abbrev pub has_room : Bool → QueuedMessage → Bool
has_room room t = room || not t.changing

-- whether t may be dispatched while the messages `held` are held, and `earlier` came before it and still wait
abbrev pub can_dispatch : Bool → List QueuedMessage → List QueuedMessage → QueuedMessage → Bool
can_dispatch room held earlier t = has_room room t && (is_free_of held t && is_free_of earlier t)

-- of the last list, the first message that may be dispatched; those in `earlier` came before all of these and still wait
abbrev pub first_dispatchable : Bool → List QueuedMessage → List QueuedMessage → List QueuedMessage → Option QueuedMessage
first_dispatchable room held earlier [] = None
first_dispatchable room held earlier (t ∷ later) =
    if can_dispatch room held earlier t then Some t else first_dispatchable room held (earlier ++ t ∷ []) later

-- the first waiting message that may be dispatched
abbrev pub next_queued : Bool → List QueuedMessage → List QueuedMessage → Option QueuedMessage
next_queued room held waiting = first_dispatchable room held [] waiting

abbrev pub has_slot : ℕ → QueuedMessage → Bool
has_slot slot t = t.slot == slot

abbrev pub without_slot : ℕ → List QueuedMessage → List QueuedMessage
without_slot slot messages = filter (λ t. not (has_slot slot t)) messages

abbrev pub has_number : ℕ → QueuedMessage → Bool
has_number number t = t.affinity.number == number

abbrev pub without_number : ℕ → List QueuedMessage → List QueuedMessage
without_number number messages = filter (λ t. not (has_number number t)) messages

-- whether the message has this slot, and the affinity with this number
abbrev pub holds_at : ℕ → ℕ → QueuedMessage → Bool
holds_at number slot t = has_slot slot t && has_number number t

-- All messages have tickets below this one.
abbrev pub CameBefore : ℕ → List QueuedMessage → Type 0
CameBefore ticket messages = AllByRecursion (λ t. t.ticket < ticket) messages

-- `RunQueue::next` gives t, for a log with room or for one without.
abbrev pub IsNext : RunQueueView → QueuedMessage → Type 0
IsNext q t = (room : Bool) × (next_queued room q.held q.waiting ≡ Some t)

-- A message is in the second list exactly if it is in the first or is t. Order and repeats don't matter.
abbrev pub HasJoined : QueuedMessage → List QueuedMessage → List QueuedMessage → Type 0
HasJoined t before after = (test : QueuedMessage → Bool) → list_any test after ≡ (test t || list_any test before)
