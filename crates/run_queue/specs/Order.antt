-- Inner: Waiting messages, by their tickets.
use Rattle.std.specs.Prelude.{◌<◌, Bool, true, not, ◌&&◌, nat_lt, if◌then◌else◌, List, [], ◌∷◌, Option, Some, None}
use Rattle.std.specs.Option.{option_map_or}
use Rattle.std.specs.List.{list_any, AllByRecursion}
use Rattle.run_queue.specs.RunQueue.{are_related_intervals, is_free_of}
use Rattle.run_queue.specs.declared.queued_message.QueuedMessage.{QueuedMessage}

-- The tickets ascend.
abbrev pub Ascend : List QueuedMessage → Type 0
Ascend [] = Unit {0}
Ascend (t ∷ messages) = AllByRecursion (λ d. t.ticket < d.ticket) messages × Ascend messages

-- whether t has to wait for d: d has the smaller ticket, and a related affinity
abbrev pub waits_for : QueuedMessage → QueuedMessage → Bool
waits_for t d = nat_lt d.ticket t.ticket && are_related_intervals t.affinity d.affinity

-- whether no message at a related affinity is held, and none with a smaller ticket waits
abbrev pub is_conflict_free : List QueuedMessage → List QueuedMessage → QueuedMessage → Bool
is_conflict_free held waiting t = is_free_of held t && not (list_any (waits_for t) waiting)

-- whether message t came before the best so far, or there is no best yet
abbrev pub is_earlier : Option QueuedMessage → QueuedMessage → Bool
is_earlier o t = option_map_or (λ d. nat_lt t.ticket d.ticket) o true

-- the one of two that came first
abbrev pub earlier : Option QueuedMessage → Option QueuedMessage → Option QueuedMessage
earlier o None = o
earlier o (Some t) = if is_earlier o t then Some t else o
