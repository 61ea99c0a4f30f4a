-- Inner: For each affinity number, the message at the head of its queue if it is conflict-free.
use Rattle.std.specs.Prelude.{◌≡◌, ◌+◌, ◌*◌, ◌<◌, ◌≤◌, ℕ, zero, suc, min, Bool, true, List, length, get_or, if◌then◌else◌, slice_index_or, Option, Some, None}
use Rattle.std.specs.Option.{option_and_then}
use Rattle.std.specs.List.{find}
use Rattle.affinity.specs.Interval.{Interval, IsAffinity}
use Rattle.affinity.specs.declared.geometry.Geometry.{Geometry}
use Rattle.run_queue.specs.RunQueue.{are_related_intervals, has_number}
use Rattle.run_queue.specs.Order.{earlier, is_conflict_free}
use Rattle.run_queue.specs.declared.queued_message.QueuedMessage.{QueuedMessage}
use Rattle.run_queue.specs.declared.ready_table.TheConstants.{CHUNK, LAST_RANK, NO_RANK}

-- the message, if there is one and it passes the test
abbrev pub if_passes : (QueuedMessage → Bool) → Option QueuedMessage → Option QueuedMessage
if_passes p o = option_and_then (λ t. if p t then Some t else None) o

-- the first message that waits at number n, if it is conflict-free: what the table's entry there has to be
abbrev pub ready_at : List QueuedMessage → List QueuedMessage → ℕ → Option QueuedMessage
ready_at held waiting n = if_passes (is_conflict_free held waiting) (find (has_number n) waiting)

-- the table's entry at number n
abbrev pub ready_in : List (Option QueuedMessage) → ℕ → Option QueuedMessage
ready_in ready_table n = slice_index_or ready_table n None

-- The table's entry at number n is right.
abbrev pub IsEntryRight : List QueuedMessage → List QueuedMessage → List (Option QueuedMessage) → ℕ → Type 0
IsEntryRight held waiting ready_table n = ready_in ready_table n ≡ ready_at held waiting n

-- Each entry that was right in the table `before` is right in `after`, which has as many entries.
abbrev pub StayRight : List QueuedMessage → List QueuedMessage → List (Option QueuedMessage) → List (Option QueuedMessage) → Type 0
StayRight held waiting before after =
    (length after ≡ length before) × ((n : ℕ) → IsEntryRight held waiting before n → IsEntryRight held waiting after n)

-- The entries at all affinities related to affinity a are right.
abbrev pub AreRelatedRight : Geometry → Interval → List QueuedMessage → List QueuedMessage → List (Option QueuedMessage) → Type 0
AreRelatedRight g a held waiting ready_table = (b : Interval) → IsAffinity g b → are_related_intervals a b ≡ true
    → IsEntryRight held waiting ready_table b.number

-- the rank of an entry: the ticket of its message (the two greatest tickets share one rank). `None` ranks last.
abbrev pub rank_of : Option QueuedMessage → ℕ
rank_of None = NO_RANK
rank_of (Some t) = min t.ticket LAST_RANK

-- the earliest of `best` and those ready messages, at the n numbers from `from` on, that pass the test
abbrev pub earliest_from : (QueuedMessage → Bool) → List (Option QueuedMessage) → ℕ → ℕ → Option QueuedMessage → Option QueuedMessage
earliest_from p ready_table from zero best = best
earliest_from p ready_table from (suc n) best =
    earlier (earliest_from p ready_table from n best) (if_passes p (ready_in ready_table (from + n)))

-- The rank kept for a chunk is no greater than that of any of its entries.
abbrev pub AreLowerBounds : List (Option QueuedMessage) → List ℕ → Type 0
AreLowerBounds ready_table least = (chunk i : ℕ) → i < CHUNK → get_or least chunk 0 ≤ rank_of (ready_in ready_table (CHUNK * chunk + i))
