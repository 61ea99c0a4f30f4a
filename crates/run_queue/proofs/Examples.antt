-- Worked examples of the definitions, with the affinities of a small server: one volume of two stripes.
use Rattle.std.proofs.Common.{◌≡◌, ℕ, Bool, true, false, [], ◌∷◌, Some, None, refl}
use Rattle.affinity.proofs.GeometryLemmas.{small}
use Rattle.affinity.specs.Interval.{interval}
use Rattle.affinity.specs.Path.{Path, serial, volume, logical, stripe, label}
use Rattle.run_queue.specs.RunQueue.{are_related_intervals, next_queued, without_slot, without_number, holds_at}
use Rattle.run_queue.specs.Slots.{count_in_slot}
use Rattle.run_queue.specs.declared.queued_message.QueuedMessage.{QueuedMessage}
use Rattle.run_queue.specs.declared.ready_table.TheConstants.{CHUNK, LAST_RANK, NO_RANK}

abbrev queued : ℕ → Path → Bool → ℕ → QueuedMessage
queued slot path changing ticket = record { slot = slot; affinity = interval small path; changing = changing; ticket = ticket }

-- The first stripe is written and read, the second one is written, a file is created and a label is set.
abbrev write : QueuedMessage
write = queued 7 (stripe 0 0 0) true 0

abbrev read : QueuedMessage
read = queued 3 (stripe 0 0 0) false 1

abbrev create : QueuedMessage
create = queued 4 (logical 0 0) true 2

abbrev other_write : QueuedMessage
other_write = queued 5 (stripe 0 0 1) true 3

abbrev set_label : QueuedMessage
set_label = queued 1 (label 0 0) true 4

-- ---- which affinities are related

same_stripe : are_related_intervals (interval small (stripe 0 0 0)) (interval small (stripe 0 0 0)) ≡ true
same_stripe = refl

two_stripes : are_related_intervals (interval small (stripe 0 0 0)) (interval small (stripe 0 0 1)) ≡ false
two_stripes = refl

stripe_below : are_related_intervals (interval small (logical 0 0)) (interval small (stripe 0 0 1)) ≡ true
stripe_below = refl

logical_above : are_related_intervals (interval small (stripe 0 0 1)) (interval small (logical 0 0)) ≡ true
logical_above = refl

label_beside : are_related_intervals (interval small (label 0 0)) (interval small (logical 0 0)) ≡ false
label_beside = refl

volume_above : are_related_intervals (interval small (label 0 0)) (interval small (volume 0 0)) ≡ true
volume_above = refl

all_below : are_related_intervals (interval small serial) (interval small (stripe 0 0 1)) ≡ true
all_below = refl

-- ---- which message may be dispatched

nothing_waits : next_queued true (write ∷ []) [] ≡ None
nothing_waits = refl

alone : next_queued true [] (write ∷ []) ≡ Some write
alone = refl

-- of several that may be dispatched the first one is, and not the last
in_order : next_queued true [] (write ∷ other_write ∷ []) ≡ Some write
in_order = refl

-- at an affinity where a message is held none is dispatched, and one elsewhere passes it
is_held : next_queued true (write ∷ []) (read ∷ []) ≡ None
is_held = refl

passes_beside : next_queued true (write ∷ []) (read ∷ other_write ∷ []) ≡ Some other_write
passes_beside = refl

-- a held message keeps others back even if another one was dispatched after it
held_before : next_queued true (set_label ∷ write ∷ []) (read ∷ []) ≡ None
held_before = refl

-- a create above a held stripe waits, and a later write below it doesn't pass it, though that write's own stripe is free
waits_above : next_queued true (write ∷ []) (create ∷ other_write ∷ []) ≡ None
waits_above = refl

-- once nothing is held, the create goes first
then_above : next_queued true [] (create ∷ other_write ∷ []) ≡ Some create
then_above = refl

-- and while the create is held, only a message at an unrelated affinity is dispatched
label_passes : next_queued true (create ∷ []) (other_write ∷ set_label ∷ []) ≡ Some set_label
label_passes = refl

-- without room in the log only a message that changes nothing is dispatched, and it passes no earlier one at its affinity
no_room : next_queued false [] (write ∷ other_write ∷ []) ≡ None
no_room = refl

read_goes : next_queued false [] (other_write ∷ read ∷ []) ≡ Some read
read_goes = refl

read_stays : next_queued false [] (write ∷ read ∷ []) ≡ None
read_stays = refl

-- a message that is kept back keeps later ones at related affinities back, too
blocked_behind : next_queued true (write ∷ []) (read ∷ create ∷ other_write ∷ set_label ∷ []) ≡ Some set_label
blocked_behind = refl

-- ---- lists

without_one : without_slot 4 (write ∷ create ∷ read ∷ []) ≡ write ∷ read ∷ []
without_one = refl

-- by the number of the affinity itself: what lies below stays
without_logical : without_number 3 (other_write ∷ create ∷ []) ≡ other_write ∷ []
without_logical = refl

is_holder : holds_at 3 4 create ≡ true
is_holder = refl

is_below : holds_at 3 5 other_write ≡ false
is_below = refl

other_slot : holds_at 3 5 create ≡ false
other_slot = refl

twice : count_in_slot 4 (create ∷ write ∷ create ∷ []) ≡ 2
twice = refl

-- a wrong order of what waits would give another message
other_order : next_queued true [] (other_write ∷ create ∷ []) ≡ Some other_write
other_order = refl

-- ---- the constants of the ready table

chunk : CHUNK ≡ 8
chunk = refl

last_rank : LAST_RANK ≡ 18446744073709551614
last_rank = refl

no_rank : NO_RANK ≡ 18446744073709551615
no_rank = refl
