-- Statement for operators: Which message may be dispatched.
use Rattle.std.specs.Prelude.{ℕ, ◌+◌, Bool, not, ◌&&◌, ◌||◌, nat_lt, List, [], ◌∷◌, if◌then◌else◌, Option, Some, None, option_map, count_by}
use Rattle.std.specs.List.{list_any}
use Rattle.affinity.specs.declared.geometry.Geometry.{Geometry}
use Rattle.affinity.specs.Kind.{is_changing}
use Rattle.protocol.specs.declared.messages.Msg.{Msg}
use Rattle.protocol.specs.Messages.{kind}
use Rattle.histories.specs.CoreState.{Entry, CoreState, held, are_related_entries}

-- The message's place is related to the place of no held message, and of no waiting one with a smaller ticket.
abbrev pub is_conflict_free : Geometry → CoreState → Entry → Bool
is_conflict_free g w e = not (list_any (are_related_entries g e) (held w))
    && not (list_any (λ d. nat_lt d.0 e.0 && are_related_entries g e d) w.waiting)

-- whether the message is of a changing kind, so that it may come to need a record in the log
abbrev pub changes : Msg → Bool
changes m = is_changing (kind m)

-- how many of the messages that are in flight or ran may come to need a record
abbrev pub unlogged_changes : CoreState → ℕ
unlogged_changes w = count_by (λ e. changes e.1) w.in_flight + count_by (λ a. changes a.1) w.ran

-- whether the log still has room for the message's record, if it may need one, beside those of `unlogged_changes`
abbrev pub has_room : CoreState → Entry → Bool
has_room w e = not (changes e.1) || nat_lt (unlogged_changes w) w.room

-- whether the message may be dispatched
abbrev pub is_eligible : Geometry → CoreState → Entry → Bool
is_eligible g w e = is_conflict_free g w e && has_room w e

-- whether only room in the log keeps the message from being dispatched
abbrev pub lacks_only_room : Geometry → CoreState → Entry → Bool
lacks_only_room g w e = is_conflict_free g w e && not (has_room w e)

-- the first element of a list that passes the test, and the list without it
abbrev pub pick : {A : Type 0} → (A → Bool) → List A → Option (A × List A)
pick p [] = None
pick p (x ∷ xs) = if p x then Some (x, xs) else option_map (λ found. (found.0, x ∷ found.1)) (pick p xs)

-- the eligible message with the least ticket, and the others that wait
abbrev pub next_eligible : Geometry → CoreState → Option (Entry × List Entry)
next_eligible g w = pick (is_eligible g w) w.waiting
