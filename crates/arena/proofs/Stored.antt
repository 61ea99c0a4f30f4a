-- The two arrays of links, the lists that they hold, and what is read of these.
use Rattle.std.proofs.lemmas.Grind.{common_steps}
use Rattle.std.proofs.Common.{◌≡◌, ℕ, ◌+◌, ◌-◌, ◌<◌, List, length, ap, ◌∙◌, arith, slice_index, get_or}
use Rattle.std.proofs.lemmas.List.{get_or_default}
use Rattle.std.specs.List.{concat}
use Rattle.arena.specs.Lists.{count_of, first_of}
use Rattle.arena.specs.Linked.{Linked, list_at, ring, rings, stored, IsLinked, KeepLists, IsWellLinked}
use Rattle.arena.proofs.Ways.{walk-inside, count_of-no_slot, table-at, length-table}
use Rattle.arena.proofs.Alone.{count_of-table}
use Rattle.arena.proofs.Behind.{slot_or_none, first_of-ring}

-- another array of the same length that links the same lists
pub stored-same : (slots : ℕ) (next next' : List ℕ) (lists : List (List ℕ)) → length next' ≡ length next
    → rings (λ x. slice_index next' x) slots (length next) ≡ lists → (stored slots next').lists ≡ lists
stored-same slots next next' lists long same = grind (arith, common_steps)

pub IsWellLinked-linked : (slots nodes : ℕ) (next previous : ℕ → ℕ) → IsLinked slots nodes next previous → IsWellLinked (record { slots = slots; lists = rings next slots nodes })
IsWellLinked-linked slots nodes next previous linked = grind (arith, common_steps, count_of-table, count_of-no_slot, walk-inside)

pub end-below : (slots : ℕ) (next previous : List ℕ) (list : ℕ) → KeepLists slots next previous → list < length (stored slots next).lists → slots + list < length next
end-below slots next previous list ok within = grind (arith, common_steps, length-table)

-- the sentinel of a list, as contracts see the list, lies within the arrays
pub end-there : (slots : ℕ) (next previous : List ℕ) (links : Linked) (list : ℕ) → stored slots next ≡ links → KeepLists slots next previous → list < length links.lists → slots + list < length next
end-there slots next previous links list view ok within = end-below slots next previous list ok (rw (← view) at within)

-- A slot that is on no list, and a list that is there: what a call asks that puts the one on the other.
pub record MayAdd (links : Linked) (slot list : ℕ) : Type 0 where
  pub slot_is_there : slot < links.slots
  pub list_is_there : list < length links.lists
  pub alone : count_of slot (concat links.lists) ≡ 0

pub may_add : {stored links : Linked} {slot list : ℕ} → stored ≡ links → slot < links.slots → list < length links.lists → count_of slot (concat links.lists) ≡ 0
    → MayAdd stored slot list
may_add view within there nowhere = rw view (record { slot_is_there = within; list_is_there = there; alone = nowhere })

pub list-below : (slots : ℕ) (next : List ℕ) (list : ℕ) → list < length (stored slots next).lists → list < length next - slots
list-below slots next list within = omega (arith, length-table (ring (λ x. slice_index next x) slots) slots (length next - slots))

pub first-stored : (slots : ℕ) (next previous : List ℕ) (list : ℕ) → KeepLists slots next previous → list < length (stored slots next).lists
    → first_of (list_at (stored slots next) list) ≡ slot_or_none slots (slice_index next (slots + list))
first-stored slots next previous list ok within =
    ap first_of (table-at (ring (λ x. slice_index next x) slots) slots (length next - slots) list (list-below slots next list within))
    ∙ first_of-ring slots (length next) (λ x. slice_index next x) (λ x. slice_index previous x) ok.linked (slots + list) (omega arith)
    (end-below slots next previous list ok within)

-- what the code reads from an array
pub read : (row : List ℕ) (node x : ℕ) → node < length row → x ≡ get_or row node x → x ≡ slice_index row node
read row node x below got = got ∙ get_or_default row node x 0 below

pub slot-below : (slots : ℕ) (next previous : List ℕ) (slot : ℕ) → KeepLists slots next previous → slot < slots → slot < length next
slot-below slots next previous slot ok within = omega (arith, ok.linked.slots_fit)

pub read_next : (slots : ℕ) (next previous : List ℕ) (slot x : ℕ) → KeepLists slots next previous → slot < slots → x ≡ get_or next slot x → x ≡ slice_index next slot
read_next slots next previous slot x ok within got = read next slot x (slot-below slots next previous slot ok within) got

pub read_previous : (slots : ℕ) (next previous : List ℕ) (slot x : ℕ) → KeepLists slots next previous → slot < slots → x ≡ get_or previous slot x → x ≡ slice_index previous slot
read_previous slots next previous slot x ok within got = grind (arith, common_steps)

pub read_end : (slots : ℕ) (next previous : List ℕ) (list x : ℕ) → KeepLists slots next previous → list < length (stored slots next).lists
    → x ≡ get_or next (slots + list) x → x ≡ slice_index next (slots + list)
read_end slots next previous list x ok within got = read next (slots + list) x (end-below slots next previous list ok within) got

pub read_end_back : (slots : ℕ) (next previous : List ℕ) (list x : ℕ) → KeepLists slots next previous → list < length (stored slots next).lists
    → x ≡ get_or previous (slots + list) x → x ≡ slice_index previous (slots + list)
read_end_back slots next previous list x ok within got = grind (arith, common_steps, read, end-below)
