-- Worked examples of the definitions, on a small server: one volume of two stripes that hold two blocks each, and four
-- records in a half.
use Rattle.std.proofs.Common.{◌≡◌, ℕ, zero, suc, ◌+◌, true, List, [], ◌∷◌, ◌++◌, length, take, get_or, replicate, Option, Some, None, refl, ap, subst, arith, length-append}
use Rattle.disk.specs.Device.{Medium, fresh_synced}
use Rattle.disk.proofs.IsSynced.{synced_left}
use Rattle.device_map.specs.Layout.{Layout}
use Rattle.oplog.specs.HalfContent.{count_open, front}
use Rattle.oplog.specs.Changes.{HasAppendedPrefix}
use Rattle.oplog.specs.Log.{batch_count}
use Rattle.oplog.specs.Recovery.{Decoding, named_area, current_of, in_force, recovers}
use Rattle.oplog.specs.declared.half.TheConstants.{RECORDS_PER_WRITE}

-- the half whose front is the last one in force
abbrev current : Layout → List ℕ → ℕ
current l c = current_of l (named_area l c) c

-- ---- a batch has at most 64 records
records_per_write : RECORDS_PER_WRITE ≡ 64
records_per_write = refl

no_batch : batch_count 0 ≡ 0
no_batch = refl

one_batch : batch_count 64 ≡ 1
one_batch = refl

two_batches : batch_count 65 ≡ 2
two_batches = refl

-- ---- the front ends at the first gate that isn't 1
second_is_not_open : count_open (1 ∷ 77 ∷ 1 ∷ 0 ∷ []) ≡ 1
second_is_not_open = refl

first_is_not_open : count_open (0 ∷ 1 ∷ 1 ∷ 1 ∷ []) ≡ 0
first_is_not_open = refl

all_are_open : count_open (1 ∷ 1 ∷ 1 ∷ 1 ∷ []) ≡ 4
all_are_open = refl

-- ---- a device of 8,840 bytes
abbrev g : Layout
g = record { capacity = 4; image = 2208 }

-- the record of a message of this kind, with zeros for its numbers
abbrev record_of_kind : ℕ → List ℕ
record_of_kind k = k ∷ replicate 519 0

-- this root byte, this chain byte of half 0 and that of half 1, these gates of half 0 and those of half 1, and two
-- records in half 0 and one in half 1
abbrev device : ℕ → ℕ → ℕ → List ℕ → List ℕ → List ℕ
device named chain0 chain1 gates0 gates1 =
    replicate 64 0 ++ (named ∷ replicate 63 0)
    ++ (chain0 ∷ replicate 63 9) ++ gates0 ++ record_of_kind 1 ++ record_of_kind 5 ++ replicate 1040 0
    ++ (chain1 ∷ replicate 63 9) ++ gates1 ++ record_of_kind 2 ++ replicate 1560 0
    ++ replicate 4416 0

-- what is in force
only_the_named_front : in_force g 0 (device 0 0 0 (1 ∷ 77 ∷ 1 ∷ 0 ∷ []) (1 ∷ 0 ∷ 0 ∷ 0 ∷ [])) ≡ record_of_kind 1 ∷ []
only_the_named_front = refl

both_under_a_chain : in_force g 0 (device 0 1 0 (1 ∷ 1 ∷ 0 ∷ 0 ∷ []) (1 ∷ 0 ∷ 1 ∷ 1 ∷ [])) ≡ record_of_kind 1 ∷ record_of_kind 5 ∷ record_of_kind 2 ∷ []
both_under_a_chain = refl

-- the current half
current_without_a_chain : current g (device 1 0 0 (1 ∷ 0 ∷ 0 ∷ 0 ∷ []) (1 ∷ 0 ∷ 0 ∷ 0 ∷ [])) ≡ 1
current_without_a_chain = refl

current_under_a_chain : current g (device 1 0 1 (1 ∷ 0 ∷ 0 ∷ 0 ∷ []) (1 ∷ 0 ∷ 0 ∷ 0 ∷ [])) ≡ 0
current_under_a_chain = refl

-- any root byte but 1 names area 0
torn_root : named_area g (device 77 0 0 (0 ∷ 0 ∷ 0 ∷ 0 ∷ []) (0 ∷ 0 ∷ 0 ∷ 0 ∷ [])) ≡ 0
torn_root = refl

-- What a device recovers to, where an image holds its first byte and a record adds its kind.
abbrev counting : Decoding ℕ
counting = record { read = λ bytes. Some (length (take 1 bytes)); apply = λ x r. Some (x + length (take 1 r)); is_header = λ bytes. true }

abbrev recovered_before : List ℕ → Option ℕ
recovered_before c = recovers counting g c

records_are_run : recovered_before (device 0 1 0 (1 ∷ 1 ∷ 0 ∷ 0 ∷ []) (1 ∷ 0 ∷ 1 ∷ 1 ∷ [])) ≡ Some 4
records_are_run = refl

two_chains_are_not_sound : recovered_before (device 0 1 1 (1 ∷ 1 ∷ 0 ∷ 0 ∷ []) (1 ∷ 0 ∷ 1 ∷ 1 ∷ [])) ≡ None
two_chains_are_not_sound = refl

too_short : recovered_before (take 8839 (device 0 0 0 (1 ∷ 1 ∷ 0 ∷ 0 ∷ []) (1 ∷ 0 ∷ 1 ∷ 1 ∷ []))) ≡ None
too_short = refl

-- ---- what is no growth of half 0, which has two records in its front and nothing unsynced
abbrev before : Medium
before = fresh_synced (device 0 0 0 (1 ∷ 1 ∷ 0 ∷ 0 ∷ []) (0 ∷ 0 ∷ 0 ∷ 0 ∷ []))

-- the front, if this is a growth
front_after : (more : List (List ℕ)) (c : List ℕ) → (grew : HasAppendedPrefix g 0 more before c) → front g 0 c ≡ front g 0 before.now ++ take grew.added more
front_after more c grew =
    subst (λ (l : List ℕ). front g 0 c ≡ front g 0 l ++ take grew.added more) (synced_left before grew.has.old refl grew.has.left) grew.has.change.front

-- earlier gates that are shut for a moment
abbrev shut_again : List ℕ
shut_again = device 0 0 0 (0 ∷ 0 ∷ 0 ∷ 0 ∷ []) (0 ∷ 0 ∷ 0 ∷ 0 ∷ [])

earlier_gates_shut : (more : List (List ℕ)) → HasAppendedPrefix g 0 more before shut_again → ⊥
earlier_gates_shut more grew =
    let none : length (front g 0 shut_again) ≡ 0 = refl in
    let two : length (front g 0 before.now) ≡ 2 = refl in
    omega (arith, none, two, ap length (front_after more shut_again grew), length-append (front g 0 before.now) (take grew.added more))

-- a third gate that is open with zeros behind it, and not yet the record that is appended
abbrev open_early : List ℕ
open_early = device 0 0 0 (1 ∷ 1 ∷ 1 ∷ 0 ∷ []) (0 ∷ 0 ∷ 0 ∷ 0 ∷ [])

abbrev third_kind : List (List ℕ) → ℕ
third_kind records = get_or (get_or records 2 []) 0 0

no_third : (j : ℕ) → front g 0 open_early ≡ front g 0 before.now ++ take j (record_of_kind 3 ∷ []) → ⊥
no_third zero is =
    let three : length (front g 0 open_early) ≡ 3 = refl in
    let two : length (front g 0 before.now ++ []) ≡ 2 = refl in
    omega (arith, three, two, ap length is)
no_third (suc j) is =
    let zeros : third_kind (front g 0 open_early) ≡ 0 = refl in
    let appended : third_kind (front g 0 before.now ++ take (suc j) (record_of_kind 3 ∷ [])) ≡ 3 = refl in
    omega (arith, zeros, appended, ap third_kind is)

gate_open_early : HasAppendedPrefix g 0 (record_of_kind 3 ∷ []) before open_early → ⊥
gate_open_early grew = no_third grew.added (front_after (record_of_kind 3 ∷ []) open_early grew)
