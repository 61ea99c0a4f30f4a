-- Worked examples, by computing: what a small server answers to a list of messages.
use Rattle.std.proofs.Common.{◌≡◌, ℕ, true, false, List, [], ◌∷◌, ◌++◌, refl}
use Rattle.std.specs.Prelude.{replicate}
use Rattle.affinity.specs.Geometry.{default_geometry}
use Rattle.affinity.proofs.GeometryLemmas.{small}
use Rattle.affinity.specs.declared.geometry.Geometry.{Geometry}
use Rattle.protocol.specs.declared.messages.Block.{Block}
use Rattle.protocol.specs.declared.messages.Msg.{Msg}
use Rattle.protocol.specs.declared.messages.Msg.TheVariants.{MakeVol, DropVol, Create, Delete, Seal, Unseal, Write, Punch, Read, List as ListFiles, Usage as AskUsage, Summary as AskSummary, SetLabel, Label as AskLabel}
use Rattle.protocol.specs.declared.replies.Refusal.TheVariants.{Range, Volume, Exists, Sealed, File, Space}
use Rattle.protocol.specs.declared.replies.Reply.{Reply}
use Rattle.protocol.specs.declared.replies.Reply.TheVariants.{Done, Hole, Block as Found, Files, Usage, Summary, Refused, Label}
use Rattle.meaning.specs.State.{State, empty}
use Rattle.meaning.specs.Step.{reply_to, next_state, state_after_all, recorded_of}

-- the reply to each of these messages, from x on
abbrev replies : Geometry → State → List Msg → List Reply
replies g x [] = []
replies g x (m ∷ ms) = reply_to g x m ∷ replies g (next_state g x m) ms

-- what the small server answers, from nothing
abbrev answers : List Msg → List Reply
answers ms = replies small empty ms

-- what it answers after other messages
abbrev answers_after : List Msg → List Msg → List Reply
answers_after first ms = replies small (state_after_all small empty first) ms

-- a volume with a file of one block
abbrev one_block : Block → List Msg
one_block x = MakeVol 0 0 ∷ Create 0 0 0 ∷ Write 0 0 0 0 x ∷ []

-- a volume with two files, the first of which fills the first stripe
abbrev full_stripe : Block → List Msg
full_stripe x = MakeVol 0 0 ∷ Create 0 0 0 ∷ Create 0 0 1 ∷ Write 0 0 0 0 x ∷ Write 0 0 0 2 x ∷ []

-- a sealed volume with one file
abbrev sealed_volume : List Msg
sealed_volume = MakeVol 0 0 ∷ Create 0 0 0 ∷ Seal 0 0 ∷ []

-- ---- blocks

a_block_is_read_as_written : (x : Block) → answers (MakeVol 0 0 ∷ Create 0 0 0 ∷ Write 0 0 0 0 x ∷ Read 0 0 0 0 ∷ []) ≡ Done ∷ Done ∷ Done ∷ Found x ∷ []
a_block_is_read_as_written x = refl

a_block_is_read_as_last_written : (x y : Block) → answers_after (one_block x) (Write 0 0 0 0 y ∷ Read 0 0 0 0 ∷ []) ≡ Done ∷ Found y ∷ []
a_block_is_read_as_last_written x y = refl

other_blocks_are_holes : (x : Block) → answers_after (one_block x) (Read 0 0 0 3 ∷ Read 0 0 1 0 ∷ Write 0 0 0 4 x ∷ MakeVol 0 1 ∷ []) ≡ Hole ∷ Refused File ∷ Refused Range ∷ Refused Range ∷ []
other_blocks_are_holes x = refl

a_punched_block_is_a_hole : (x : Block) → answers_after (one_block x) (Punch 0 0 0 0 ∷ Read 0 0 0 0 ∷ Punch 0 0 0 0 ∷ []) ≡ Done ∷ Hole ∷ Done ∷ []
a_punched_block_is_a_hole x = refl

a_full_stripe_takes_no_new_block : (x : Block) → answers_after (full_stripe x) (Write 0 0 1 1 x ∷ Write 0 0 1 0 x ∷ Write 0 0 0 2 x ∷ []) ≡ Refused Space ∷ Done ∷ Done ∷ []
a_full_stripe_takes_no_new_block x = refl

a_deleted_file_gives_room : (x : Block) → answers_after (full_stripe x)
    (Write 0 0 1 1 x ∷ Write 0 0 1 0 x ∷ Write 0 0 0 2 x ∷ Delete 0 0 0 ∷ Write 0 0 1 1 x ∷ []) ≡ Refused Space ∷ Done ∷ Done ∷ Done ∷ Done ∷ []
a_deleted_file_gives_room x = refl

a_punched_block_gives_room : (x : Block) → answers_after (full_stripe x) (Punch 0 0 0 0 ∷ Write 0 0 1 1 x ∷ []) ≡ Done ∷ Done ∷ []
a_punched_block_gives_room x = refl

the_file_is_looked_for_before_the_room : (x : Block) → answers_after (MakeVol 0 0 ∷ Create 0 0 0 ∷ Write 0 0 0 0 x ∷ Write 0 0 0 2 x ∷ []) (Write 0 0 1 1 x ∷ []) ≡ Refused File ∷ []
the_file_is_looked_for_before_the_room x = refl

-- ---- files and volumes

a_file_made_again_is_empty : (x : Block) → answers_after (one_block x)
    (Delete 0 0 0 ∷ Delete 0 0 0 ∷ Create 0 0 0 ∷ Create 0 0 0 ∷ Read 0 0 0 0 ∷ []) ≡ Done ∷ Refused File ∷ Done ∷ Refused Exists ∷ Hole ∷ []
a_file_made_again_is_empty x = refl

a_volume_made_again_is_empty : (x : Block) → answers_after (one_block x)
    (DropVol 0 0 ∷ Read 0 0 0 0 ∷ MakeVol 0 0 ∷ ListFiles 0 0 ∷ Create 0 0 0 ∷ Read 0 0 0 0 ∷ []) ≡ Done ∷ Refused Volume ∷ Done ∷ Files 0 ∷ Done
    ∷ Hole ∷ []
a_volume_made_again_is_empty x = refl

a_sealed_volume_is_not_changed : (x : Block) → answers_after (one_block x)
    (Seal 0 0 ∷ Write 0 0 0 1 x ∷ Create 0 0 0 ∷ DropVol 0 0 ∷ Read 0 0 0 0 ∷ Seal 0 0 ∷ Unseal 0 0 ∷ DropVol 0 0 ∷ MakeVol 0 0 ∷ ListFiles 0 0
    ∷ []) ≡ Done ∷ Refused Sealed ∷ Refused Sealed ∷ Refused Sealed ∷ Found x ∷ Done ∷ Done ∷ Done ∷ Done ∷ Files 0 ∷ []
a_sealed_volume_is_not_changed x = refl

a_volume_is_made_once : answers (MakeVol 0 0 ∷ MakeVol 0 0 ∷ []) ≡ Done ∷ Refused Exists ∷ []
a_volume_is_made_once = refl

a_refused_message_has_no_record : recorded_of small empty (MakeVol 0 0 ∷ MakeVol 0 0 ∷ []) ≡ MakeVol 0 0 ∷ []
a_refused_message_has_no_record = refl

only_changes_have_records : (x : Block) (bytes : List ℕ) → recorded_of small empty
    (MakeVol 0 0 ∷ Create 0 0 0 ∷ Read 0 0 0 0 ∷ Write 0 0 0 0 x ∷ ListFiles 0 0 ∷ AskUsage 0 0 ∷ AskSummary ∷ SetLabel 0 0 bytes ∷ AskLabel 0 0
    ∷ []) ≡ MakeVol 0 0 ∷ Create 0 0 0 ∷ Write 0 0 0 0 x ∷ SetLabel 0 0 bytes ∷ []
only_changes_have_records x bytes = refl

-- ---- what is asked

counts : (x : Block) → answers_after (MakeVol 0 0 ∷ Create 0 0 0 ∷ Create 0 0 1 ∷ Write 0 0 0 0 x ∷ [])
    (ListFiles 0 0 ∷ AskUsage 0 0 ∷ AskSummary ∷ []) ≡ Files 3 ∷ Usage 2 1 false ∷ Summary 1 2 1 ∷ []
counts x = refl

counts_of_nothing : answers (ListFiles 0 0 ∷ AskSummary ∷ []) ≡ Refused Volume ∷ Summary 0 0 0 ∷ []
counts_of_nothing = refl

counts_of_two_volumes : (x : Block) → replies default_geometry empty (MakeVol 0 1 ∷ MakeVol 0 3 ∷ Create 0 1 5 ∷ Create 0 3 0 ∷ Create 0 3 15
    ∷ Write 0 3 15 63 x ∷ Write 0 3 0 7 x ∷ Seal 0 3 ∷ ListFiles 0 3 ∷ AskUsage 0 3 ∷ AskUsage 0 1 ∷ AskSummary ∷ []) ≡ Done ∷ Done ∷ Done ∷ Done
    ∷ Done ∷ Done ∷ Done ∷ Done ∷ Files 32769 ∷ Usage 2 2 true ∷ Usage 1 0 false ∷ Summary 2 3 2 ∷ []
counts_of_two_volumes x = refl

the_last_block_is_in_range : (x : Block) → replies default_geometry (state_after_all default_geometry empty (one_block x))
    (Read 0 0 0 63 ∷ Read 0 0 0 64 ∷ Read 0 0 0 65535 ∷ AskUsage 0 0 ∷ []) ≡ Hole ∷ Refused Range ∷ Refused Range ∷ Usage 1 1 false ∷ []
the_last_block_is_in_range x = refl

-- ---- labels

a_label_is_read_as_set : (x : Block) (bytes other : List ℕ) → answers_after (one_block x)
    (AskLabel 0 0 ∷ SetLabel 0 0 bytes ∷ AskLabel 0 0 ∷ Seal 0 0 ∷ SetLabel 0 0 other ∷ AskLabel 0 0 ∷ []) ≡ Label (replicate 32 0) ∷ Done
    ∷ Label bytes ∷ Done ∷ Refused Sealed ∷ Label bytes ∷ []
a_label_is_read_as_set x bytes other = refl

a_dropped_volume_loses_its_label : (bytes : List ℕ) → answers (MakeVol 0 0 ∷ SetLabel 0 0 bytes ∷ DropVol 0 0 ∷ AskLabel 0 0 ∷ MakeVol 0 0
    ∷ AskLabel 0 0 ∷ []) ≡ Done ∷ Done ∷ Done ∷ Refused Volume ∷ Done ∷ Label (replicate 32 0) ∷ []
a_dropped_volume_loses_its_label bytes = refl

-- ---- each check, and the order of the checks

out_of_range : (x : Block) (bytes : List ℕ) → answers (MakeVol 1 0 ∷ MakeVol 0 1 ∷ DropVol 1 0 ∷ Create 0 0 2 ∷ Delete 0 0 2 ∷ Seal 0 1 ∷ Unseal 1 0
    ∷ Write 0 0 0 4 x ∷ Punch 0 0 2 0 ∷ Read 0 0 0 4 ∷ ListFiles 0 1 ∷ AskUsage 1 0 ∷ SetLabel 0 1 bytes ∷ AskLabel 1 0 ∷ [])
    ≡ replicate 14 (Refused Range)
out_of_range x bytes = refl

without_a_volume : (x : Block) (bytes : List ℕ) → answers (DropVol 0 0 ∷ Create 0 0 1 ∷ Delete 0 0 1 ∷ Seal 0 0 ∷ Unseal 0 0 ∷ Write 0 0 1 3 x
    ∷ Punch 0 0 1 3 ∷ Read 0 0 1 3 ∷ ListFiles 0 0 ∷ AskUsage 0 0 ∷ SetLabel 0 0 bytes ∷ AskLabel 0 0 ∷ []) ≡ replicate 12 (Refused Volume)
without_a_volume x bytes = refl

without_a_file : (x : Block) → answers (MakeVol 0 0 ∷ Delete 0 0 0 ∷ Write 0 0 0 0 x ∷ Punch 0 0 0 0 ∷ Read 0 0 0 0 ∷ []) ≡ Done ∷ replicate 4 (Refused File)
without_a_file x = refl

changes_of_a_sealed_volume : (x : Block) (bytes : List ℕ) → answers_after sealed_volume
    (DropVol 0 0 ∷ Create 0 0 0 ∷ Create 0 0 1 ∷ Delete 0 0 0 ∷ Delete 0 0 1 ∷ Write 0 0 0 0 x ∷ Write 0 0 1 0 x ∷ Punch 0 0 0 0 ∷ Punch 0 0 1 0
    ∷ SetLabel 0 0 bytes ∷ []) ≡ replicate 10 (Refused Sealed)
changes_of_a_sealed_volume x bytes = refl

questions_to_a_sealed_volume : answers_after sealed_volume (Read 0 0 0 0 ∷ Read 0 0 1 0 ∷ ListFiles 0 0 ∷ AskUsage 0 0 ∷ AskLabel 0 0 ∷ MakeVol 0 0
    ∷ Seal 0 0 ∷ AskSummary ∷ []) ≡ Hole ∷ Refused File ∷ Files 1 ∷ Usage 1 0 true ∷ Label (replicate 32 0) ∷ Refused Exists ∷ Done ∷ Summary 1 1 0
    ∷ []
questions_to_a_sealed_volume = refl

-- ---- sending again

-- These changes are accepted one after the other, and leave their stripe full. It has no room for all three of their blocks at once.
abbrev three_blocks : Block → List Msg
three_blocks x = Punch 0 0 0 0 ∷ Write 0 0 0 2 x ∷ Write 0 0 0 0 x ∷ Punch 0 0 0 2 ∷ Write 0 0 1 1 x ∷ []

-- the messages before them, and they
abbrev and_three_blocks : Block → List Msg
and_three_blocks x = MakeVol 0 0 ∷ Create 0 0 0 ∷ Create 0 0 1 ∷ Write 0 0 0 0 x ∷ three_blocks x

each_is_accepted : (x : Block) → answers (and_three_blocks x) ≡ replicate 9 Done
each_is_accepted x = refl

their_first_block_is_there : (x : Block) → answers_after (and_three_blocks x) (Read 0 0 0 0 ∷ []) ≡ Found x ∷ []
their_first_block_is_there x = refl

-- Sent again, the second `write` is refused, since the last one is there already, and the block that the `punch` has removed is lost.
without_room_a_block_is_lost : (x : Block) → answers_after (and_three_blocks x) (three_blocks x ++ Read 0 0 0 0 ∷ [])
    ≡ Done ∷ Done ∷ Refused Space ∷ Done ∷ Done ∷ Hole ∷ []
without_room_a_block_is_lost x = refl
