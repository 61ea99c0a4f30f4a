-- Worked examples of the definitions, on a small server: one volume of two files of four blocks, in two stripes that hold two blocks each.
use Rattle.std.proofs.Common.{◌≡◌, ℕ, ◌+◌, List, [], ◌∷◌, ◌++◌, length, take, drop, replicate, Bool, true, false, Option, Some, None, refl}
use Rattle.affinity.specs.Geometry.{default_geometry}
use Rattle.affinity.proofs.GeometryLemmas.{small}
use Rattle.protocol.specs.declared.messages.Block.{Block}
use Rattle.protocol.specs.declared.messages.Msg.{Msg}
use Rattle.protocol.specs.declared.messages.Msg.TheVariants.{MakeVol, DropVol, Create, Delete, Seal, Unseal, Write, Punch, Read, List as ListFiles, Usage as AskUsage, Summary as AskSummary, SetLabel, Label as AskLabel}
use Rattle.protocol.specs.declared.replies.Reply.TheVariants.{Summary}
use Rattle.protocol.specs.declared.replies.Reply.{Reply}
use Rattle.meaning.specs.Step.{state_after_all, reply_to}
use Rattle.meaning.specs.State.{State, empty}
use Rattle.image.specs.Pieces.{piece_of}
use Rattle.image.specs.Touched.{may_change}
use Rattle.image.specs.declared.layout.TheConstants.{FIRST_VERSION, VERSION}
use Rattle.image.specs.Image.{image_of, image_state, decoded_before, is_good}

-- a block that begins with this byte
abbrev block_of : ℕ → Block
block_of b = record { 0 = b ∷ replicate 511 0 }

abbrev label_of : ℕ → List ℕ
label_of b = b ∷ replicate 31 0

abbrev one_file : State
one_file = state_after_all small empty (MakeVol 0 0 ∷ Create 0 0 0 ∷ Create 0 0 1 ∷ Seal 0 0 ∷ [])

-- ---- the versions that are read

first_version : FIRST_VERSION ≡ 1
first_version = refl

newest_version : VERSION ≡ 2
newest_version = refl

-- ---- pieces

marks_of_a_sealed_volume : piece_of 2 small one_file 0 ≡ 1 ∷ 1 ∷ 0 ∷ 0 ∷ 0 ∷ 0 ∷ 0 ∷ 0 ∷ 3 ∷ replicate 55 0
marks_of_a_sealed_volume = refl

abbrev two_blocks : State
two_blocks = state_after_all small empty (MakeVol 0 0 ∷ Create 0 0 0 ∷ Create 0 0 1 ∷ Write 0 0 1 1 (block_of 97) ∷ Write 0 0 0 0 (block_of 98) ∷ SetLabel 0 0 (label_of 99) ∷ [])

first_stripe : piece_of 2 small two_blocks 1 ≡ 1 ∷ 0 ∷ 0 ∷ 0 ∷ 0 ∷ 0 ∷ 0 ∷ 0 ∷ 98 ∷ replicate 511 0 ++ 1 ∷ 1 ∷ 1 ∷ 0 ∷ 0 ∷ 0 ∷ 0 ∷ 0 ∷ 97 ∷ replicate 511 0
first_stripe = refl

label_of_version_2 : piece_of 2 small two_blocks 0 ≡ 1 ∷ 0 ∷ 0 ∷ 0 ∷ 0 ∷ 0 ∷ 0 ∷ 0 ∷ 3 ∷ replicate 7 0 ++ 99 ∷ replicate 47 0
label_of_version_2 = refl

no_label_in_version_1 : piece_of 1 small two_blocks 0 ≡ 1 ∷ 0 ∷ 0 ∷ 0 ∷ 0 ∷ 0 ∷ 0 ∷ 0 ∷ 3 ∷ replicate 55 0
no_label_in_version_1 = refl

-- ---- images

size_of_an_image : length (image_of 2 small empty) ≡ 2208
size_of_an_image = refl

abbrev summary_of : Option State → Option Reply
summary_of None = None
summary_of (Some x) = Some (reply_to small x AskSummary)

read_again : summary_of (image_state small (image_of 2 small two_blocks)) ≡ Some (Summary 1 2 2)
read_again = refl

read_again_from_version_1 : summary_of (image_state small (image_of 1 small two_blocks)) ≡ Some (Summary 1 2 2)
read_again_from_version_1 = refl

-- with this byte at a place
abbrev changed : ℕ → ℕ → List ℕ → List ℕ
changed at b bytes = take at bytes ++ b ∷ drop (at + 1) bytes

abbrev changed_is_read : ℕ → ℕ → State → Option Reply
changed_is_read at b x = summary_of (image_state small (changed at b (image_of 2 small x)))

version_is_unknown : changed_is_read 0 3 two_blocks ≡ None
version_is_unknown = refl

head_is_no_zeros : changed_is_read 1 1 two_blocks ≡ None
head_is_no_zeros = refl

made_is_2 : changed_is_read 64 2 two_blocks ≡ None
made_is_2 = refl

no_volume_is_sealed : changed_is_read 65 1 empty ≡ None
no_volume_is_sealed = refl

file_of_no_volume : changed_is_read 72 1 empty ≡ None
file_of_no_volume = refl

file_out_of_range : changed_is_read 72 7 two_blocks ≡ None
file_out_of_range = refl

block_of_no_file : changed_is_read 72 1 two_blocks ≡ None
block_of_no_file = refl

block_of_no_volume : changed_is_read 128 1 empty ≡ None
block_of_no_volume = refl

block_out_of_range : changed_is_read 130 4 two_blocks ≡ None
block_out_of_range = refl

block_of_another_stripe : changed_is_read 130 1 two_blocks ≡ None
block_of_another_stripe = refl

block_moved_within_its_stripe : changed_is_read 130 2 two_blocks ≡ Some (Summary 1 2 2)
block_moved_within_its_stripe = refl

out_of_order : summary_of (image_state small (changed 129 1 (changed 130 3 (image_of 2 small two_blocks)))) ≡ None
out_of_order = refl

same_block_twice : summary_of (image_state small (changed 129 1 (changed 130 1 (image_of 2 small two_blocks)))) ≡ None
same_block_twice = refl

bytes_between : changed_is_read 132 1 two_blocks ≡ None
bytes_between = refl

mark_of_an_entry_is_2 : changed_is_read 128 2 two_blocks ≡ None
mark_of_an_entry_is_2 = refl

bytes_behind_the_entries : changed_is_read 1300 1 two_blocks ≡ None
bytes_behind_the_entries = refl

label_in_version_1 : summary_of (image_state small (changed 80 1 (image_of 1 small two_blocks))) ≡ None
label_in_version_1 = refl

label_in_version_2 : changed_is_read 80 1 two_blocks ≡ Some (Summary 1 2 2)
label_in_version_2 = refl

bytes_behind_the_label : changed_is_read 112 1 two_blocks ≡ None
bytes_behind_the_label = refl

-- ---- piece by piece

-- what the first n pieces decode to
abbrev decoded_of : ℕ → List ℕ → Reply
decoded_of n bytes = reply_to small (decoded_before 2 small bytes n) AskSummary

nothing_decoded : decoded_of 0 (image_of 2 small two_blocks) ≡ Summary 0 0 0
nothing_decoded = refl

volume_decoded : decoded_of 1 (image_of 2 small two_blocks) ≡ Summary 1 2 0
volume_decoded = refl

stripe_decoded : decoded_of 2 (image_of 2 small two_blocks) ≡ Summary 1 2 2
stripe_decoded = refl

-- A block number out of range makes the piece of its stripe bad, and not that of the volume.
bad_stripe : is_good small (changed 130 4 (image_of 2 small two_blocks)) 1 ≡ false
bad_stripe = refl

good_volume : is_good small (changed 130 4 (image_of 2 small two_blocks)) 0 ≡ true
good_volume = refl

-- With the bit of a file cleared, the volume's piece is good, and a stripe's that has a block of the file is bad.
good_volume_without_a_file : is_good small (changed 72 1 (image_of 2 small two_blocks)) 0 ≡ true
good_volume_without_a_file = refl

bad_stripe_without_a_file : is_good small (changed 72 1 (image_of 2 small two_blocks)) 1 ≡ false
bad_stripe_without_a_file = refl

-- ---- which pieces a message touches

-- whether a message may change the volume's piece, that of its first stripe and that of its second
abbrev touched_in_small : Msg → List Bool
touched_in_small m = may_change small m 0 ∷ may_change small m 1 ∷ may_change small m 2 ∷ []

make_touches : touched_in_small (MakeVol 0 0) ≡ true ∷ false ∷ false ∷ []
make_touches = refl

drop_touches : touched_in_small (DropVol 0 0) ≡ true ∷ true ∷ true ∷ []
drop_touches = refl

create_touches : touched_in_small (Create 0 0 1) ≡ true ∷ false ∷ false ∷ []
create_touches = refl

delete_touches : touched_in_small (Delete 0 0 1) ≡ true ∷ true ∷ true ∷ []
delete_touches = refl

seal_touches : touched_in_small (Seal 0 0) ≡ true ∷ false ∷ false ∷ []
seal_touches = refl

unseal_touches : touched_in_small (Unseal 0 0) ≡ true ∷ false ∷ false ∷ []
unseal_touches = refl

write_touches : touched_in_small (Write 0 0 1 1 (block_of 97)) ≡ false ∷ true ∷ false ∷ []
write_touches = refl

punch_touches : touched_in_small (Punch 0 0 1 2) ≡ false ∷ false ∷ true ∷ []
punch_touches = refl

label_touches : touched_in_small (SetLabel 0 0 (label_of 99)) ≡ true ∷ false ∷ false ∷ []
label_touches = refl

questions_touch_nothing : touched_in_small (Read 0 0 1 1) ++ touched_in_small (ListFiles 0 0) ++ touched_in_small (AskUsage 0 0)
    ++ touched_in_small AskSummary ++ touched_in_small (AskLabel 0 0) ≡ replicate 15 false
questions_touch_nothing = refl

-- pieces 4, 5, 9 and 10 of the default server: the second of its four volumes has pieces 5 to 9, after the five of the first volume
abbrev touched_in_default : Msg → List Bool
touched_in_default m = may_change default_geometry m 4 ∷ may_change default_geometry m 5 ∷ may_change default_geometry m 9 ∷ may_change default_geometry m 10 ∷ []

drop_touches_its_volume : touched_in_default (DropVol 0 1) ≡ false ∷ true ∷ true ∷ false ∷ []
drop_touches_its_volume = refl
