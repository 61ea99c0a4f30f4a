-- Worked examples of the definitions, on a small server: one volume of two files of four blocks, in two stripes that
-- hold two blocks each, and four records in a half. Its device has 8,840 bytes.
use Rattle.std.proofs.Common.{◌≡◌, ℕ, ◌+◌, ◌%◌, List, ◌∷◌, ◌++◌, take, drop, get_or, replicate, Option, Some, None, [], refl, ap, arith, lit≤}
use Rattle.affinity.specs.declared.geometry.Geometry.{Geometry}
use Rattle.affinity.specs.Geometry.{default_geometry}
use Rattle.affinity.proofs.GeometryLemmas.{geometry_of, small}
use Rattle.recovery.specs.declared.fault.OpenFault.{OpenFault}
use Rattle.recovery.specs.declared.fault.OpenFault.TheVariants.{TooShort, BadVersion, BadPiece, BadChain, BadRecord}
use Rattle.recovery.specs.Header.{header_of}
use Rattle.recovery.specs.Recovery.{recovered_state}
use Rattle.recovery.specs.Refusals.{HasNoGeometry, IsUnformatted, refused}
use Rattle.protocol.specs.declared.replies.Reply.{Reply}
use Rattle.protocol.specs.declared.replies.Reply.TheVariants.{Summary}
use Rattle.protocol.specs.declared.messages.Msg.TheVariants.{Summary as AskSummary}
use Rattle.message.specs.Records.{data_of, message_in_fields, kind_numbered}
use Rattle.device_map.specs.Layout.{layout_of, device_size, image_size}
use Rattle.meaning.specs.Step.{reply_to}
use Rattle.meaning.specs.State.{State}

header_of_small : header_of small ≡ 1 ∷ 87 ∷ 65 ∷ 70 ∷ 70 ∷ 83 ∷ 82 ∷ 86 ∷ 1 ∷ 0 ∷ 1 ∷ 0 ∷ 2 ∷ 0 ∷ 1 ∷ 0 ∷ 2 ∷ 0 ∷ 4 ∷ 0 ∷ 2 ∷ 0 ∷ 4 ∷ 0 ∷ replicate 40 0
header_of_small = refl

size_of_the_default : device_size (layout_of default_geometry) ≡ 1332608
unfolding image_size
size_of_the_default = refl

-- each number as great as it may be
abbrev greatest : Geometry
greatest = geometry_of (4 ∷ 8 ∷ 8 ∷ 64 ∷ 64 ∷ 256 ∷ 64 ∷ 1024 ∷ [])
    ((lit≤ tt, lit≤ tt), (lit≤ tt, lit≤ tt), (lit≤ tt, lit≤ tt), (lit≤ tt, lit≤ tt), (lit≤ tt, lit≤ tt), (lit≤ tt, lit≤ tt), (lit≤ tt, lit≤ tt), (lit≤ tt, lit≤ tt))

size_of_the_greatest : device_size (layout_of greatest) ≡ 18110848
unfolding image_size
size_of_the_greatest = refl

-- ---- a formatted device, whose image 0 has version 2

abbrev formatted : List ℕ
formatted = header_of small ++ replicate 4360 0 ++ 2 ∷ replicate 4415 0

-- with this byte at a place
abbrev changed : ℕ → ℕ → List ℕ → List ℕ
changed at b bytes = take at bytes ++ b ∷ drop (at + 1) bytes

abbrev summary_of : Option State → Option Reply
summary_of None = None
summary_of (Some x) = Some (reply_to small x AskSummary)

abbrev summary_with : List ℕ → Option Reply
summary_with bytes = summary_of (recovered_state small bytes)

recovers_for_nothing : summary_with formatted ≡ Some (Summary 0 0 0)
unfolding image_size message_in_fields kind_numbered data_of
recovers_for_nothing = refl

other_root_bytes_name_area_0 : summary_with (changed 64 7 formatted) ≡ Some (Summary 0 0 0)
unfolding image_size message_in_fields kind_numbered data_of
other_root_bytes_name_area_0 = refl

a_record_is_run : summary_with (changed 192 1 (changed 196 1 formatted)) ≡ Some (Summary 1 0 0)
unfolding image_size message_in_fields kind_numbered data_of
a_record_is_run = refl

version_1 : summary_with (changed 4424 1 (changed 4488 1 formatted)) ≡ Some (Summary 1 0 0)
unfolding image_size message_in_fields kind_numbered data_of
version_1 = refl

-- ---- headers of no device

gate_shut : IsUnformatted (changed 0 0 formatted)
gate_shut = (lit≤ tt, λ are. let gate : 0 ≡ 1 = ap (λ (l : List ℕ). get_or l 0 0) are in absurd (omega (arith, gate)))

other_marks : IsUnformatted (changed 1 0 formatted)
other_marks = (lit≤ tt, λ are. let mark : 0 ≡ 87 = ap (λ (l : List ℕ). get_or l 1 0) are in absurd (omega (arith, mark)))

too_many_aggregates : HasNoGeometry (changed 8 5 formatted)
too_many_aggregates = (lit≤ tt, refl, λ g head. let number : 5 ≡ g.aggregates % 256 = ap (λ (l : List ℕ). get_or l 8 0) head in absurd (omega (arith, number, g.aggregates_range)))

more_than_numbers : HasNoGeometry (changed 24 1 formatted)
more_than_numbers = (lit≤ tt, refl, λ g head. let behind : 1 ≡ 0 = ap (λ (l : List ℕ). get_or l 24 0) head in absurd (omega (arith, behind)))

-- ---- damage

abbrev fault_with : List ℕ → Option OpenFault
fault_with bytes = refused small bytes

sound : fault_with formatted ≡ None
unfolding image_size message_in_fields kind_numbered data_of
sound = refl

shorter : fault_with (take 8839 formatted) ≡ Some TooShort
unfolding image_size message_in_fields kind_numbered data_of
shorter = refl

version_unknown : fault_with (changed 4424 9 formatted) ≡ Some BadVersion
unfolding image_size message_in_fields kind_numbered data_of
version_unknown = refl

head_not_zeros : fault_with (changed 4425 1 formatted) ≡ Some BadVersion
unfolding image_size message_in_fields kind_numbered data_of
head_not_zeros = refl

other_image_named : fault_with (changed 64 1 formatted) ≡ Some BadVersion
unfolding image_size message_in_fields kind_numbered data_of
other_image_named = refl

volume_of_mark_2 : fault_with (changed 4488 2 formatted) ≡ Some (BadPiece 0)
unfolding image_size message_in_fields kind_numbered data_of
volume_of_mark_2 = refl

entry_of_no_volume : fault_with (changed 4552 1 formatted) ≡ Some (BadPiece 1)
unfolding image_size message_in_fields kind_numbered data_of
entry_of_no_volume = refl

entry_of_mark_2 : fault_with (changed 5592 2 formatted) ≡ Some (BadPiece 2)
unfolding image_size message_in_fields kind_numbered data_of
entry_of_mark_2 = refl

label_in_version_1 : fault_with (changed 4424 1 (changed 4488 1 (changed 4504 1 formatted))) ≡ Some (BadPiece 0)
unfolding image_size message_in_fields kind_numbered data_of
label_in_version_1 = refl

label_in_version_2 : fault_with (changed 4488 1 (changed 4504 1 formatted)) ≡ None
unfolding image_size message_in_fields kind_numbered data_of
label_in_version_2 = refl

both_chained : fault_with (changed 128 1 (changed 2276 1 formatted)) ≡ Some BadChain
unfolding image_size message_in_fields kind_numbered data_of
both_chained = refl

record_of_zeros : fault_with (changed 192 1 formatted) ≡ Some (BadRecord 0 0)
unfolding image_size message_in_fields kind_numbered data_of
record_of_zeros = refl

record_of_a_reader : fault_with (changed 192 1 (changed 196 9 formatted)) ≡ Some (BadRecord 0 0)
unfolding image_size message_in_fields kind_numbered data_of
record_of_a_reader = refl

record_that_is_refused : fault_with (changed 192 1 (changed 196 2 formatted)) ≡ Some (BadRecord 0 0)
unfolding image_size message_in_fields kind_numbered data_of
record_that_is_refused = refl

second_record_is_refused : fault_with (changed 192 1 (changed 193 1 (changed 196 1 (changed 716 1 formatted)))) ≡ Some (BadRecord 0 1)
unfolding image_size message_in_fields kind_numbered data_of
second_record_is_refused = refl

record_of_the_chained_half : fault_with (changed 128 1 (changed 2340 1 formatted)) ≡ Some (BadRecord 1 0)
unfolding image_size message_in_fields kind_numbered data_of
record_of_the_chained_half = refl
