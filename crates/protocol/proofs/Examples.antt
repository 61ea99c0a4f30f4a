-- The definitions at single lines and replies.
use Rattle.std.proofs.Common.{◌≡◌, [], ◌∷◌, ◌++◌, refl}
use Rattle.std.specs.Prelude.{codes, replicate, true, false, ◌^◌, Some, None}
use Rattle.std.specs.Fmt.{digits}
use Rattle.hex.proofs.OnLiterals.{hex_on_literals}
use Rattle.protocol.specs.declared.replies.Refusal.TheVariants.{Range, Volume, Exists, Sealed, File, Space}
use Rattle.protocol.specs.declared.messages.Msg.TheVariants.{MakeVol, DropVol, Create, Delete, Seal, Unseal, Write, Punch, Read, List as ListFiles, Usage as AskUsage, Summary as AskSummary, SetLabel, Label as AskLabel}
use Rattle.protocol.specs.declared.replies.Reply.TheVariants.{Done, Hole, Block as Found, Files, Usage, Summary, Refused, Label}
use Rattle.protocol.specs.Lines.{lines}
use Rattle.protocol.specs.Words.{number_in_word, block_in_word, label_in_word, bytes_in_word}
use Rattle.protocol.specs.Grammar.{message_of, kind_named}
use Rattle.protocol.specs.Replies.{reply_line, no_message, shown, files_text}
use Rattle.protocol.specs.FirstLine.{first_line, behind_first_line}
use Rattle.protocol.specs.declared.sizes.TheConstants.{BLOCK_SIZE, LABEL_SIZE, RECORD_HEAD_SIZE, RECORD_SIZE, LONGEST_LINE, LONGEST_REPLY}

-- ---- the sizes that definitions cite

block_size : BLOCK_SIZE ≡ 512
block_size = refl

label_size : LABEL_SIZE ≡ 32
label_size = refl

record_head_size : RECORD_HEAD_SIZE ≡ 8
record_head_size = refl

record_size : RECORD_SIZE ≡ 520
record_size = refl

longest_line : LONGEST_LINE ≡ 1100
longest_line = refl

longest_reply : LONGEST_REPLY ≡ 1031
longest_reply = refl

-- ---- lines that are messages

makevol : message_of (codes "makevol 0 0") ≡ Some (MakeVol 0 0)
unfolding message_of kind_named number_in_word
makevol = refl

create : message_of (codes "create 0 0 0") ≡ Some (Create 0 0 0)
unfolding message_of kind_named number_in_word
create = refl

write_two_bytes : message_of (codes "write 0 0 0 0 6162") ≡ Some (Write 0 0 0 0 (record { 0 = 97 ∷ 98 ∷ replicate 510 0 }))
unfolding message_of kind_named number_in_word block_in_word bytes_in_word hex_on_literals
write_two_bytes = refl

write_longest :
    message_of (codes "write 65535 65535 65535 65535 " ++ replicate 1024 48) ≡ Some (Write 65535 65535 65535 65535 (record { 0 = replicate 512 0 }))
unfolding message_of kind_named number_in_word block_in_word bytes_in_word hex_on_literals
write_longest = refl

write_upper_case : message_of (codes "write 1 2 3 4 aBcD") ≡ Some (Write 1 2 3 4 (record { 0 = 171 ∷ 205 ∷ replicate 510 0 }))
unfolding message_of kind_named number_in_word block_in_word bytes_in_word hex_on_literals
write_upper_case = refl

read : message_of (codes "read 0 0 0 63") ≡ Some (Read 0 0 0 63)
unfolding message_of kind_named number_in_word
read = refl

read_largest : message_of (codes "read 0 0 0 65535") ≡ Some (Read 0 0 0 65535)
unfolding message_of kind_named number_in_word
read_largest = refl

dropvol : message_of (codes "dropvol 0 3") ≡ Some (DropVol 0 3)
unfolding message_of kind_named number_in_word
dropvol = refl

delete : message_of (codes "delete 0 0 15") ≡ Some (Delete 0 0 15)
unfolding message_of kind_named number_in_word
delete = refl

seal : message_of (codes "seal 1 2") ≡ Some (Seal 1 2)
unfolding message_of kind_named number_in_word
seal = refl

unseal : message_of (codes "unseal 1 2") ≡ Some (Unseal 1 2)
unfolding message_of kind_named number_in_word
unseal = refl

punch : message_of (codes "punch 0 1 2 63") ≡ Some (Punch 0 1 2 63)
unfolding message_of kind_named number_in_word
punch = refl

list : message_of (codes "list 0 0") ≡ Some (ListFiles 0 0)
unfolding message_of kind_named number_in_word
list = refl

usage : message_of (codes "usage 0 0") ≡ Some (AskUsage 0 0)
unfolding message_of kind_named number_in_word
usage = refl

summary : message_of (codes "summary") ≡ Some AskSummary
unfolding message_of kind_named number_in_word
summary = refl

setlabel : message_of (codes "setlabel 0 0 6162") ≡ Some (SetLabel 0 0 (97 ∷ 98 ∷ replicate 30 0))
unfolding message_of kind_named number_in_word label_in_word bytes_in_word hex_on_literals
setlabel = refl

label_asked : message_of (codes "label 0 0") ≡ Some (AskLabel 0 0)
unfolding message_of kind_named number_in_word
label_asked = refl

-- ---- lines that are no messages

summary_and_space : message_of (codes "summary ") ≡ None
unfolding message_of kind_named number_in_word
summary_and_space = refl

summary_and_number : message_of (codes "summary 0") ≡ None
unfolding message_of kind_named number_in_word
summary_and_number = refl

list_alone : message_of (codes "list") ≡ None
unfolding message_of kind_named number_in_word
list_alone = refl

list_of_file : message_of (codes "list 0 0 0") ≡ None
unfolding message_of kind_named number_in_word
list_of_file = refl

unknown_word : message_of (codes "unlink 0 0") ≡ None
unfolding message_of kind_named number_in_word
unknown_word = refl

label_with_data : message_of (codes "label 0 0 61") ≡ None
unfolding message_of kind_named number_in_word
label_with_data = refl

label_without_data : message_of (codes "setlabel 0 0") ≡ None
unfolding message_of kind_named number_in_word
label_without_data = refl

label_of_odd_digits : message_of (codes "setlabel 0 0 616") ≡ None
unfolding message_of kind_named number_in_word label_in_word bytes_in_word hex_on_literals
label_of_odd_digits = refl

longest_label : label_in_word (replicate 64 48) ≡ Some (replicate 32 0)
unfolding label_in_word bytes_in_word hex_on_literals
longest_label = refl

label_of_33_bytes : label_in_word (replicate 66 48) ≡ None
unfolding label_in_word bytes_in_word
label_of_33_bytes = refl

leading_zero : message_of (codes "read 00 0 0 0") ≡ None
unfolding message_of kind_named number_in_word
leading_zero = refl

carriage_return : message_of (codes "read 0 0 0 0" ++ 13 ∷ []) ≡ None
unfolding message_of kind_named number_in_word
carriage_return = refl

two_spaces : message_of (codes "read  0 0 0 0") ≡ None
unfolding message_of kind_named number_in_word
two_spaces = refl

space_before : message_of (codes " read 0 0 0 0") ≡ None
unfolding message_of kind_named number_in_word
space_before = refl

space_behind : message_of (codes "read 0 0 0 0 ") ≡ None
unfolding message_of kind_named number_in_word
space_behind = refl

tab : message_of (codes "read" ++ 9 ∷ codes "0 0 0 0") ≡ None
unfolding message_of kind_named number_in_word
tab = refl

empty_line : message_of [] ≡ None
unfolding message_of kind_named number_in_word
empty_line = refl

too_large : message_of (codes "read 0 0 0 65536") ≡ None
unfolding message_of kind_named number_in_word
too_large = refl

below_zero : message_of (codes "read 0 0 0 -1") ≡ None
unfolding message_of kind_named number_in_word
below_zero = refl

with_plus : message_of (codes "read 0 0 0 +1") ≡ None
unfolding message_of kind_named number_in_word
with_plus = refl

upper_case_keyword : message_of (codes "READ 0 0 0 0") ≡ None
unfolding message_of kind_named number_in_word
upper_case_keyword = refl

a_number_less : message_of (codes "read 0 0 0") ≡ None
unfolding message_of kind_named number_in_word
a_number_less = refl

a_number_more : message_of (codes "makevol 0 0 0") ≡ None
unfolding message_of kind_named number_in_word
a_number_more = refl

odd_digits : message_of (codes "write 0 0 0 0 6") ≡ None
unfolding message_of kind_named number_in_word block_in_word bytes_in_word hex_on_literals
odd_digits = refl

bad_digit : message_of (codes "write 0 0 0 0 6g") ≡ None
unfolding message_of kind_named number_in_word block_in_word bytes_in_word hex_on_literals
bad_digit = refl

no_digits : message_of (codes "write 0 0 0 0") ≡ None
unfolding message_of kind_named number_in_word block_in_word bytes_in_word
no_digits = refl

no_digits_behind_a_space : message_of (codes "write 0 0 0 0 ") ≡ None
unfolding message_of kind_named number_in_word block_in_word bytes_in_word
no_digits_behind_a_space = refl

-- ---- the digits of a block

longest_block : block_in_word (replicate 1024 48) ≡ Some (record { 0 = replicate 512 0 })
unfolding block_in_word bytes_in_word hex_on_literals
longest_block = refl

longer_block : block_in_word (replicate 1026 48) ≡ None
unfolding block_in_word bytes_in_word
longer_block = refl

-- ---- lines too long

too_long : message_of (replicate 1101 48) ≡ None
unfolding message_of
too_long = refl

-- ---- replies

done : reply_line Done ≡ codes "done" ++ 10 ∷ []
done = refl

hole : reply_line Hole ≡ codes "hole" ++ 10 ∷ []
hole = refl

two_bytes : reply_line (Found (record { 0 = 97 ∷ 98 ∷ replicate 510 0 })) ≡ codes "block 6162" ++ 10 ∷ []
unfolding shown hex_on_literals
two_bytes = refl

zero_between : reply_line (Found (record { 0 = 0 ∷ 175 ∷ 0 ∷ 16 ∷ replicate 508 0 })) ≡ codes "block 00af0010" ++ 10 ∷ []
unfolding shown hex_on_literals
zero_between = refl

all_zeros : reply_line (Found (record { 0 = replicate 512 0 })) ≡ codes "block 00" ++ 10 ∷ []
unfolding shown hex_on_literals
all_zeros = refl

no_files : reply_line (Files 0) ≡ codes "files" ++ 10 ∷ []
unfolding files_text
no_files = refl

some_files : reply_line (Files 33797) ≡ codes "files 0 2 10 15" ++ 10 ∷ []
unfolding files_text digits
some_files = refl

last_file : reply_line (Files (2 ^ 63)) ≡ codes "files 63" ++ 10 ∷ []
unfolding files_text digits
last_file = refl

open_volume : reply_line (Usage 2 13 false) ≡ codes "usage 2 13 open" ++ 10 ∷ []
unfolding digits
open_volume = refl

sealed_volume : reply_line (Usage 0 0 true) ≡ codes "usage 0 0 sealed" ++ 10 ∷ []
unfolding digits
sealed_volume = refl

whole_server : reply_line (Summary 32 2048 16384) ≡ codes "summary 32 2048 16384" ++ 10 ∷ []
unfolding digits
whole_server = refl

label_shown : reply_line (Label (97 ∷ 98 ∷ replicate 30 0)) ≡ codes "label 6162" ++ 10 ∷ []
unfolding shown hex_on_literals
label_shown = refl

label_of_zeros : reply_line (Label (replicate 32 0)) ≡ codes "label 00" ++ 10 ∷ []
unfolding shown hex_on_literals
label_of_zeros = refl

range : reply_line (Refused Range) ≡ codes "error range" ++ 10 ∷ []
range = refl

volume : reply_line (Refused Volume) ≡ codes "error volume" ++ 10 ∷ []
volume = refl

exists : reply_line (Refused Exists) ≡ codes "error exists" ++ 10 ∷ []
exists = refl

sealed : reply_line (Refused Sealed) ≡ codes "error sealed" ++ 10 ∷ []
sealed = refl

file : reply_line (Refused File) ≡ codes "error file" ++ 10 ∷ []
file = refl

space : reply_line (Refused Space) ≡ codes "error space" ++ 10 ∷ []
space = refl

line : no_message ≡ codes "error line" ++ 10 ∷ []
line = refl

-- ---- the lines of an input

no_lines : lines [] ≡ []
no_lines = refl

last_newline : lines (codes "a" ++ 10 ∷ codes "bc" ++ 10 ∷ []) ≡ codes "a" ∷ codes "bc" ∷ []
last_newline = refl

no_last_newline : lines (codes "a" ++ 10 ∷ codes "bc") ≡ codes "a" ∷ codes "bc" ∷ []
no_last_newline = refl

two_newlines : lines (10 ∷ 10 ∷ []) ≡ [] ∷ [] ∷ []
two_newlines = refl

empty_between : lines (codes "a" ++ 10 ∷ 10 ∷ codes "b") ≡ codes "a" ∷ [] ∷ codes "b" ∷ []
empty_between = refl

-- ---- the first line of some bytes, and what lies behind it: `ab` before `c`, two newlines, no newline, nothing

a_line : first_line (97 ∷ 98 ∷ 10 ∷ 99 ∷ []) ≡ 97 ∷ 98 ∷ []
a_line = refl

behind_it : behind_first_line (97 ∷ 98 ∷ 10 ∷ 99 ∷ []) ≡ 99 ∷ []
behind_it = refl

an_empty_line : first_line (10 ∷ 10 ∷ []) ≡ []
an_empty_line = refl

another_behind_it : behind_first_line (10 ∷ 10 ∷ []) ≡ 10 ∷ []
another_behind_it = refl

a_last_line : first_line (97 ∷ 98 ∷ []) ≡ 97 ∷ 98 ∷ []
a_last_line = refl

nothing_behind_it : behind_first_line (97 ∷ 98 ∷ []) ≡ []
nothing_behind_it = refl

no_line : first_line [] ≡ []
no_line = refl
