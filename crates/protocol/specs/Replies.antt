-- Format for clients: The line of each reply.
use Rattle.std.specs.Prelude.{◌≡◌, ℕ, zero, suc, ◌+◌, ◌==◌, List, [], ◌∷◌, ◌++◌, take, drop, length, codes, if◌then◌else◌, Bool}
use Rattle.std.specs.Fmt.{decimal}
use Rattle.std.specs.Int.{bit_at}
use Rattle.hex.specs.Hex.{encode_lower}
use Rattle.affinity.specs.declared.limits.TheConstants.{MOST_FILES}
use Rattle.protocol.specs.declared.replies.Refusal.{Refusal}
use Rattle.protocol.specs.declared.replies.Refusal.TheVariants.{Range, Volume, Exists, Sealed, File, Space}
use Rattle.protocol.specs.declared.replies.Reply.{Reply}
use Rattle.protocol.specs.declared.replies.Reply.TheVariants.{Done, Hole, Block as Found, Files, Usage, Summary, Refused, Label}

-- a byte followed by the others; a zero that nothing follows is dropped
abbrev pub prepended : ℕ → List ℕ → List ℕ
prepended b [] = if b == 0 then [] else b ∷ []
prepended b (c ∷ cs) = b ∷ c ∷ cs

-- the bytes up to the last that isn't 0
abbrev pub without_trailing_zeros : List ℕ → List ℕ
without_trailing_zeros [] = []
without_trailing_zeros (b ∷ bs) = prepended b (without_trailing_zeros bs)

-- at least one byte: a zero where there is none
abbrev pub at_least_one : List ℕ → List ℕ
at_least_one [] = 0 ∷ []
at_least_one (b ∷ bs) = b ∷ bs

-- bytes in lower-case hexadecimal digits, up to the last byte that isn't 0; `00` where all are 0
unfoldable pub shown : List ℕ → List ℕ
shown bytes = encode_lower (at_least_one (without_trailing_zeros bytes))

-- the word that names a refusal
abbrev pub reason : Refusal → List ℕ
reason Range = codes "range"
reason Volume = codes "volume"
reason Exists = codes "exists"
reason Sealed = codes "sealed"
reason File = codes "file"
reason Space = codes "space"

-- whether file f is in the set `files`: it is bit f of that number
abbrev pub has_file : ℕ → ℕ → Bool
has_file files f = bit_at files f == 1

-- a space and a number
abbrev pub spaced : ℕ → List ℕ
spaced n = 32 ∷ decimal n

-- for each file of the set whose number is below the second argument, in ascending order: a space and the file's number
abbrev pub files_below : ℕ → ℕ → List ℕ
files_below files zero = []
files_below files (suc f) = files_below files f ++ (if has_file files f then spaced f else [])

-- a space and its number for each file of the set, in ascending order
unfoldable pub files_text : ℕ → List ℕ
files_text files = files_below files MOST_FILES

-- the text of a reply
abbrev pub reply_text : Reply → List ℕ
reply_text Done = codes "done"
reply_text Hole = codes "hole"
reply_text (Found content) = codes "block " ++ shown content.0
reply_text (Files files) = codes "files" ++ files_text files
reply_text (Usage files blocks sealed) = codes "usage" ++ spaced files ++ spaced blocks
    ++ (if sealed then codes " sealed" else codes " open")
reply_text (Summary volumes files blocks) = codes "summary" ++ spaced volumes ++ spaced files ++ spaced blocks
reply_text (Label bytes) = codes "label " ++ shown bytes
reply_text (Refused why) = codes "error " ++ reason why

-- a line of the output: a text and a newline
abbrev pub output_line : List ℕ → List ℕ
output_line text = text ++ 10 ∷ []

-- the line of a reply, its newline included
abbrev pub reply_line : Reply → List ℕ
reply_line reply = output_line (reply_text reply)

-- the answer to a line that is no message
abbrev pub no_message : List ℕ
no_message = output_line (codes "error line")

-- ---- a line put together in a buffer

-- A text comes after the first `at` bytes of a buffer, up to `end`, and the others are as they were.
pub record AppendsText (old new : List ℕ) (at end : ℕ) (text : List ℕ) : Type 0 where
  pub ends : end ≡ at + length text
  pub front : take end new ≡ take at old ++ text
  pub rest : drop end new ≡ drop end old
