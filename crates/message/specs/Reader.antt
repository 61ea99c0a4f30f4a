-- Statement for engineers: What a reader of lines holds, and what it finds in the bytes that are not yet read.
use Rattle.std.specs.Prelude.{◌≡◌, ℕ, ◌<◌, ◌⊎◌, ◌&&◌, Bool, true, false, List, [], ◌∷◌, length, slice_range, Option, Some, Result, Ok, Err, IsTrue, IfSome, Contains}
use Rattle.std.specs.Option.{option_map}
use Rattle.std.specs.Io.KnownBytes.{prepend_known, IsAtEnd}
use Rattle.protocol.specs.declared.sizes.TheConstants.{LONGEST_LINE}
use Rattle.protocol.specs.FirstLine.{first_line, GivesLine, PassesLine, LosesLineStart, HasWholeFirstLine}
use Rattle.message.specs.declared.line_reader.Found.{Found}
use Rattle.message.specs.declared.line_reader.Found.TheVariants.{Line, TooLong, End}
use Rattle.message.specs.declared.line_reader.ReadFault.{ReadFault}
use Rattle.message.specs.declared.line_reader.Buffered.{Buffered}
use Rattle.message.specs.declared.line_reader.LineReader.{LineReader}

-- ---- what a reader of lines holds

-- the bytes that are read and not yet given
abbrev pub buffered_bytes : Buffered → List ℕ
buffered_bytes h = slice_range h.buffer.items h.start h.end

-- the line that the last call gave; empty where it gave none
abbrev pub given_line : Buffered → List ℕ
given_line h = slice_range h.buffer.items h.line_start h.line_end

-- the bytes that are still to come, where they are known: none once the end was reported
abbrev pub still_to_come : Bool → Option (List ℕ) → Option (List ℕ)
still_to_come false known = known
still_to_come true known = option_map (λ _. []) known

-- the bytes that a line reader has not given yet, where they are known: those that it holds, and then (`prepend_known`) what its
-- reader has left
abbrev pub unread : {R : Type 0} → (R → Option (List ℕ)) → LineReader R → Option (List ℕ)
unread remaining r = prepend_known (buffered_bytes r.buffered) (still_to_come r.ended (remaining r.reader))

-- the line that the last call gave; empty where it gave none
abbrev pub line_of : {R : Type 0} → LineReader R → List ℕ
line_of r = given_line r.buffered

-- a whole line is held, its newline included
abbrev pub HoldsLine : {R : Type 0} → LineReader R → Type 0
HoldsLine r = Contains (buffered_bytes r.buffered) 10

-- whether a read has reported the end
abbrev pub has_ended : {R : Type 0} → LineReader R → Bool
has_ended r = r.ended

-- The next line is found without a read: nothing is to come, a whole line is held, or more of a line than it may have.
abbrev pub HoldsEnough : {R : Type 0} → LineReader R → Type 0
HoldsEnough r = IsTrue (has_ended r) ⊎ HoldsLine r ⊎ (LONGEST_LINE < length (first_line (buffered_bytes r.buffered)))

-- whether a read has failed
abbrev pub has_failed : {R : Type 0} → LineReader R → Bool
has_failed r = r.failed

-- the reader from which a line reader reads
abbrev pub source : {R : Type 0} → LineReader R → R
source r = r.reader

-- If a read has reported the end, nothing is left of the source, where that is known.
abbrev pub KnowsEnd : {R : Type 0} → (R → Option (List ℕ)) → LineReader R → Type 0
KnowsEnd remaining r = IsTrue (has_ended r) → IsAtEnd (remaining (source r))

-- ---- what is found, where the bytes are known

-- The end was found: there are no bytes, and none are left.
pub record IsAtEndOf (bs : List ℕ) (left : Option (List ℕ)) : Type 0 where
  pub none : bs ≡ []
  pub left_is : left ≡ Some []

-- What each answer means for the bytes that were unread before, for the line, and for the bytes that are unread now.
abbrev pub Finds : Result Found ReadFault → Option (List ℕ) → List ℕ → Option (List ℕ) → Type 0
Finds (Ok Line) old line new = IfSome old (λ bs. GivesLine line bs new)
Finds (Ok TooLong) old line new = IfSome old (λ bs. PassesLine bs new)
Finds (Ok End) old line new = IfSome old (λ bs. IsAtEndOf bs new)
Finds (Err fault) old line new = IfSome old (λ bs. LosesLineStart bs new)

-- ---- the end of the input

-- whether there are no bytes
abbrev pub are_none : List ℕ → Bool
are_none [] = true
are_none (b ∷ bs) = false

-- whether a read has reported the end, and nothing is held: nothing is left to give
abbrev pub is_drained : {R : Type 0} → LineReader R → Bool
is_drained r = r.ended && are_none (buffered_bytes r.buffered)

-- A line that was found ends with a newline, or with the input.
abbrev pub Closes : Result Found ReadFault → Option (List ℕ) → Bool → Type 0
Closes (Ok Line) old drained = HasWholeFirstLine old drained
Closes (Ok TooLong) old drained = HasWholeFirstLine old drained
Closes _ old drained = Unit {0}
