-- Statement for engineers: The first line of some bytes, and what a reader of lines finds in them.
use Rattle.std.specs.Prelude.{◌≡◌, ◌≢◌, ℕ, ◌<◌, ◌⊎◌, ◌==◌, Bool, true, List, [], ◌∷◌, ◌++◌, length, if◌then◌else◌, Option, Some, IfSome, All, Contains}
use Rattle.protocol.specs.declared.sizes.TheConstants.{LONGEST_LINE}

-- the bytes before the first newline, or all of them
abbrev pub first_line : List ℕ → List ℕ
first_line [] = []
first_line (b ∷ bs) = if b == 10 then [] else b ∷ first_line bs

-- the bytes after the first newline, or none
abbrev pub behind_first_line : List ℕ → List ℕ
behind_first_line [] = []
behind_first_line (b ∷ bs) = if b == 10 then bs else behind_first_line bs

-- none of the bytes is a newline
abbrev pub IsWithinLine : List ℕ → Type 0
IsWithinLine bs = All (λ b. b ≢ 10) bs

-- ---- what is found, where the bytes are known

-- A line was found: it is the first line of the bytes, and the bytes behind it are left.
pub record GivesLine (line bs : List ℕ) (left : Option (List ℕ)) : Type 0 where
  pub more : bs ≢ []
  pub line_is : line ≡ first_line bs
  pub left_is : left ≡ Some (behind_first_line bs)

-- A long line was skipped: the first line of the bytes has more bytes than a message may have, and those after it are left.
pub record PassesLine (bs : List ℕ) (left : Option (List ℕ)) : Type 0 where
  pub long : LONGEST_LINE < length (first_line bs)
  pub left_is : left ≡ Some (behind_first_line bs)

-- A read failed: some bytes at the front were lost, none of them a newline, and the others are left.
pub record LosesLineStart (bs : List ℕ) (left : Option (List ℕ)) : Type 0 where
  pub got : List ℕ
  pub rest : List ℕ
  pub parts : bs ≡ got ++ rest
  pub within_line : IsWithinLine got
  pub left_is : left ≡ Some rest

-- ---- the end of the input

-- Where the bytes are known, their first line is whole: it ends with a newline, or the reader is drained after it (the input has ended and
-- every byte was given), so the line ends with the input.
abbrev pub HasWholeFirstLine : Option (List ℕ) → Bool → Type 0
HasWholeFirstLine old drained = IfSome old (λ bs. Contains bs 10 ⊎ (drained ≡ true))
