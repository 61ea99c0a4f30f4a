-- Statement for engineers: How far a session has come: the lines that it has taken of its input and answered, what is left of the input,
-- and what was written. No public clause of this crate cites this module.
use Rattle.std.specs.Prelude.{◌≡◌, ◌⊎◌, ℕ, Bool, true, List, ◌++◌, Option, Some, None}
use Rattle.std.specs.List.{AllByRecursion}
use Rattle.std.specs.Io.KnownBytes.{Appends}
use Rattle.affinity.specs.declared.geometry.Geometry.{Geometry}
use Rattle.protocol.specs.Lines.{lines}
use Rattle.meaning.specs.State.{State}
use Rattle.meaning.specs.Output.{state_after_lines, output_lines, joined, with_newlines, HasNoNewline}

-- These lines were taken of the input, and the rest is left of it. If the input is drained (its end was seen, and nothing is buffered), the
-- last line may lack its newline.
pub record AreTaken (input rest : List ℕ) (drained : Bool) (taken : List (List ℕ)) : Type 0 where
  pub to_come : lines input ≡ taken ++ lines rest
  pub are_lines : AllByRecursion HasNoNewline taken
  pub whole : (drained ≡ true) ⊎ (input ≡ with_newlines taken ++ rest)

-- Where the input is known: these lines were taken of it, and the rest is left.
abbrev pub TakesLines : Option (List ℕ) → Option (List ℕ) → Bool → List (List ℕ) → Type 0
TakesLines None left drained taken = Unit {0}
TakesLines (Some input) left drained taken = (rest : List ℕ) × (left ≡ Some rest) × AreTaken input rest drained taken

-- From the state `start` on, a session has answered lines of its input: `left` is what is left of the input, `now` the state after these
-- lines, and `written` is `before` with their answers after it.
pub record HasAnswered (g : Geometry) (start : State) (input left : Option (List ℕ)) (drained : Bool) (now : State)
    (before written : Option (List ℕ)) : Type 0 where
  pub answered : List (List ℕ)
  pub taken : TakesLines input left drained answered
  pub state : now ≡ state_after_lines g start answered
  pub output : Appends before written (joined (output_lines g start answered))
