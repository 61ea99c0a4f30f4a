-- Statement for clients: The output of a serial server, from any state on: one line for each line of the input. A server that runs messages
-- at once is to write the same.
use Rattle.std.specs.Prelude.{◌≡◌, ◌≢◌, ℕ, List, [], ◌∷◌, ◌++◌, take, Option, Some, None}
use Rattle.std.specs.Option.{option_map_or}
use Rattle.std.specs.Io.KnownBytes.{Appends}
use Rattle.std.specs.List.{flat_map, AllByRecursion}
use Rattle.affinity.specs.declared.geometry.Geometry.{Geometry}
use Rattle.protocol.specs.declared.messages.Msg.{Msg}
use Rattle.protocol.specs.Lines.{lines}
use Rattle.protocol.specs.Grammar.{message_of}
use Rattle.protocol.specs.Replies.{reply_line, no_message}
use Rattle.meaning.specs.State.{State}
use Rattle.meaning.specs.Step.{reply_to, next_state}

-- the answer to a line, and the state after it, by the message that it spells
abbrev pub answer_line : Geometry → State → Option Msg → List ℕ
answer_line g x spelled = option_map_or (λ m. reply_line (reply_to g x m)) spelled no_message

abbrev pub state_after_line : Geometry → State → Option Msg → State
state_after_line g x spelled = option_map_or (next_state g x) spelled x

-- the lines that answer the lines of an input, from a state on
abbrev pub output_lines : Geometry → State → List (List ℕ) → List (List ℕ)
output_lines g x [] = []
output_lines g x (line ∷ ls) = answer_line g x (message_of line) ∷ output_lines g (state_after_line g x (message_of line)) ls

-- some lists of bytes as one list, one after the other
abbrev pub joined : List (List ℕ) → List ℕ
joined lists = flat_map (λ bytes. bytes) lists

-- all bytes that the serial server writes for an input, from a state on
abbrev pub serial_output : Geometry → State → List ℕ → List ℕ
serial_output g x input = joined (output_lines g x (lines input))

-- the state after all of some lines
abbrev pub state_after_lines : Geometry → State → List (List ℕ) → State
state_after_lines g x [] = x
state_after_lines g x (line ∷ ls) = state_after_lines g (state_after_line g x (message_of line)) ls

-- ---- what a server that began in a state has written when it ends

-- each line with its newline
abbrev pub with_newlines : List (List ℕ) → List ℕ
with_newlines ls = flat_map (λ line. line ++ 10 ∷ []) ls

-- none of the bytes is a newline
abbrev pub HasNoNewline : List ℕ → Type 0
HasNoNewline bytes = AllByRecursion (λ b. b ≢ 10) bytes

-- Some whole lines were taken of the input, and a beginning of a further one (`begun`); `left` is the rest. Only the whole lines were
-- answered, from the state `start` on.
pub record AnswersWholeLines (g : Geometry) (start : State) (left : Option (List ℕ)) (input written : List ℕ) : Type 0 where
  pub whole : List (List ℕ)
  pub begun : List ℕ
  pub rest : List ℕ
  pub parts : input ≡ with_newlines whole ++ begun ++ rest
  pub left_is : left ≡ Some rest
  pub are_lines : AllByRecursion HasNoNewline whole
  pub no_line : HasNoNewline begun
  pub answered : written ≡ joined (output_lines g start whole)

-- The first lines of the output from a state on were written, and no part of a further one.
abbrev pub IsBeginning : Geometry → State → List ℕ → List ℕ → Type 0
IsBeginning g start input written = (n : ℕ) × (written ≡ joined (take n (output_lines g start (lines input))))

-- Where the input is known: P holds of it and of the bytes that were written, by which the output grew from `old` to `new`.
abbrev pub WritesOutput : Option (List ℕ) → Option (List ℕ) → Option (List ℕ) → (List ℕ → List ℕ → Type 0) → Type 0
WritesOutput None old new P = Unit {0}
WritesOutput (Some input) old new P = (written : List ℕ) × Appends old new written × P input written
