-- Statement for operators: Which lines take a ticket, and what is known of each line that was read.
use Rattle.std.specs.Prelude.{◌≡◌, ℕ, ◌+◌, true, false, List, [], ◌∷◌, ◌++◌, if◌then◌else◌, Option, Some, None}
use Rattle.std.specs.Option.{option_map_or}
use Rattle.std.specs.List.{Contains}
use Rattle.affinity.specs.declared.geometry.Geometry.{Geometry}
use Rattle.histories.specs.CoreState.{Entry}
use Rattle.protocol.specs.declared.messages.Msg.{Msg}
use Rattle.protocol.specs.declared.replies.Reply.{Reply}
use Rattle.protocol.specs.Grammar.{message_of}
use Rattle.protocol.specs.Messages.{is_in_range}
pub use Rattle.reorder_buffer.specs.ReorderBuffer.{HaveAnswers, complete_one, has_answer, answer_text}
pub use Rattle.reorder_buffer.specs.declared.reorder_buffer.Line.{Line}
pub use Rattle.reorder_buffer.specs.declared.reorder_buffer.Line.TheVariants.{NoMessage, OutOfRange, Pending, Completed}

-- ---- the messages that take tickets

-- the message of a line, if it is one and is in range: no other line takes a ticket
abbrev pub admitted_in : Geometry → Option Msg → List Msg
admitted_in g o = option_map_or (λ m. if is_in_range g m then m ∷ [] else []) o []

-- the messages of all lines that take a ticket, in order
abbrev pub admitted : Geometry → List (List ℕ) → List Msg
admitted g [] = []
admitted g (line ∷ ls) = admitted_in g (message_of line) ++ admitted g ls

-- each message with its ticket: the first one's is n, and each further one's the next
abbrev pub ticketed : ℕ → List Msg → List Entry
ticketed n [] = []
ticketed n (m ∷ ms) = (n, m) ∷ ticketed (n + 1) ms

-- the ticket after those of the messages, the first of which has ticket n
abbrev pub next_ticket : ℕ → List Msg → ℕ
next_ticket n [] = n
next_ticket n (m ∷ ms) = next_ticket (n + 1) ms

-- ---- what is known of a line

-- none of these replies is to this ticket
abbrev pub NoneIsTo : List (ℕ × Reply) → ℕ → Type 0
NoneIsTo replies ticket = (reply : Reply) → Contains replies (ticket, reply) → ⊥

-- `Line` states rightly what is known of a line with this message, or with none. If the message takes a ticket, that is n; if the line is
-- completed, its reply is among `replies`, by that ticket; if it is pending, none of them is to its ticket.
abbrev pub IsKnown : Geometry → List (ℕ × Reply) → ℕ → Option Msg → Line → Type 0
IsKnown g replies n None NoMessage = Unit {0}
IsKnown g replies n (Some m) OutOfRange = is_in_range g m ≡ false
IsKnown g replies n (Some m) (Pending ticket) = (is_in_range g m ≡ true) × (ticket ≡ n) × NoneIsTo replies ticket
IsKnown g replies n (Some m) (Completed ticket reply) = (is_in_range g m ≡ true) × (ticket ≡ n) × Contains replies (ticket, reply)
IsKnown g replies n _ _ = ⊥

-- `IsKnown` holds of each of the lines. The first of them that takes a ticket takes n, and each further one the next.
abbrev pub AreKnown : Geometry → List (ℕ × Reply) → ℕ → List (List ℕ) → List Line → Type 0
AreKnown g replies n [] [] = Unit {0}
AreKnown g replies n (line ∷ ls) (known ∷ rest) =
    IsKnown g replies n (message_of line) known × AreKnown g replies (next_ticket n (admitted_in g (message_of line))) ls rest
AreKnown g replies n _ _ = ⊥
