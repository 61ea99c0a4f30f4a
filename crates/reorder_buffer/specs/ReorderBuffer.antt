-- Statement for operators: What is known of each line that was read and not retired yet; the reorder buffer, how it is kept, and what is
-- retired.
use Rattle.std.specs.Prelude.{◌≡◌, ◌<◌, ℕ, ◌+◌, ◌==◌, Bool, true, false, List, [], ◌∷◌, Option, Some, None, get_or, if◌then◌else◌, length, map, set}
use Rattle.std.specs.List.{AllByRecursion}
use Rattle.protocol.specs.Replies.{reply_line, no_message}
use Rattle.protocol.specs.declared.replies.Reply.{Reply}
use Rattle.protocol.specs.declared.replies.Reply.TheVariants.{Refused}
use Rattle.protocol.specs.declared.replies.Refusal.TheVariants.{Range}
pub use Rattle.reorder_buffer.specs.declared.reorder_buffer.Line.{Line}
pub use Rattle.reorder_buffer.specs.declared.reorder_buffer.Line.TheVariants.{NoMessage, OutOfRange, Pending, Completed}
pub use Rattle.reorder_buffer.specs.declared.reorder_buffer.LineKind.{LineKind}
pub use Rattle.reorder_buffer.specs.declared.reorder_buffer.LineKind.TheVariants.{NoMessage as NoMessageKind, OutOfRange as OutOfRangeKind, Ticketed}

-- ---- the answer to a line

-- whether the answer to the line is known: it isn't pending
abbrev pub has_answer : Line → Bool
has_answer (Pending ticket) = false
has_answer _ = true

-- The answer to each of the lines is known.
abbrev pub HaveAnswers : List Line → Type 0
HaveAnswers lines = AllByRecursion (λ line. has_answer line ≡ true) lines

-- the line of the output that answers a line of the input; no bytes while that is pending
abbrev pub answer_text : Line → List ℕ
answer_text NoMessage = no_message
answer_text OutOfRange = reply_line (Refused Range)
answer_text (Pending ticket) = []
answer_text (Completed ticket reply) = reply_line reply

-- what a line becomes when the message with this ticket gets this reply: completed, if it is that message's line; else it stays
abbrev pub complete_one : ℕ → Reply → Line → Line
complete_one ticket reply (Pending t) = if t == ticket then Completed t reply else Pending t
complete_one ticket reply line = line

-- ---- the reorder buffer

-- A reorder buffer as contracts see it.
pub record ReorderBufferView : Type 0 where
  -- the lines, oldest first
  pub lines : List Line
  -- how many lines it can hold
  pub slots : ℕ

-- whether the answer to the oldest line is known, so that it can be retired
abbrev pub can_retire : List Line → Bool
can_retire [] = false
can_retire (line ∷ rest) = has_answer line

-- what is written when the oldest line is retired
abbrev pub retired_text : List Line → List ℕ
retired_text [] = []
retired_text (line ∷ rest) = answer_text line

-- ---- how a reorder buffer is kept

-- all lines in order, put together from the kind of each and the lines with tickets
abbrev pub lines_of : List LineKind → List Line → List Line
lines_of [] ticketed = []
lines_of (NoMessageKind ∷ kinds) ticketed = NoMessage ∷ lines_of kinds ticketed
lines_of (OutOfRangeKind ∷ kinds) ticketed = OutOfRange ∷ lines_of kinds ticketed
lines_of (Ticketed ∷ kinds) [] = []
lines_of (Ticketed ∷ kinds) (line ∷ ticketed) = line ∷ lines_of kinds ticketed

-- how many of the kinds are those of lines with tickets
abbrev pub ticketed_among : List LineKind → ℕ
ticketed_among [] = 0
ticketed_among (NoMessageKind ∷ kinds) = ticketed_among kinds
ticketed_among (OutOfRangeKind ∷ kinds) = ticketed_among kinds
ticketed_among (Ticketed ∷ kinds) = ticketed_among kinds + 1

-- The line is that of the message with this ticket.
abbrev pub HasTicket : ℕ → Line → Type 0
HasTicket ticket (Pending t) = t ≡ ticket
HasTicket ticket (Completed t reply) = t ≡ ticket
HasTicket ticket _ = ⊥

-- The lines are those of messages with consecutive tickets, from this ticket on.
abbrev pub HaveTicketsFrom : ℕ → List Line → Type 0
HaveTicketsFrom ticket [] = Unit {0}
HaveTicketsFrom ticket (line ∷ ticketed) = HasTicket ticket line × HaveTicketsFrom (ticket + 1) ticketed

-- The tickets of the lines go up by one, from some first ticket on.
abbrev pub AreConsecutive : List Line → Type 0
AreConsecutive ticketed = (first : ℕ) × HaveTicketsFrom first ticketed

-- the lines that have tickets
abbrev pub with_tickets : List Line → List Line
with_tickets [] = []
with_tickets (Pending ticket ∷ rest) = Pending ticket ∷ with_tickets rest
with_tickets (Completed ticket reply ∷ rest) = Completed ticket reply ∷ with_tickets rest
with_tickets (_ ∷ rest) = with_tickets rest

-- A reply to the message with this ticket changes none of these lines but the one at this index, if there is one.
abbrev pub IsAnsweredAt : ℕ → Option ℕ → List Line → Type 0
IsAnsweredAt ticket None lines = (reply : Reply) → map (complete_one ticket reply) lines ≡ lines
IsAnsweredAt ticket (Some k) lines = (k < length lines) × ((reply : Reply) (line : Line) → line ≡ get_or lines k line
    → map (complete_one ticket reply) lines ≡ set lines k (complete_one ticket reply line))
