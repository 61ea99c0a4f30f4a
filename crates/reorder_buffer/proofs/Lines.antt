-- A reorder buffer whose lines with tickets lie beside the kinds of all: its lines, as it grows, shrinks and is answered.
use Rattle.std.proofs.lemmas.Grind.{common_steps}
use Rattle.std.proofs.Common.{◌≡◌, ℕ, ◌+◌, ◌≤◌, suc, List, [], ◌∷◌, ◌++◌, length, map, refl, ap, sym, ◌∙◌, append-nil, arith}
use Rattle.protocol.specs.declared.replies.Reply.{Reply}
use Rattle.reorder_buffer.specs.ReorderBuffer.{Line, NoMessage, OutOfRange, complete_one, HaveTicketsFrom, Ticketed, LineKind, OutOfRangeKind, ReorderBufferView, NoMessageKind, ticketed_among, lines_of, with_tickets}

-- ---- how many lines there are

length-lines_of : (kinds : List LineKind) (ticketed : List Line) → ticketed_among kinds ≡ length ticketed
    → length (lines_of kinds ticketed) ≡ length kinds
length-lines_of [] ticketed many = refl
length-lines_of (NoMessageKind ∷ kinds) ticketed many = ap suc (length-lines_of kinds ticketed many)
length-lines_of (OutOfRangeKind ∷ kinds) ticketed many = ap suc (length-lines_of kinds ticketed many)
length-lines_of (Ticketed ∷ kinds) [] many = absurd (omega (arith, many))
length-lines_of (Ticketed ∷ kinds) (line ∷ ticketed) many = ap suc (length-lines_of kinds ticketed (omega (arith, many)))

pub length-lines : (kinds : List LineKind) (ticketed : List Line) (slots : ℕ) (buffer : ReorderBufferView)
    → record { lines = lines_of kinds ticketed; slots = slots } ≡ buffer → ticketed_among kinds ≡ length ticketed → length buffer.lines ≡ length kinds
length-lines kinds ticketed slots buffer is many = sym (ap (λ (v : ReorderBufferView). length v.lines) is) ∙ length-lines_of kinds ticketed many

pub fewer_are_ticketed : (kinds : List LineKind) → ticketed_among kinds ≤ length kinds
fewer_are_ticketed [] = omega arith
fewer_are_ticketed (NoMessageKind ∷ kinds) = omega (arith, fewer_are_ticketed kinds)
fewer_are_ticketed (OutOfRangeKind ∷ kinds) = omega (arith, fewer_are_ticketed kinds)
fewer_are_ticketed (Ticketed ∷ kinds) = omega (arith, fewer_are_ticketed kinds)

-- ---- one line more

pub ticketed_among-append : (kinds more : List LineKind) → ticketed_among (kinds ++ more) ≡ ticketed_among kinds + ticketed_among more
ticketed_among-append [] more = omega arith
ticketed_among-append (NoMessageKind ∷ kinds) more = ticketed_among-append kinds more
ticketed_among-append (OutOfRangeKind ∷ kinds) more = ticketed_among-append kinds more
ticketed_among-append (Ticketed ∷ kinds) more = omega (arith, ticketed_among-append kinds more)

pub lines_of-append : (kinds more : List LineKind) (ticketed rest : List Line) → ticketed_among kinds ≡ length ticketed
    → lines_of (kinds ++ more) (ticketed ++ rest) ≡ lines_of kinds ticketed ++ lines_of more rest
lines_of-append [] more [] rest many = refl
lines_of-append [] more (line ∷ ticketed) rest many = absurd (omega (arith, many))
lines_of-append (NoMessageKind ∷ kinds) more ticketed rest many = ap (λ l. NoMessage ∷ l) (lines_of-append kinds more ticketed rest many)
lines_of-append (OutOfRangeKind ∷ kinds) more ticketed rest many = ap (λ l. OutOfRange ∷ l) (lines_of-append kinds more ticketed rest many)
lines_of-append (Ticketed ∷ kinds) more [] rest many = absurd (omega (arith, many))
lines_of-append (Ticketed ∷ kinds) more (line ∷ ticketed) rest many = grind (arith, common_steps, lines_of-append kinds more ticketed rest)

-- a line without a ticket
pub lines_of-plain : (kinds more : List LineKind) (ticketed : List Line) → ticketed_among kinds ≡ length ticketed
    → lines_of (kinds ++ more) ticketed ≡ lines_of kinds ticketed ++ lines_of more []
lines_of-plain kinds more ticketed many =
    ap (λ (l : List Line). lines_of (kinds ++ more) l) (sym (append-nil ticketed)) ∙ lines_of-append kinds more ticketed [] many

-- ---- lines with tickets

pub tickets_of_lines : (kinds : List LineKind) (ticketed : List Line) (n : ℕ) → ticketed_among kinds ≡ length ticketed → HaveTicketsFrom n ticketed
    → with_tickets (lines_of kinds ticketed) ≡ ticketed
tickets_of_lines [] [] n many from = refl
tickets_of_lines [] (line ∷ ticketed) n many from = absurd (omega (arith, many))
tickets_of_lines (NoMessageKind ∷ kinds) ticketed n many from = tickets_of_lines kinds ticketed n many from
tickets_of_lines (OutOfRangeKind ∷ kinds) ticketed n many from = tickets_of_lines kinds ticketed n many from
tickets_of_lines (Ticketed ∷ kinds) [] n many from = absurd (omega (arith, many))
tickets_of_lines (Ticketed ∷ kinds) (line ∷ ticketed) n many from = grind (arith, common_steps, tickets_of_lines kinds ticketed (n + 1))

-- ---- an answer to a ticket, among all lines and among those with tickets

pub lines_of-answered : (ticket : ℕ) (reply : Reply) (kinds : List LineKind) (ticketed : List Line)
    → lines_of kinds (map (complete_one ticket reply) ticketed) ≡ map (complete_one ticket reply) (lines_of kinds ticketed)
lines_of-answered ticket reply [] ticketed = refl
lines_of-answered ticket reply (NoMessageKind ∷ kinds) ticketed = ap (λ l. NoMessage ∷ l) (lines_of-answered ticket reply kinds ticketed)
lines_of-answered ticket reply (OutOfRangeKind ∷ kinds) ticketed = ap (λ l. OutOfRange ∷ l) (lines_of-answered ticket reply kinds ticketed)
lines_of-answered ticket reply (Ticketed ∷ kinds) [] = refl
lines_of-answered ticket reply (Ticketed ∷ kinds) (line ∷ ticketed) = grind (arith, common_steps, lines_of-answered ticket reply kinds ticketed)
