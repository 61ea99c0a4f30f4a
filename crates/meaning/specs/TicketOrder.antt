-- Statement for operators: Messages with tickets: the reply to each, and their order by ticket.
use Rattle.std.specs.Prelude.{◌≡◌, ℕ, ◌<◌, true, nat_lt, List, [], ◌∷◌, map, if◌then◌else◌, ◌≤◌}
use Rattle.std.specs.List.{AllByRecursion}
use Rattle.affinity.specs.declared.geometry.Geometry.{Geometry}
use Rattle.affinity.specs.Path.{are_related}
use Rattle.protocol.specs.declared.messages.Msg.{Msg}
use Rattle.protocol.specs.declared.replies.Reply.{Reply}
use Rattle.protocol.specs.Messages.{path_of}
use Rattle.meaning.specs.State.{State}
use Rattle.meaning.specs.Step.{reply_to, next_state, state_after_all}

-- each ticket with the reply to its message, where the messages run in this order
abbrev pub serial_replies : Geometry → State → List (ℕ × Msg) → List (ℕ × Reply)
serial_replies g x [] = []
serial_replies g x (e ∷ es) = (e.0, reply_to g x e.1) ∷ serial_replies g (next_state g x e.1) es

-- the messages of entries, without their tickets
abbrev pub messages_of : List (ℕ × Msg) → List Msg
messages_of es = map (λ e. e.1) es

-- the list with the entry e in front of the first one that has a greater ticket
abbrev pub inserted_by_ticket : {A : Type 0} → ℕ × A → List (ℕ × A) → List (ℕ × A)
inserted_by_ticket e [] = e ∷ []
inserted_by_ticket e (d ∷ ds) = if nat_lt e.0 d.0 then e ∷ d ∷ ds else d ∷ inserted_by_ticket e ds

-- the entries of a list, sorted by ticket
abbrev pub by_ticket : {A : Type 0} → List (ℕ × A) → List (ℕ × A)
by_ticket [] = []
by_ticket (e ∷ es) = inserted_by_ticket e (by_ticket es)

-- If the two messages belong at related paths, the first has the smaller ticket.
abbrev pub InOrderIfRelated : Geometry → ℕ × Msg → ℕ × Msg → Type 0
InOrderIfRelated g e d = are_related (path_of g e.1) (path_of g d.1) ≡ true → e.0 < d.0

-- Of messages at related paths the one with the smaller ticket comes first.
abbrev pub KeepsOrder : Geometry → List (ℕ × Msg) → Type 0
KeepsOrder g [] = Unit {0}
KeepsOrder g (e ∷ es) = AllByRecursion (InOrderIfRelated g e) es × KeepsOrder g es

-- Run in order of their tickets, the messages get the replies that they get in the order of the list, and lead to the same state.
pub record SameByTicket (g : Geometry) (x : State) (es : List (ℕ × Msg)) : Type 0 where
  pub replies : serial_replies g x (by_ticket es) ≡ by_ticket (serial_replies g x es)
  pub state : state_after_all g x (messages_of (by_ticket es)) ≡ state_after_all g x (messages_of es)

-- The entries are sorted by ticket: each ticket is at most those after it.
abbrev pub AreInOrder : {A : Type 0} → List (ℕ × A) → Type 0
AreInOrder [] = Unit {0}
AreInOrder (e ∷ es) = AllByRecursion (λ d. e.0 ≤ d.0) es × AreInOrder es
