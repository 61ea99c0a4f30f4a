-- Statement for operators: The core state: the messages that a server has taken in, how far each has come, and what has been committed.
use Rattle.std.specs.Prelude.{[], ℕ, ◌-◌, ◌^◌, Bool, List, ◌++◌, map, Option, ◌≡◌, ◌<◌, false, ◌∷◌}
use Rattle.std.specs.List.{AllByRecursion}
use Rattle.affinity.specs.declared.geometry.Geometry.{Geometry}
use Rattle.affinity.specs.Path.{are_related}
use Rattle.protocol.specs.declared.messages.Msg.{Msg}
use Rattle.protocol.specs.declared.replies.Reply.{Reply}
use Rattle.protocol.specs.Messages.{path_of}
use Rattle.meaning.specs.State.{State}

-- how many tickets there are: a core gives those below this number, from 0 on
abbrev pub most_tickets : ℕ
most_tickets = 2 ^ 64 - 1

-- a message with its ticket: (ticket, message)
abbrev pub Entry : Type 0
Entry = ℕ × Msg

-- a message with its ticket and its reply: (ticket, message, reply)
abbrev pub Replied : Type 0
Replied = ℕ × Msg × Reply

-- the state of a core; its messages are in four lists, by how far each has come
pub record CoreState : Type 0 where
  -- the messages that wait, by ticket
  pub waiting : List Entry
  -- the messages in flight: dispatched, and not given back; in the order of dispatch
  pub in_flight : List Entry
  -- the messages that ran and are not logged yet, with their replies, in the order in which they were given back
  pub ran : List Replied
  -- the messages that are logged and not answered yet, in log order
  pub logged : List Replied
  -- the state to which all messages logged so far have led
  pub committed : State
  -- how many more records the current half of the log takes
  pub room : ℕ
  -- the ticket of the next message
  pub next : ℕ
  -- how many messages the core can have at once, waiting or held
  pub slots : ℕ
  -- whether the device has failed
  pub failed : Bool
  -- the messages that were to be appended to the log when the device failed: the log may hold any prefix of them
  pub doubt : List Msg
  -- how many pieces are left to write, while an online checkpoint is in progress; else `None`
  pub pieces_left : Option ℕ

abbrev pub entry : Replied → Entry
entry a = (a.0, a.1)

abbrev pub entries : List Replied → List Entry
entries as' = map entry as'

-- the messages that are held: logged, ran or in flight
abbrev pub held : CoreState → List Entry
held w = entries w.logged ++ (entries w.ran ++ w.in_flight)

-- whether the places of two messages are related
abbrev pub are_related_entries : Geometry → Entry → Entry → Bool
are_related_entries g e d = are_related (path_of g e.1) (path_of g d.1)

-- `R` holds between each element of the list and all that come after it
abbrev pub EachBefore : {A : Type 0} → (A → A → Type 0) → List A → Type 0
EachBefore R [] = Unit {0}
EachBefore R (x ∷ xs) = AllByRecursion (R x) xs × EachBefore R xs

-- no two of the messages are at related places
abbrev pub AreUnrelated : Geometry → List Entry → Type 0
AreUnrelated g es = EachBefore (λ e d. are_related_entries g e d ≡ false) es

-- the tickets ascend
abbrev pub AreAscending : List Entry → Type 0
AreAscending es = EachBefore (λ e d. e.0 < d.0) es

-- no two of the messages have the same ticket
abbrev pub HaveDistinctTickets : List Entry → Type 0
HaveDistinctTickets es = EachBefore (λ e d. e.0 ≡ d.0 → ⊥) es

-- Nothing waits, and nothing is held.
pub record IsIdle (w : CoreState) : Type 0 where
  pub none_waits : w.waiting ≡ []
  pub none_held : held w ≡ []
