-- Statement for operators: Which histories could be a serial server's.
use Rattle.std.specs.Prelude.{◌≡◌, ℕ, List, ◌++◌, map, IsPermutation}
use Rattle.affinity.specs.declared.geometry.Geometry.{Geometry}
use Rattle.protocol.specs.declared.replies.Reply.{Reply}
use Rattle.meaning.specs.State.{State}
use Rattle.meaning.specs.TicketOrder.{serial_replies, KeepsOrder}
use Rattle.histories.specs.CoreState.{Entry, Replied, entries}

-- each ticket with its reply
abbrev pub ticket_replies : List Replied → List (ℕ × Reply)
ticket_replies as' = map (λ a. (a.0, a.2)) as'

-- The history could be a serial server's from state x on: it is a prefix of some order of all arrivals, in which each message occurs once,
-- and messages at related places are in the order of their tickets; and its replies are those that its messages get when they run one after
-- the other from x on.
pub record IsSerialHistory (g : Geometry) (x : State) (arrivals : List Entry) (history : List Replied) : Type 0 where
  -- the messages that arrived and are not in the history
  pub rest : List Entry
  pub each_once : IsPermutation arrivals (entries history ++ rest)
  pub by_ticket : KeepsOrder g (entries history ++ rest)
  pub in_order : ticket_replies history ≡ serial_replies g x (entries history)
