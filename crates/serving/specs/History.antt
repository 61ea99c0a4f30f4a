-- Statement for operators: What was written for the lines that were consumed, compared with the history (messages with their replies, reads
-- among them) to whose state a device recovers.
use Rattle.std.specs.Prelude.{◌≡◌, ◌⊎◌, ℕ, true, false, List, [], ◌∷◌, ◌++◌, Option, Some, None}
use Rattle.std.specs.List.{Contains}
use Rattle.affinity.specs.declared.geometry.Geometry.{Geometry}
use Rattle.recovery.specs.Recovery.{recovered_state}
use Rattle.histories.specs.Events.{recorded}
use Rattle.histories.specs.IsSerialHistory.{IsSerialHistory}
use Rattle.histories.specs.CoreState.{Entry, Replied}
use Rattle.protocol.specs.Grammar.{message_of}
use Rattle.protocol.specs.Messages.{is_in_range}
use Rattle.protocol.specs.Replies.{reply_line, no_message}
use Rattle.protocol.specs.declared.messages.Msg.{Msg}
use Rattle.protocol.specs.declared.replies.Reply.{Reply}
use Rattle.protocol.specs.declared.replies.Reply.TheVariants.{Refused}
use Rattle.protocol.specs.declared.replies.Refusal.TheVariants.{Range}
use Rattle.meaning.specs.Step.{state_after_all}
use Rattle.meaning.specs.State.{State}
use Rattle.serving.specs.Lines.{admitted_in, next_ticket}

-- The last argument is the output line for an input line with this message, or with none: that it is no message, that it is out of range,
-- or the reply that the history has for the message under this ticket.
abbrev pub IsInHistory : Geometry → List Replied → ℕ → Option Msg → List ℕ → Type 0
IsInHistory g history n None line = line ≡ no_message
IsInHistory g history n (Some m) line = ((is_in_range g m ≡ false) × (line ≡ reply_line (Refused Range)))
    ⊎ ((is_in_range g m ≡ true) × ((reply : Reply) × (line ≡ reply_line reply) × Contains history (n, m, reply)))

-- The output has these lines for the first of the lines that were consumed (`IsInHistory`). The first line that takes a ticket takes n, and
-- each further one the next.
abbrev pub AreInHistory : Geometry → List Replied → ℕ → List (List ℕ) → List (List ℕ) → Type 0
AreInHistory g history n consumed [] = Unit {0}
AreInHistory g history n [] (line ∷ lines) = ⊥
AreInHistory g history n (l ∷ ls) (line ∷ lines) =
    IsInHistory g history n (message_of l) line × AreInHistory g history (next_ticket n (admitted_in g (message_of l))) ls lines

-- The bytes of a device recover to the state to which the changes of this serial history and of some more messages lead from state x. The
-- history and these together could be a serial server's history of the messages that arrived.
pub record RecoversToHistory (g : Geometry) (x : State) (arrivals : List Entry) (history : List Replied) (bytes : List ℕ) : Type 0 where
  pub more : List Replied
  pub serial : IsSerialHistory g x arrivals (history ++ more)
  pub recovers : recovered_state g bytes ≡ Some (state_after_all g x (recorded (history ++ more)))
