-- Inner: What the answer to one line does.
use Rattle.std.specs.Prelude.{◌≡◌, ◌++◌, Bool, List, ℕ, Option, IsTrue, IsFalse}
use Rattle.affinity.specs.declared.geometry.Geometry.{Geometry}
use Rattle.protocol.specs.declared.messages.Msg.{Msg}
use Rattle.meaning.specs.Output.{answer_line, state_after_line}
use Rattle.plain.specs.declared.server.Server.{Server}
use Rattle.plain.specs.Server.{server_state, IsConsistent}

-- A line that spells `m`, if it spells a message, is answered: the server is in the next state, and the answer is behind what waited. Where
-- there is no memory, nothing is added.
pub record AnswersLine (g : Geometry) (m : Option Msg) (has_memory : Bool) (old new : Server) (waited waits : List ℕ) : Type 0 where
  pub sound : IsConsistent g new
  pub state : IsTrue has_memory → server_state new ≡ state_after_line g (server_state old) m
  pub added : IsTrue has_memory → waits ≡ waited ++ answer_line g (server_state old) m
  pub out_of_memory : IsFalse has_memory → waits ≡ waited
