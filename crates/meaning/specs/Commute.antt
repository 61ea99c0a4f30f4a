-- Statement for engineers: What it is for messages to commute, and to run alike in two states.
use Rattle.std.specs.Prelude.{◌≡◌, Bool, not}
use Rattle.affinity.specs.declared.geometry.Geometry.{Geometry}
use Rattle.affinity.specs.Path.{Path, is_prefix}
use Rattle.protocol.specs.declared.messages.Msg.{Msg}
use Rattle.protocol.specs.Messages.{path_of}
use Rattle.meaning.specs.State.{State}
use Rattle.meaning.specs.Step.{reply_to, next_state}
use Rattle.meaning.specs.Subtrees.{subtree}

-- whether the second path is neither the first nor below it
abbrev pub outside : Path → Path → Bool
outside p q = not (is_prefix p q)

-- In both states the message gets the same reply, and leaves the same subtree at its path.
pub record RunAlike (g : Geometry) (x y : State) (m : Msg) : Type 0 where
  pub reply : reply_to g x m ≡ reply_to g y m
  pub subtree_after : subtree g (path_of g m) (next_state g x m) ≡ subtree g (path_of g m) (next_state g y m)

-- Two messages in either order: each gets the same reply, and the state in the end is the same.
pub record Commute (g : Geometry) (x : State) (m n : Msg) : Type 0 where
  pub first : reply_to g (next_state g x n) m ≡ reply_to g x m
  pub second : reply_to g (next_state g x m) n ≡ reply_to g x n
  pub state : next_state g (next_state g x m) n ≡ next_state g (next_state g x n) m
