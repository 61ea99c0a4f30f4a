-- What is asked of a block that is there, and what is written over it, passes all checks.
use Rattle.std.proofs.Common.{arith, ◌≡◌, ℕ, Some}
use Rattle.affinity.specs.declared.geometry.Geometry.{Geometry}
use Rattle.protocol.specs.declared.messages.Msg.TheVariants.{Read}
use Rattle.protocol.specs.declared.messages.Block.{Block}
use Rattle.protocol.specs.declared.replies.Reply.TheVariants.{Block as shows}
use Rattle.meaning.specs.State.{State, IsState}
use Rattle.meaning.specs.Step.{reply_to, next_state}

-- a block that is there answers a read
pub read_told : {g : Geometry} {x : State} → IsState g x → (a v f b : ℕ) {content : Block} → x.blocks (a, v, f, b) ≡ Some content
    → (reply_to g x (Read a v f b) ≡ shows content) × (next_state g x (Read a v f b) ≡ x)
read_told {x = x} s a v f b found = grind arith
