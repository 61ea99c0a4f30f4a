-- Messages without data, by their kind and their numbers.
use Rattle.std.proofs.Common.{arith, ◌≡◌, ℕ, false, List, Some}
use Rattle.std.proofs.lemmas.Grind.{common_steps}
use Rattle.affinity.specs.declared.geometry.Geometry.{Geometry}
use Rattle.affinity.specs.declared.kinds.Kind.{Kind}
use Rattle.affinity.specs.declared.kinds.Kind.TheVariants as kinds
use Rattle.protocol.specs.Messages.{IsMessage}
use Rattle.message.specs.Heads.{message_without_data, has_data, IsWithoutData}
use Rattle.meaning.specs.State.{State}
use Rattle.meaning.specs.Refusals.{refusal, refusal_by}

-- a message without data has no bytes to be right
pub asking_is_message : (k : Kind) (ns : List ℕ) → has_data k ≡ false → IsMessage (message_without_data k ns)
asking_is_message kinds.Write ns h = cc h
asking_is_message kinds.SetLabel ns h = cc h
asking_is_message _ ns h = tt

pub refusal_asked : (g : Geometry) (x : State) (k : Kind) (ns : List ℕ) → IsWithoutData k ns (Some (message_without_data k ns)) → refusal_by g x k ns ≡ refusal g x (message_without_data k ns)
refusal_asked g x k ns h = grind (arith, common_steps)
