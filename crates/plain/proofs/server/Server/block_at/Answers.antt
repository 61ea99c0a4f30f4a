-- Where a block is there, its read passes all checks; where none is, an accepted read is answered as a hole.
use Rattle.std.proofs.Common.{arith, ◌≡◌, ℕ, None, Some, Option, Bor, sym, slice_index}
use Rattle.std.proofs.lemmas.Grind.{common_steps}
use Rattle.std.specs.Prelude.{IfSome}
use Rattle.std.specs.Option.{option_copied}
use Rattle.affinity.specs.declared.geometry.Geometry.{Geometry}
use Rattle.protocol.specs.declared.messages.Block.{Block}
use Rattle.protocol.specs.declared.messages.Msg.TheVariants.{Read}
use Rattle.protocol.specs.declared.replies.Reply.TheVariants.{Block as shows}
use Rattle.meaning.specs.State.{State, IsState}
use Rattle.meaning.specs.Step.{reply_to, next_state}
use Rattle.meaning.proofs.ReadStep.{read_told}
use Rattle.plain.proofs.server.Server.block_at.Goals as goal

looked_up : {g : Geometry} {x : State} → IsState g x → (a v f b : ℕ) (r : Option (Bor Block)) → option_copied r ≡ x.blocks (a, v, f, b)
    → IfSome r (λ content. (reply_to g x (Read a v f b) ≡ shows content.now) × (next_state g x (Read a v f b) ≡ x))
looked_up s a v f b (Some content) h = read_told s a v f b (sym h)
looked_up s a v f b None h = tt

pub returns-clause-shown : goal.returns-clause-shown
returns-clause-shown c =
    let ns = c.args.numbers in
    looked_up c.requires.sound.state (slice_index ns 0) (slice_index ns 1) (slice_index ns 2) (slice_index ns 3) c.get.result c.get.ensures.value

pub returns-clause-hole : goal.returns-clause-hole
returns-clause-hole c = grind (arith, common_steps)
