-- All slots are free, and the index is empty.
use Rattle.std.proofs.Common.{arith, None, Option}
use Rattle.std.proofs.lemmas.List.{length-replicate}
use Rattle.protocol.specs.declared.messages.Block.{Block}
use Rattle.stripe.proofs.IndexLemmas.{stored-empty}
use Rattle.stripe.proofs.blocks.StripeParcel.new.Goals as goal

pub invariant_of-result : goal.invariant_of-result
invariant_of-result c =
    let stored = stored-empty c.args.quota 0 c.requires.most (rw c.in_ok-blocks.ensures.arena at c.in_ok-blocks.ensures.partitioned) in
    grind (arith, stored, length-replicate {A = Option Block} c.args.quota None)
