-- The buffer at the index of the block has its content.
use Rattle.std.proofs.Common.{arith}
use Rattle.stripe.proofs.EntryLemmas.{content-gap}
use Rattle.stripe.proofs.IndexLemmas.{found-value}
use Rattle.stripe.proofs.blocks.StripeParcel.get.Goals as goal

pub returns-in-Ok-clause-content : goal.returns-in-Ok-clause-content
returns-in-Ok-clause-content c = grind (arith, found-value)

pub returns-in-Err-clause-content : goal.returns-in-Err-clause-content
returns-in-Err-clause-content c = grind (arith, content-gap)
