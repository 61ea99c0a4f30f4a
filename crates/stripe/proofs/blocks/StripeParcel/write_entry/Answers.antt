-- The slot of a block that is there holds a value.
use Rattle.std.proofs.Common.{arith}
use Rattle.stripe.proofs.IndexLemmas.{held-content, length-entries}
use Rattle.stripe.proofs.blocks.StripeParcel.write_entry.Goals as goal

pub unreachable-requires : goal.unreachable-requires
unreachable-requires c = grind (arith, length-entries c.self.inside.blocks.values c.self.inside.index.items, held-content)
