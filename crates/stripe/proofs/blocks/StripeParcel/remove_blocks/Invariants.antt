-- The slots of the index entries so far, from position `from` on, are free.
use Rattle.stripe.proofs.IndexLemmas.{IsTaken}
use Rattle.stripe.proofs.blocks.StripeParcel.remove_blocks.Given as goal

abbrev pub invariant-loop-index_entry : goal.invariant-loop-index_entry
invariant-loop-index_entry l = IsTaken l.initial.self-inside.1.0 l.self-inside.1.0 l.index_entry-items l.index_entry-index
