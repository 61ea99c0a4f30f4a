-- The lemma `spelled` of `Order`.
use Rattle.image.proofs.EntryOrder.{spelled}
use Rattle.image.proofs.laws.entries_of_a_stripe_are_spelled.Goals as goal

pub returns : goal.returns
returns c = λ g x. spelled
