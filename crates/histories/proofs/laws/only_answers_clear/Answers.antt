-- The lemma on events.
use Rattle.histories.proofs.KeptBack.{event_clears}
use Rattle.histories.proofs.Elements.{in_contained}
use Rattle.histories.proofs.laws.only_answers_clear.Goals as goal

pub returns : goal.returns
returns c g old event e allowed sound was is off = event_clears old event e allowed sound (in_contained _ e was) (in_contained _ e is) off
