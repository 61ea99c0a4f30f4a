-- The lemma on events.
use Rattle.histories.proofs.IsSoundCoreState.{event_doubts}
use Rattle.histories.proofs.laws.only_a_failure_leaves_doubt.Goals as goal

pub returns : goal.returns
returns c = event_doubts
