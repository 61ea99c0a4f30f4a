-- The lemmas on what keeps a message back.
use Rattle.affinity.proofs.Elements.{all_weaker}
use Rattle.histories.proofs.Elements.{in_contained}
use Rattle.histories.proofs.KeptBack.{free_if_none, run_fewer}
use Rattle.histories.proofs.laws.later_messages_keep_none_back.Goals as goal

pub returns-clause-none : goal.returns-clause-none
returns-clause-none c g w e = free_if_none g e w

pub returns-clause-run : goal.returns-clause-run
returns-clause-run c g old events e legal sound was waits =
    run_fewer g old events e legal sound (in_contained _ e was) (all_weaker _ _ (λ event. in_contained event.state_after.core.waiting e) events waits)
