-- Each core state of the run is sound.
use Rattle.affinity.proofs.Elements.{all_weaker}
use Rattle.histories.specs.CoreState.{held, AreUnrelated}
use Rattle.histories.specs.IsSoundCoreState.{IsSoundCoreState}
use Rattle.histories.proofs.IsSoundCoreState.{run_sound}
use Rattle.histories.proofs.laws.held_messages_are_unrelated.Goals as goal

pub returns : goal.returns
returns c g old events legal sound = all_weaker (λ event. IsSoundCoreState g event.state_after.core) (λ event. AreUnrelated g (held event.state_after.core))
    (λ event k. k.apart) events (run_sound g old events legal sound)
