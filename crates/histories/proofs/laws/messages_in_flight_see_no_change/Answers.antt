-- The lemma on events.
use Rattle.histories.proofs.Elements.{in_contained}
use Rattle.histories.proofs.InFlight.{event_sees}
use Rattle.histories.proofs.laws.messages_in_flight_see_no_change.Goals as goal

pub returns : goal.returns
returns c g old event e allowed sound is = event_sees g old event e allowed sound (in_contained _ e is)
