-- The lemma on events.
use Rattle.histories.proofs.InFlight.{event_keeps_out}
use Rattle.histories.proofs.laws.only_grants_and_returns_change_what_is_in_flight.Goals as goal

pub returns : goal.returns
returns c = event_keeps_out
