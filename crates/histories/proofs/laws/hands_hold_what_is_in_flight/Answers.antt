-- The lemmas on what hands have.
use Rattle.histories.proofs.Hands.{event_holds, start_holds}
use Rattle.histories.proofs.laws.hands_hold_what_is_in_flight.Goals as goal

pub returns-clause-start : goal.returns-clause-start
returns-clause-start c = start_holds

pub returns-clause-event : goal.returns-clause-event
returns-clause-event c = event_holds
