-- The lemmas on full hands.
use Rattle.histories.proofs.FullHands.{last_tallies, last_none_out}
use Rattle.histories.proofs.laws.messages_in_flight_are_in_hands.Goals as goal

pub returns-clause-number : goal.returns-clause-number
returns-clause-number c = last_tallies

pub returns-clause-none : goal.returns-clause-none
returns-clause-none c = last_none_out
