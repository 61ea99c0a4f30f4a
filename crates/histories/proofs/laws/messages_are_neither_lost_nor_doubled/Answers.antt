-- The lemmas on the messages that arrive.
use Rattle.histories.specs.Runs.{arrived}
use Rattle.histories.proofs.Arrivals.{run_ascending}
use Rattle.histories.proofs.Elements.{in_contained}
use Rattle.histories.proofs.SerialHistories.{answered_came, none_lost, one_message}
use Rattle.histories.proofs.laws.messages_are_neither_lost_nor_doubled.Goals as goal

pub returns-clause-all : goal.returns-clause-all
returns-clause-all c = none_lost

pub returns-clause-answered : goal.returns-clause-answered
returns-clause-answered c = answered_came

pub returns-clause-ticket : goal.returns-clause-ticket
returns-clause-ticket c g old events e d legal has_e has_d =
    one_message (arrived events) (run_ascending g old events legal) e d (in_contained _ e has_e) (in_contained _ d has_d)
