-- The lemmas on a run's arrivals.
use Rattle.histories.proofs.Arrivals.{run_ascending, logged_by_ticket, answered_by_ticket, committed_by_ticket}
use Rattle.histories.proofs.Elements.{in_contained, contains_in}
use Rattle.histories.proofs.Idle.{idle_sound}
use Rattle.histories.proofs.laws.replies_are_by_ticket.Goals as goal

pub returns-clause-tickets : goal.returns-clause-tickets
returns-clause-tickets c = run_ascending

pub returns-clause-logged : goal.returns-clause-logged
returns-clause-logged c g old events legal idle reply is =
    contains_in _ reply (logged_by_ticket g old events legal (idle_sound old.core idle g) idle reply (in_contained _ reply is))

pub returns-clause-answered : goal.returns-clause-answered
returns-clause-answered c g old events legal idle reply is =
    contains_in _ reply (answered_by_ticket g old events legal (idle_sound old.core idle g) idle reply (in_contained _ reply is))

pub returns-clause-committed : goal.returns-clause-committed
returns-clause-committed c g old events legal idle ends = committed_by_ticket g old events legal (idle_sound old.core idle g) idle ends
