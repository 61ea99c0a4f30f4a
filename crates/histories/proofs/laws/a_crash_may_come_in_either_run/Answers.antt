-- The lemmas on the crashes of runs that join.
use Rattle.histories.proofs.IsJoined.{left_of_first, left_of_second, log_of_first, log_of_second}
use Rattle.histories.proofs.laws.a_crash_may_come_in_either_run.Goals as goal

pub returns-clause-log_first : goal.returns-clause-log_first
returns-clause-log_first c = log_of_first

pub returns-clause-log_second : goal.returns-clause-log_second
returns-clause-log_second c = log_of_second

pub returns-clause-left_first : goal.returns-clause-left_first
returns-clause-left_first c = left_of_first

pub returns-clause-left_second : goal.returns-clause-left_second
returns-clause-left_second c = λ g old events more k x. left_of_second old events
