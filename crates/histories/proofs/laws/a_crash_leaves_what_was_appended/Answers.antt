-- The lemmas on what a crash may leave.
use Rattle.histories.proofs.Crashes.{left_begins, left_is_committed}
use Rattle.histories.proofs.laws.a_crash_leaves_what_was_appended.Goals as goal

pub returns-clause-begins : goal.returns-clause-begins
returns-clause-begins c = left_begins

pub returns-clause-committed : goal.returns-clause-committed
returns-clause-committed c = left_is_committed
