-- The lemmas on what a crash may leave of serial histories.
use Rattle.histories.proofs.SerialHistories.{answered_begins, doubts_in_order, left_in_order}
use Rattle.histories.proofs.laws.a_crash_leaves_a_serial_history.Goals as goal

pub returns-clause-left : goal.returns-clause-left
returns-clause-left c = λ g old events k ms. left_in_order g

pub returns-clause-begins : goal.returns-clause-begins
returns-clause-begins c = λ g old events k after. answered_begins g old events

pub returns-clause-doubt : goal.returns-clause-doubt
returns-clause-doubt c g old events k legal idle none = doubts_in_order g old events legal idle none k
