-- The lemmas on what a run answers.
use Rattle.histories.proofs.AnsweredFirst.{run_replies, run_in_order, answered_left}
use Rattle.histories.proofs.laws.answered_changes_are_in_the_log.Goals as goal

pub returns-clause-reply_pairs : goal.returns-clause-reply_pairs
returns-clause-reply_pairs c = run_replies

pub returns-clause-in_order : goal.returns-clause-in_order
returns-clause-in_order c = run_in_order

pub returns-clause-crash : goal.returns-clause-crash
returns-clause-crash c = λ g old events k after ms. answered_left g
