-- The lemmas on what a run logs and answers.
use Rattle.std.proofs.Common.{sym}
use Rattle.histories.proofs.AnsweredFirst.{run_answers}
use Rattle.histories.proofs.Runs.{run_follows}
use Rattle.histories.proofs.laws.replies_are_in_log_order.Goals as goal

pub returns-clause-replied : goal.returns-clause-replied
returns-clause-replied c g old events legal sound = sym (run_follows g old events legal sound).reply_pairs

pub returns-clause-answered : goal.returns-clause-answered
returns-clause-answered c = run_answers
