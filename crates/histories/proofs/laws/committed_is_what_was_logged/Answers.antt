-- The lemmas on what a run logs and appends.
use Rattle.histories.proofs.Runs.{run_follows, run_appended, appended_is_recorded}
use Rattle.histories.proofs.laws.committed_is_what_was_logged.Goals as goal

pub returns-clause-logged : goal.returns-clause-logged
returns-clause-logged c g old events legal sound = (run_follows g old events legal sound).committed

pub returns-clause-appended : goal.returns-clause-appended
returns-clause-appended c = run_appended

pub returns-clause-appended_messages : goal.returns-clause-appended_messages
returns-clause-appended_messages c = appended_is_recorded
