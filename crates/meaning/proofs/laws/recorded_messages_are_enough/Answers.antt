-- A message of which the log keeps no record leaves the state as it is, so without it the others lead to the same state.
use Rattle.meaning.proofs.IsRecorded.{fold_recorded}
use Rattle.meaning.proofs.laws.recorded_messages_are_enough.Goals as goal

pub returns-clause-recorded : goal.returns-clause-recorded
returns-clause-recorded c = fold_recorded
