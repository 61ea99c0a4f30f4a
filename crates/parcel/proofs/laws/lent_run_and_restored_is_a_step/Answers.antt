-- At the place the tree has what the run left, elsewhere what it had, and the message changes nothing there.
use Rattle.parcel.proofs.SerialRuns.{served_step, served_is_in, served_state}
use Rattle.parcel.proofs.laws.lent_run_and_restored_is_a_step.Goals as goal

pub returns-clause-step : goal.returns-clause-step
returns-clause-step c = served_step

pub returns-clause-all_in : goal.returns-clause-all_in
returns-clause-all_in c = served_is_in

pub returns-clause-state : goal.returns-clause-state
returns-clause-state c = served_state
