-- The lemmas on steps.
use Rattle.histories.proofs.StepsToCome.{run_counts, run_ends, run_from_idle}
use Rattle.histories.proofs.laws.each_message_takes_five_steps.Goals as goal

pub returns-clause-steps : goal.returns-clause-steps
returns-clause-steps c = run_counts

pub returns-clause-events : goal.returns-clause-events
returns-clause-events c = run_ends

pub returns-clause-idle : goal.returns-clause-idle
returns-clause-idle c = run_from_idle
