-- Each effect keeps numbers in range, lengths and quotas, and so do steps, one after the other.
use Rattle.meaning.proofs.IsState.{empty_is_state, step_kept, fold_kept}
use Rattle.meaning.proofs.laws.step_keeps_state.Goals as goal

pub returns-clause-nothing : goal.returns-clause-nothing
returns-clause-nothing c = empty_is_state

pub returns-clause-step : goal.returns-clause-step
returns-clause-step c = step_kept

pub returns-clause-steps : goal.returns-clause-steps
returns-clause-steps c = fold_kept
