-- The lemmas on draining.
use Rattle.histories.proofs.AllAnswered.{any_drains, can_answer_all, can_drain}
use Rattle.histories.proofs.CanStep.{can_step}
use Rattle.histories.proofs.laws.all_can_be_answered.Goals as goal

pub returns-clause-step : goal.returns-clause-step
returns-clause-step c = can_step

pub returns-clause-any : goal.returns-clause-any
returns-clause-any c = any_drains

pub returns-clause-drain : goal.returns-clause-drain
returns-clause-drain c = can_drain

pub returns-clause-answered : goal.returns-clause-answered
returns-clause-answered c = can_answer_all
