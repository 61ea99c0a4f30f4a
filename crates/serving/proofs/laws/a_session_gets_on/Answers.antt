-- The lemmas on turns.
use Rattle.serving.proofs.TurnsLeft.{few_turns_an_answer, turns_pay, turns_pay_by_answers}
use Rattle.serving.proofs.laws.a_session_gets_on.Goals as goal

pub returns-clause-turns : goal.returns-clause-turns
returns-clause-turns g = turns_pay

pub returns-clause-sent : goal.returns-clause-sent
returns-clause-sent g = turns_pay_by_answers

pub returns-clause-answered : goal.returns-clause-answered
returns-clause-answered g = few_turns_an_answer

pub returns-clause-idle : goal.returns-clause-idle
returns-clause-idle g old new turn idle = turn.idle idle
