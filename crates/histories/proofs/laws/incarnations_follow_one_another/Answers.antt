-- The lemmas on incarnations.
use Rattle.histories.proofs.Incarnations.{no_incarnation, next_incarnation, incarnation_of_run, all_answered}
use Rattle.histories.proofs.laws.incarnations_follow_one_another.Goals as goal

pub returns-clause-first : goal.returns-clause-first
returns-clause-first c = no_incarnation

pub returns-clause-next : goal.returns-clause-next
returns-clause-next c = next_incarnation

pub returns-clause-run : goal.returns-clause-run
returns-clause-run c = incarnation_of_run

pub returns-clause-answered : goal.returns-clause-answered
returns-clause-answered c = all_answered
