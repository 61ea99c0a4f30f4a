-- A run and one that goes on from its end are one run: by a lemma of `IsJoined`.
use Rattle.histories.proofs.IsJoined.{runs_join}
use Rattle.histories.proofs.laws.legal_runs_join.Goals as goal

pub returns : goal.returns
returns c = runs_join
