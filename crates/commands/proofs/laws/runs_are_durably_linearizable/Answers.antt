-- The lemma over the list of runs.
use Rattle.commands.proofs.AnyRuns.{are_one_servers}
use Rattle.commands.proofs.laws.runs_are_durably_linearizable.Goals as goal

pub returns : goal.returns
returns c = are_one_servers
