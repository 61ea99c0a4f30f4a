-- Two runs that finished agree.
use Rattle.commands.proofs.AgreeingRuns.{runs_agree}
use Rattle.commands.proofs.laws.runs_that_finish_agree.Goals as goal

pub returns : goal.returns
returns c = runs_agree
