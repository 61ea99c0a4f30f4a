-- Neither message reads or changes what the other one changes.
use Rattle.meaning.proofs.Commute.{commute}
use Rattle.meaning.proofs.laws.unrelated_steps_commute.Goals as goal

pub returns : goal.returns
returns c = commute
