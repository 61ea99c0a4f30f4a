-- The aggregate's number comes before the first space, the volume's behind it, up to the end of the line.
use Rattle.std.proofs.Common.{arith}
use Rattle.std.proofs.lemmas.Grind.{common_steps}
use Rattle.message.proofs.GrammarByKind.{onward_some, of_number, of_number-read, of_number-none, of_volume-onward}
use Rattle.message.proofs.parsing.volume_numbers.Goals as goal

pub returns-in_err-number-clause-value : goal.returns-in_err-number-clause-value
returns-in_err-number-clause-value c = grind (arith, common_steps, of_volume-onward, onward_some, of_number, of_number-none)

pub returns-clause-value : goal.returns-clause-value
returns-clause-value c = grind (arith, common_steps, of_volume-onward, onward_some, of_number, of_number-read)
