-- The aggregate's number comes before the first space, and the numbers of volume and file behind it.
use Rattle.std.proofs.Common.{arith}
use Rattle.std.proofs.lemmas.Grind.{common_steps}
use Rattle.message.proofs.GrammarByKind.{onward_some, of_file-onward}
use Rattle.message.proofs.parsing.file_numbers.Goals as goal

pub returns-in_err-volume-clause-value : goal.returns-in_err-volume-clause-value
returns-in_err-volume-clause-value c = grind (arith, common_steps, of_file-onward, onward_some)

pub returns-clause-value : goal.returns-clause-value
returns-clause-value c = grind (arith, common_steps, of_file-onward, onward_some)
