-- A digit with a space behind it is the first word.
use Rattle.std.proofs.lemmas.Grind.{common_steps}
use Rattle.std.proofs.Common.{arith}
use Rattle.message.proofs.GrammarByKind.{number_in_front}
use Rattle.message.proofs.Numbers.{digit_in_front}
use Rattle.message.proofs.parsing.digit_before_space.Goals as goal

pub returns : goal.returns
returns c = grind (arith, common_steps, number_in_front, digit_in_front)
