-- Two digits with a space behind them are the first word, and a number, as the first is no zero.
use Rattle.std.proofs.lemmas.Grind.{common_steps}
use Rattle.std.proofs.Common.{arith}
use Rattle.message.proofs.GrammarByKind.{number_in_front}
use Rattle.message.proofs.Numbers.{two_in_front}
use Rattle.message.proofs.parsing.two_digits_before_space.Goals as goal

pub returns : goal.returns
returns c = grind (arith, common_steps, number_in_front, two_in_front)
