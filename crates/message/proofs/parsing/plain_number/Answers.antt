-- Digits whose value is below 65536 are a number, unless there are none or the first of several is a zero.
use Rattle.std.proofs.lemmas.Grind.{common_steps}
use Rattle.std.proofs.Common.{arith}
use Rattle.std.proofs.lemmas.Bool.{eqb-true, eqb-false, cases_lt}
use Rattle.message.proofs.Numbers.{no_number, number_from}
use Rattle.message.proofs.parsing.plain_number.Goals as goal

pub returns-then-is_empty : goal.returns-then-is_empty
returns-then-is_empty c = grind (arith, common_steps, no_number, eqb-true)

pub returns-then-has_leading_zero : goal.returns-then-has_leading_zero
returns-then-has_leading_zero c = grind (arith, common_steps, no_number)

pub returns : goal.returns
returns c = grind (arith, common_steps, eqb-false, cases_lt, number_from)
