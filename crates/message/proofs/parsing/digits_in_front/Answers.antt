-- The digits are summed up, one by one, to the first other byte, the end of the line, or a value past 65,535.
use Rattle.std.proofs.lemmas.Grind.{common_steps}
use Rattle.std.proofs.Common.{◌≡◌, get_or, true, arith, sym, ◌∙◌}
use Rattle.std.specs.Char.{is_ascii_digit}
use Rattle.message.proofs.Numbers.{digits_more, value_more}
use Rattle.message.proofs.parsing.digits_in_front.Goals as goal

pub returns-then-not-is_ascii_digit : goal.returns-then-not-is_ascii_digit
returns-then-not-is_ascii_digit c = grind (arith, common_steps)

pub returns-then-value-gt-GREATEST_NUMBER : goal.returns-then-value-gt-GREATEST_NUMBER
returns-then-value-gt-GREATEST_NUMBER c =
    let line = c.args.line.now in
    let last = c.loop-size.size in
    let digit : is_ascii_digit (get_or line last 0) ≡ true = sym c.is_ascii_digit.ensures.value ∙ c.if-not-is_ascii_digit.false in
    let more = value_more line last c.loop-size.value c.loop-size-test.true digit c.loop-size.invariant.value in
    record { last = last; within = c.loop-size-test.true; digits = c.loop-size.invariant.digits; one_more = digit; large = omega arith }

pub loop-size-preserved : goal.loop-size-preserved
loop-size-preserved c = grind (arith, common_steps, value_more, digits_more)

pub returns : goal.returns
returns c = grind (arith, common_steps)
