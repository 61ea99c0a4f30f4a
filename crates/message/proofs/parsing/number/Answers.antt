-- A word of digits alone encodes what they do; one with another byte, or with too large a value, is no number.
use Rattle.std.proofs.Common.{arith, refl, sym, ◌∙◌}
use Rattle.std.proofs.lemmas.Grind.{common_steps}
use Rattle.message.proofs.Numbers.{no_number, digit_at, too_large}
use Rattle.message.proofs.parsing.number.Goals as goal

pub returns-in_err-value : goal.returns-in_err-value
returns-in_err-value c =
    let much = c.in_err-value.ensures in
    c.from_residual.ensures ∙ sym (too_large c.args.word.now much.last _ refl much.large)

pub returns-then-size-word : goal.returns-then-size-word
returns-then-size-word c = grind (arith, common_steps, no_number, digit_at)

pub plain_number-requires : goal.plain_number-requires
plain_number-requires c = grind (arith, common_steps)
