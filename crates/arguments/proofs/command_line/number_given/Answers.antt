-- The number is what the one value of the option parses as, in 16 bits, and else the program's own.
use Rattle.std.proofs.Common.{◌∙◌, ap}
use Rattle.std.specs.Prelude.{option_and_then, unwrap_or}
use Rattle.std.specs.Str.Parse.{ExplainsUnsignedError, HasUnsignedDigitsIfOk, ParsesUnsigned}
use Rattle.clap.specs.Words.{found_of, one_text}
use Rattle.clap.proofs.WalkLemmas.{one_text-rows}
use Rattle.arguments.specs.Arguments.{number_of}
use Rattle.arguments.proofs.Options.{got_number}
use Rattle.arguments.proofs.command_line.number_given.Goals as goal

pub returns : goal.returns
returns c =
    let found = found_of c.args.options.now in
    let name = c.args.name.now in
    let got = got_number _ (λ bs r. ParsesUnsigned 16 10 bs r × ExplainsUnsignedError 10 bs r × HasUnsignedDigitsIfOk bs r) (λ t x g. g.0)
    (one_text found name) c.get_one.result c.get_one.ensures.none c.get_one.ensures.value in
    c.unwrap_or.ensures ∙ ap (λ r. unwrap_or r c.args.default_value) (got ∙ ap (option_and_then number_of) (one_text-rows found name))
