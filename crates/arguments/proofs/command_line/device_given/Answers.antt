-- The path of the device is the first value of its argument.
use Rattle.std.proofs.Common.{arith}
use Rattle.std.proofs.lemmas.Grind.{common_steps}
use Rattle.clap.proofs.WalkLemmas.{first_value-rows}
use Rattle.arguments.proofs.Options.{unwrap_or-now}
use Rattle.arguments.proofs.command_line.device_given.Goals as goal

pub unreachable-requires : goal.unreachable-requires
unreachable-requires c = grind (arith, common_steps, first_value-rows)

pub returns : goal.returns
returns c = grind (arith, common_steps, unwrap_or-now, first_value-rows)
