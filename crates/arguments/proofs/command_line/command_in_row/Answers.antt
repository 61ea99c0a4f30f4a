-- A new command gets the file of a device, if it is given one, and then its options.
use Rattle.std.proofs.Common.{arith}
use Rattle.std.proofs.lemmas.Grind.{common_steps}
use Rattle.arguments.specs.Tables.{command_app}
use Rattle.arguments.proofs.command_line.command_in_row.Goals as goal

pub returns-then-has_device : goal.returns-then-has_device
unfolding command_app
returns-then-has_device c = grind (arith, common_steps)

pub returns : goal.returns
unfolding command_app
returns c = grind (arith, common_steps)
