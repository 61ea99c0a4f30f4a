-- The rows of the parser's table are those of the four commands.
use Rattle.arguments.specs.Tables.{command_app}
use Rattle.arguments.proofs.command_line.commands.Goals as goal

pub returns : goal.returns
unfolding command_app
returns c = c.with_commands.ensures
