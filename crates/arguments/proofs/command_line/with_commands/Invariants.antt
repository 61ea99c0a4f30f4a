-- The commands of the rows so far are added, in order.
use Rattle.std.proofs.Common.{◌≡◌, take}
use Rattle.clap.specs.Words.{app_of}
use Rattle.arguments.specs.Arguments.{bare}
use Rattle.arguments.specs.Tables.{with_commands}
use Rattle.arguments.proofs.command_line.with_commands.Given as goal

-- the commands of the rows so far are added
abbrev pub invariant-rows : goal.invariant-rows
invariant-rows l = app_of l.program ≡ with_commands bare (take l.row-index l.rows)
