-- The rules of the options so far are added, in order.
use Rattle.std.proofs.Common.{◌≡◌, take}
use Rattle.clap.specs.Words.{app_of}
use Rattle.arguments.specs.Tables.{with_options}
use Rattle.arguments.proofs.command_line.with_options.Given as goal

-- the options so far are added
abbrev pub invariant-options : goal.invariant-options
invariant-options l = app_of l.command ≡ with_options (app_of l.fn.command) (take l.name-index l.options)
