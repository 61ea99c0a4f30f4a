-- One more row adds its command behind those before it.
use Rattle.std.proofs.Common.{◌∙◌, ap₂, refl, sym}
use Rattle.clap.specs.Words.{with_subcommand}
use Rattle.arguments.proofs.Options.{one_more_command}
use Rattle.arguments.proofs.command_line.with_commands.Goals as goal

pub rows-preserved : goal.rows-preserved
rows-preserved c = c.in_ok-program.ensures ∙ ap₂ with_subcommand c.rows.invariant refl ∙ sym (one_more_command _ _ _ _ c.rows-test.true)
