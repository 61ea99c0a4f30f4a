-- No option of the command is global.
use Rattle.std.proofs.Common.{◌∙◌, ap}
use Rattle.std.proofs.lemmas.Result.{IfOk-weaker}
use Rattle.clap.specs.Words.{App, app_of, with_subcommand}
use Rattle.arguments.proofs.Options.{is_plain_in_row, no_globals}
use Rattle.arguments.proofs.command_line.with_command.Goals as goal

pub returns : goal.returns
returns c =
    let made = c.in_ok-command_in_row.ensures in
    IfOk-weaker c.subcommand.result _ _
    (λ more adds. adds.shape (no_globals _ _ _ _ (is_plain_in_row _ _ _ made)) ∙ ap (λ (a : App). with_subcommand (app_of c.args.program) a.top) made)
    c.subcommand.ensures
