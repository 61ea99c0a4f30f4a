-- The program without its commands: it has a version, and asks for a subcommand.
use Rattle.std.proofs.Common.{ap, true}
use Rattle.clap.specs.Simple.{on_top}
use Rattle.clap.specs.Words.{App}
use Rattle.arguments.proofs.command_line.bare.Goals as goal

abbrev top_of : App → App
top_of a = on_top (λ s. record s { has_version = true; subcommand_required = true; arg_required_else_help = true }) a

pub returns : goal.returns
returns c = rw (c.arg_required_else_help.ensures, c.subcommand_required.ensures, c.version.ensures, c.about.ensures) (ap top_of c.new.ensures.app)
