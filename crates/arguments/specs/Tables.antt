-- Inner: The parser that a table of options and a table of commands describe. A `Bor T` is a reference to a T, which is its `now`; `pos n`
-- is n as an integer.
use Rattle.std.specs.Prelude.{ℕ, Bool, List, fold, if◌then◌else◌, pos}
use Rattle.std.specs.Borrow.{Bor}
use Rattle.clap.specs.Words.{App, Text, new_app, with_rule, with_subcommand}
use Rattle.arguments.specs.Arguments.{device_rule, rule_within}

-- a row for an option: its name, its help, the least number that it takes and the greatest one
abbrev pub OptionRow : Type 0
OptionRow = Bor Text × Bor Text × ℕ × ℕ

-- a row for a command: its name, its help, whether it is given a device, and its options
abbrev pub CommandRow : Type 0
CommandRow = Bor Text × Bor Text × Bool × Bor (List OptionRow)

-- a parser with each of these options added
abbrev pub with_options : App → List OptionRow → App
with_options a options = fold (λ b option. with_rule b (rule_within option.0.now (pos option.2) (pos option.3))) a options

-- the parser of the command of a row
unfoldable pub command_app : Text → Bool → List OptionRow → App
command_app name has_device options = with_options (if has_device then with_rule (new_app name) device_rule else new_app name) options

-- a parser with the commands of these rows added as subcommands: `top` of a parser is its description as a command
abbrev pub with_commands : App → List CommandRow → App
with_commands a rows = fold (λ b row. with_subcommand b (command_app row.0.now row.2 row.3.now).top) a rows
