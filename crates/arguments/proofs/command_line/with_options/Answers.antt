-- One more option adds its rule behind those before it.
use Rattle.std.proofs.Common.{◌∙◌, ap₂, sym}
use Rattle.clap.specs.Words.{with_rule}
use Rattle.arguments.proofs.Options.{one_more_option}
use Rattle.arguments.proofs.command_line.with_options.Goals as goal

pub options-preserved : goal.options-preserved
options-preserved c =
    c.in_ok-command.ensures.shape c.number.ensures.local
    ∙ ap₂ with_rule c.options.invariant c.number.ensures.rule
    ∙ sym (one_more_option _ _ _ _ c.options-test.true)
