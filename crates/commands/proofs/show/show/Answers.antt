-- The lines that are written are those of the device as it was inspected.
use Rattle.std.proofs.Common.{◌∙◌}
use Rattle.commands.proofs.ShownText.{shows, shows_bytes}
use Rattle.commands.proofs.show.show.Goals as goal

pub returns-clause-ends : goal.returns-clause-ends
returns-clause-ends g c =
    shows c.in-Ok.shown c.write_lines.result _ _ (c.deref.ensures.value ∙ c.in_ok-lines.ensures) c.write_lines.ensures.written c.write_lines.ensures.begun
    c.write_lines.ensures.fault

pub returns-clause-shown_text : goal.returns-clause-shown_text
returns-clause-shown_text g c = λ keeps.
    shows_bytes c.write_lines.result _ _ (c.in-Ok.ensures.shown keeps) (c.deref.ensures.value ∙ c.in_ok-lines.ensures) c.write_lines.ensures.written c.write_lines.ensures.begun
    c.write_lines.ensures.fault
