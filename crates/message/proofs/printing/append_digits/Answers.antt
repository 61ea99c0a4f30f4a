-- A space and the decimal digits are appended one behind the other.
use Rattle.std.proofs.Common.{◌∙◌}
use Rattle.message.proofs.AppendsText.{appends_more, appends_same}
use Rattle.message.proofs.printing.append_digits.Goals as goal

pub returns-clause-text : goal.returns-clause-text
returns-clause-text c = appends_more c.append-end.ensures (appends_same (c.as_bytes.ensures.value ∙ c.format.ensures.text) c.append.ensures)
