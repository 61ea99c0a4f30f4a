-- The keyword and three numbers are appended one behind the other.
use Rattle.message.proofs.AppendsText.{appends_more}
use Rattle.message.proofs.printing.write_summary.Goals as goal

pub returns-clause-text : goal.returns-clause-text
returns-clause-text c =
    appends_more (appends_more (appends_more c.append-end.ensures c.append_number-end.ensures.text) c.append_number-end-2.ensures.text) c.append_number.ensures.text
