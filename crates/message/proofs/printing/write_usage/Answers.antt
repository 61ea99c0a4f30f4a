-- The keyword, two numbers and whether the volume is sealed are appended one behind the other.
use Rattle.std.proofs.Common.{sym, ap, codes}
use Rattle.std.specs.Prelude.{if◌then◌else◌}
use Rattle.message.proofs.AppendsText.{appends_more, appends_same}
use Rattle.message.proofs.printing.write_usage.Goals as goal

pub returns-then-sealed-clause-text : goal.returns-then-sealed-clause-text
returns-then-sealed-clause-text c =
    appends_more (appends_more (appends_more c.append-end.ensures c.append_number-end.ensures.text) c.append_number-end-2.ensures.text)
    (appends_same (sym (ap (λ t. if t then codes " sealed" else codes " open") c.if-sealed.true)) c.append.ensures)

pub returns-else-sealed-clause-text : goal.returns-else-sealed-clause-text
returns-else-sealed-clause-text c =
    appends_more (appends_more (appends_more c.append-end.ensures c.append_number-end.ensures.text) c.append_number-end-2.ensures.text)
    (appends_same (sym (ap (λ t. if t then codes " sealed" else codes " open") c.if-sealed.false)) c.append-else-sealed.ensures)
