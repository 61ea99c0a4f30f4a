-- The line that is shown is the first of the bytes that were held, up to the newline.
use Rattle.std.proofs.Common.{sym, ◌∙◌, arith}
use Rattle.message.proofs.ReaderLemmas.{first_line-slice}
use Rattle.message.proofs.line_reader.Buffered.take_line.Goals as goal

pub returns-clause-line : goal.returns-clause-line
returns-clause-line c =
    let h = c.args.self.now in
    c.pass_line.ensures.line ∙ sym (first_line-slice h.buffer.items h.starts_before h.newline_within (omega arith) h.none_before h.newline_there)
