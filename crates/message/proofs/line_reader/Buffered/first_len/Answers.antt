-- The bytes from the start up to the newline's place are the first line, since there is no newline before it.
use Rattle.std.proofs.Common.{length, sym, ap, ◌∙◌, arith}
use Rattle.std.proofs.lemmas.List.Edits.{length-between}
use Rattle.message.proofs.ReaderLemmas.{first_line-slice}
use Rattle.message.proofs.line_reader.Buffered.first_len.Goals as goal

pub returns : goal.returns
returns c =
    let h = c.args.self.now in
    sym (ap length (first_line-slice h.buffer.items h.starts_before h.newline_within (omega arith) h.none_before h.newline_there)
    ∙ length-between h.buffer.items h.start h.newline (omega arith))
