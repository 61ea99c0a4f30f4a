-- No newline is held, so the place of the newline is the end, and moving to the front keeps it so.
use Rattle.std.proofs.Common.{◌≤◌, arith, ⊎_elim}
use Rattle.std.proofs.lemmas.Bool.{cases_lt}
use Rattle.message.proofs.ReaderLemmas.{Contains-slice, Contains-not_within}
use Rattle.message.proofs.line_reader.Buffered.fill.Goals as goal

pub read_behind-requires-clause-no_newline : goal.read_behind-requires-clause-no_newline
read_behind-requires-clause-no_newline g c =
    let h = c.args.self.now in
    let front = c.move_to_front.ensures in
    let over : h.end ≤ h.newline = ⊎_elim
    (λ below. absurd (Contains-not_within _ c.requires.within_line (Contains-slice h.buffer.items h.start h.newline h.end h.starts_before below (omega arith) (h.newline_there below))))
    (λ over. over) (cases_lt h.newline h.end) in
    omega (arith, front.end, front.newline, h.newline_within)
