-- A newline is held exactly where its place lies before the end of what is held.
use Rattle.std.proofs.Common.{arith}
use Rattle.std.proofs.lemmas.Bool.{ltb-true, ltb-false, true_from_ne_false}
use Rattle.message.proofs.ReaderLemmas.{Contains-slice, Contains-not_within, IsWithinLine-whole_slice}
use Rattle.message.proofs.line_reader.Buffered.has_newline.Goals as goal

pub returns-clause-none : goal.returns-clause-none
returns-clause-none c is =
    let h = c.args.self.now in
    IsWithinLine-whole_slice h.buffer.items h.start h.newline h.end (omega arith) (ltb-false h.newline h.end is) h.none_before

pub returns-clause-holds : goal.returns-clause-holds
returns-clause-holds c =
    let h = c.args.self.now in (
      λ is.
          let below = ltb-true h.newline h.end is in
          Contains-slice h.buffer.items h.start h.newline h.end h.starts_before below (omega arith) (h.newline_there below),
      λ there. true_from_ne_false _ (λ is. Contains-not_within _ (returns-clause-none c is) there),
    )
