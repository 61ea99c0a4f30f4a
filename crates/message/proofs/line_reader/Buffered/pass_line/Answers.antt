-- Behind the first newline, or at the end, begins what is held now; its first newline is found by a search from there.
use Rattle.std.proofs.Common.{◌≡◌, ◌+◌, ◌<◌, ℕ, List, get_or, sym, subst, arith}
use Rattle.std.proofs.lemmas.List.Edits.{length-between}
use Rattle.message.proofs.ReaderLemmas.{NoneFrom, NoneFrom-slice, newline-slice, behind_first_line-slice}
use Rattle.message.proofs.line_reader.Buffered.pass_line.Goals as goal

pub invariant_of-self : goal.invariant_of-self
invariant_of-self c =
    let h = c.args.self.now in
    let n = c.min-self.result in
    let r = c.find_newline.result in
    let ys = c.as_slice.result.now in
    let same = c.as_slice.ensures.value in
    let found = c.find_newline.ensures in
    let size = length-between ys n h.end (omega arith) in
    record {
      room = h.room;
      line_ordered = h.line_ordered;
      line_within = h.line_within;
      starts_before = omega arith;
      newline_within = omega (arith, found.within, size);
      ends_within = h.ends_within;
      none_before = subst (λ (l : List ℕ). NoneFrom l n (n + r)) same (NoneFrom-slice ys n h.end r (omega arith) found.within found.none_before);
      newline_there = subst (λ (l : List ℕ). n + r < h.end → get_or l (n + r) 0 ≡ 10) same (newline-slice ys n h.end r (omega arith) found.within found.there);
    }

pub returns-clause-bytes : goal.returns-clause-bytes
returns-clause-bytes c =
    let h = c.args.self.now in
    sym (behind_first_line-slice h.buffer.items h.starts_before h.newline_within (omega arith) h.none_before h.newline_there c.min-self.ensures)
