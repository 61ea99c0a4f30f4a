-- What is read goes behind what was held, and its first newline is the first held; a failed read keeps all.
use Rattle.std.proofs.lemmas.Grind.{common_steps}
use Rattle.std.proofs.Common.{◌≡◌, ◌+◌, ◌<◌, ◌≤◌, ℕ, List, length, take, drop, get_or, subst, arith}
use Rattle.std.specs.List.{slice_range}
use Rattle.std.proofs.lemmas.Result.{err_from_is_err_and, IfOk-from_err}
use Rattle.std.proofs.lemmas.List.Edits.{length-between}
use Rattle.message.proofs.ReaderLemmas.{NoneFrom, NoneFrom-read, NoneFrom-slice, newline-slice, Keeps-read}
use Rattle.message.proofs.Slices.{slice-front, slice-grown, slice-still_none}
use Rattle.message.proofs.line_reader.Buffered.read_behind.Goals as goal

pub returns-in_err-count-clause-kept : goal.returns-in_err-count-clause-kept
returns-in_err-count-clause-kept g c = grind (arith, common_steps, err_from_is_err_and, slice-front)

pub returns-in_err-count-clause-line : goal.returns-in_err-count-clause-line
returns-in_err-count-clause-line g c =
    let h = c.args.self.now in
    slice-still_none h.buffer.items c.read_over.new.buffer.items h.line_start h.line_end (omega (arith, c.read_over.ensures.len)) (omega (arith, h.line_within)) c.requires.line

pub returns-in_err-count-clause-bytes : goal.returns-in_err-count-clause-bytes
returns-in_err-count-clause-bytes g c = IfOk-from_err _ _ c.from_residual.ensures.0

pub invariant_of-self : goal.invariant_of-self
invariant_of-self g c =
    let h = c.args.self.now in
    let kept = c.read_over.ensures in
    let before : NoneFrom h.buffer.items h.start h.end = λ m low high. h.none_before m low (omega (arith, high, c.requires.no_newline)) in
    let behind : NoneFrom c.read_over.new.buffer.items h.end h.newline = λ m low high. absurd (omega (arith, low, high, c.requires.no_newline)) in
    record {
      room = omega (arith, kept.len, h.room);
      line_ordered = h.line_ordered;
      line_within = omega (arith, kept.len, h.line_within);
      starts_before = h.starts_before;
      newline_within = h.newline_within;
      ends_within = omega (arith, kept.len, h.ends_within);
      none_before = NoneFrom-read h.buffer.items c.read_over.new.buffer.items h.start h.end h.newline kept.front before behind;
      newline_there = λ low. absurd (omega (arith, low, c.requires.no_newline));
    }

pub invariant_of-self-2 : goal.invariant_of-self-2
invariant_of-self-2 g c =
    let h = c.args.self.now in
    let n = h.end in
    let e = h.end + c.in_ok-count.count in
    let r = c.find_newline.result in
    let xs = h.buffer.items in
    let ys = c.read_over.new.buffer.items in
    let zs = c.as_slice.result.now in
    let kept = c.read_over.ensures in
    let found = c.find_newline.ensures in
    let fits : e ≤ length zs = omega (arith, c.in_ok-count.ensures.within, c.as_slice.ensures.len) in
    let behind : NoneFrom ys n (n + r) = subst (λ (l : List ℕ). NoneFrom l n (n + r)) c.as_slice.ensures.value (NoneFrom-slice zs n e r fits found.within found.none_before) in
    let before : NoneFrom xs h.start n = λ m low high. h.none_before m low (omega arith) in
    record {
      room = omega (arith, kept.len, h.room);
      line_ordered = h.line_ordered;
      line_within = omega (arith, kept.len, h.line_within);
      starts_before = omega arith;
      newline_within = omega (arith, found.within, length-between zs n e fits);
      ends_within = omega (arith, c.in_ok-count.ensures.within);
      none_before = NoneFrom-read xs ys h.start n (n + r) kept.front before behind;
      newline_there = subst (λ (l : List ℕ). n + r < e → get_or l (n + r) 0 ≡ 10) c.as_slice.ensures.value (newline-slice zs n e r fits found.within found.there);
    }

pub returns-clause-line : goal.returns-clause-line
returns-clause-line g c =
    let h = c.args.self.now in
    let ys = c.read_over.new.buffer in
    slice-still_none h.buffer.items ys.items h.line_start h.line_end (omega (arith, c.read_over.ensures.len)) (omega arith) c.requires.line

pub returns-clause-bytes : goal.returns-clause-bytes
returns-clause-bytes g c =
    let h = c.args.self.now in
    let xs = h.buffer.items in
    let ys = c.read_over.new.buffer.items in
    let n = c.in_ok-count.count in
    let known = g.R.Read.remaining c.args.reader.now in
    let left = g.R.Read.remaining c.read_over.new.reader in
    let grown = slice-grown xs ys h.start h.end n (omega arith) c.read_over.ensures.front in
    rw grown (Keeps-read known left (slice_range xs h.start h.end) (take n (drop h.end ys)) c.in_ok-count.ensures.read)
