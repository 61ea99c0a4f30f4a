-- A whole line is held, or the last one, or one that is too long: the first line of what is held is that of the input.
use Rattle.std.proofs.lemmas.Grind.{common_steps}
use Rattle.std.proofs.Common.{◌≡◌, ◌⊎◌, ◌<◌, inl, inr, true, length, arith}
use Rattle.std.specs.List.{Contains}
use Rattle.std.proofs.lemmas.Bool.{iff_false}
use Rattle.protocol.specs.declared.sizes.TheConstants.{LONGEST_LINE}
use Rattle.protocol.specs.FirstLine.{first_line}
use Rattle.message.specs.Reader.{buffered_bytes, still_to_come, unread, given_line}
use Rattle.message.proofs.ReaderLemmas.{IsWhole-known_end, PassesLine-buffered, GivesLine-buffered, HasWholeFirstLine-buffered}
use Rattle.message.proofs.line_reader.LineReader.give.Goals as goal

pub returns-then-first_len-gt-LONGEST_LINE-clause-found : goal.returns-then-first_len-gt-LONGEST_LINE-clause-found
returns-then-first_len-gt-LONGEST_LINE-clause-found g c =
    let r = c.args.self.now in
    let long : LONGEST_LINE < length (first_line (buffered_bytes r.buffered)) = omega (arith, c.first_len.ensures, c.if-first_len-gt-LONGEST_LINE.true) in
    PassesLine-buffered (buffered_bytes r.buffered) (still_to_come r.ended (g.R.Read.remaining r.reader)) (unread g.R.Read.remaining c.skip_line.new.self) long c.in_ok-skip_line.ensures.passed

pub returns-clause-found : goal.returns-clause-found
returns-clause-found g c =
    let r = c.args.self.now in
    let whole : (r.ended ≡ true) ⊎ Contains (buffered_bytes r.buffered) 10 = elim c.requires.enough [
      | inl known_end ↦ inl known_end
      | inr more ↦ elim more [ inl there ↦ inr there | inr long ↦ absurd (omega (arith, c.first_len.ensures, c.if-first_len-gt-LONGEST_LINE.false, long)) ]
    ] in
    GivesLine-buffered (buffered_bytes r.buffered) (given_line c.take_line.new.self) (buffered_bytes c.take_line.new.self) (still_to_come r.ended (g.R.Read.remaining r.reader))
    (IsWhole-known_end r.ended (buffered_bytes r.buffered) (g.R.Read.remaining r.reader) whole)
    (iff_false c.is_empty.ensures c.if-is_empty.false)
    c.take_line.ensures.line c.take_line.ensures.bytes

pub returns-clause-closes : goal.returns-clause-closes
returns-clause-closes g c = grind (arith, common_steps, HasWholeFirstLine-buffered)
