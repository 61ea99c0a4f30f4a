-- No newline is held and the input goes on; what is unread has lost no more than the front of its first line.
use Rattle.std.proofs.Common.{◌≡◌, [], false, IfSome}
use Rattle.protocol.specs.FirstLine.{IsWithinLine, LosesLineStart}
use Rattle.message.specs.Reader.{buffered_bytes, unread, line_of, has_failed}
use Rattle.message.proofs.line_reader.LineReader.skip.Given as goal

abbrev pub invariant-loop : goal.invariant-loop
invariant-loop g l = record {
  line : line_of l.self ≡ [];
  not_failed : has_failed l.self ≡ false;
  open_still : l.self.ended ≡ false;
  within_line : IsWithinLine (buffered_bytes l.self.buffered);
  lost : IfSome (unread g.R.Read.remaining l.initial.self) (λ bs. LosesLineStart bs (unread g.R.Read.remaining l.self));
}
