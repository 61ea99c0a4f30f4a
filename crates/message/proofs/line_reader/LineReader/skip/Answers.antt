-- Bytes that are dropped lie before the first newline, since none was held: so only the front of one line is lost.
use Rattle.std.proofs.Common.{IfSome}
use Rattle.std.specs.Io.KnownBytes.{prepend_known}
use Rattle.protocol.specs.FirstLine.{LosesLineStart}
use Rattle.message.specs.Reader.{buffered_bytes, still_to_come, unread}
use Rattle.message.proofs.ReaderLemmas.{LosesLineStart-cleared, LosesLineStart-kept, LosesLineStart-trans}
use Rattle.message.proofs.line_reader.LineReader.skip.Given as given
use Rattle.message.proofs.line_reader.LineReader.skip.Goals as goal
use Rattle.message.proofs.line_reader.LineReader.skip.Goals.{After-clear}

-- the bytes that were lost before a read are of the line's front
lost : (g : given.Over) (c : After-clear g) → IfSome (unread g.R.Read.remaining c.args.self.now)
    (λ bs. LosesLineStart bs (prepend_known (buffered_bytes c.clear.new.self) (still_to_come c.loop.self.ended (g.R.Read.remaining c.loop.self.reader))))
lost g c = LosesLineStart-cleared _ _ _ _ c.loop.invariant.lost c.loop.invariant.within_line c.clear.ensures.bytes

pub returns-in_err-refill-clause-lost : goal.returns-in_err-refill-clause-lost
returns-in_err-refill-clause-lost g c = LosesLineStart-trans _ _ _ (lost g (goal.at.returns-in_err-refill-clause-lost g c).After-clear) c.in_err-refill.ensures.lost

pub returns-then-self-clause-lost : goal.returns-then-self-clause-lost
returns-then-self-clause-lost g c =
    LosesLineStart-trans _ _ _ (lost g (goal.at.returns-then-self-clause-lost g c).After-clear) (LosesLineStart-kept _ (unread g.R.Read.remaining c.refill.new.self) c.in_ok-refill.ensures.bytes)

pub loop-preserved : goal.loop-preserved
loop-preserved g c = record {
  line = c.refill.ensures.line;
  not_failed = c.in_ok-refill.ensures.failed;
  open_still = c.if-self.false;
  within_line = c.has_newline.ensures.none c.if-has_newline.false;
  lost = LosesLineStart-trans _ _ _ (lost g (goal.at.loop-preserved g c).After-clear) (LosesLineStart-kept _ (unread g.R.Read.remaining c.refill.new.self) c.in_ok-refill.ensures.bytes);
}

pub returns-clause-lost : goal.returns-clause-lost
returns-clause-lost g c = LosesLineStart-cleared _ _ _ _ c.loop.invariant.lost c.loop.invariant.within_line c.clear-2.ensures.bytes
