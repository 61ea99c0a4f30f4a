-- The unread bytes stay the same, and nothing is read where a line was held. The loop ends: each read brings a byte, or is the last.
use Rattle.std.proofs.Common.{◌≡◌, ◌-◌, [], false, true, cond, length}
use Rattle.std.specs.Io.KnownBytes.{Keeps}
use Rattle.message.specs.Reader.{buffered_bytes, unread, line_of, HoldsLine, KnowsEnd, has_ended, has_failed}
use Rattle.message.proofs.line_reader.LineReader.gather.Given as goal

abbrev pub invariant-loop-self : goal.invariant-loop-self
invariant-loop-self g l = record {
  line : line_of l.self ≡ [];
  not_failed : has_failed l.self ≡ false;
  bytes : Keeps (unread g.R.Read.remaining l.initial.self) (unread g.R.Read.remaining l.self);
  at_once : HoldsLine l.initial.self → l.self ≡ l.initial.self;
  no_read_after_end : has_ended l.initial.self ≡ true → l.self ≡ l.initial.self;
  at_end : KnowsEnd g.R.Read.remaining l.initial.self → KnowsEnd g.R.Read.remaining l.self;
}

-- a bound on the reads that may still be needed
abbrev pub decreases-loop-self : goal.decreases-loop-self
decreases-loop-self g l = cond l.self.ended 0 (1102 - length (buffered_bytes l.self.buffered))
