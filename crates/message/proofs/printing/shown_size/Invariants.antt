-- Behind the bytes that are left there are zeros alone, so the bytes without their last zeros are as at first.
use Rattle.std.proofs.Common.{◌≡◌, ◌≤◌, take, length}
use Rattle.protocol.specs.Replies.{without_trailing_zeros}
use Rattle.message.proofs.printing.shown_size.Given as goal

abbrev pub invariant-loop-size : goal.invariant-loop-size
invariant-loop-size l = record {
  shown : without_trailing_zeros (take l.size l.bytes) ≡ without_trailing_zeros l.bytes;
  some : 1 ≤ l.size;
  bound : l.size ≤ length l.bytes;
}

abbrev pub decreases-loop-size : goal.decreases-loop-size
decreases-loop-size l = l.size
