-- In both images, of the pieces so far those that the message may change are dirty, and all others are as they were.
use Rattle.checkpoint.proofs.DirtyPieces.{AreMarked}
use Rattle.checkpoint.proofs.dirty.dirty_one.Given as goal

abbrev pub invariant-loop-n : goal.invariant-loop-n
invariant-loop-n l = AreMarked l.g l.m l.n l.initial.named l.named × AreMarked l.g l.m l.n l.initial.other l.other
