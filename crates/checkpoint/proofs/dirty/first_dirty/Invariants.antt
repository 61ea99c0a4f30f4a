-- No piece before this one is dirty.
use Rattle.checkpoint.specs.DirtyPieces.{AreCleanBefore}
use Rattle.checkpoint.proofs.dirty.first_dirty.Given as goal

abbrev pub invariant-loop-n : goal.invariant-loop-n
invariant-loop-n l = AreCleanBefore l.n l.dirty
