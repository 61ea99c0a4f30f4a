-- The count so far is that of the flags so far, and no greater than their number.
use Rattle.std.proofs.Common.{◌≡◌, ◌≤◌, take}
use Rattle.checkpoint.specs.DirtyPieces.{count_dirty}
use Rattle.checkpoint.proofs.dirty.count_dirty.Given as goal

abbrev pub invariant-loop-is_dirty : goal.invariant-loop-is_dirty
invariant-loop-is_dirty l = record { count : l.count ≡ count_dirty (take l.is_dirty-index l.dirty); most : l.count ≤ l.is_dirty-index }
