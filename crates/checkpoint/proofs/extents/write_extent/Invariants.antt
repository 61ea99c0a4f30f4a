-- The place is that at which the next extent begins.
use Rattle.std.proofs.Common.{◌≡◌}
use Rattle.checkpoint.specs.Extents.{extent_at}
use Rattle.checkpoint.proofs.extents.write_extent.Given as goal

abbrev pub invariant-loop-i : goal.invariant-loop-i
invariant-loop-i g l = l.at ≡ extent_at l.g l.i
