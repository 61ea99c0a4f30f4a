-- So many empty cells so far.
use Rattle.std.proofs.Common.{◌≡◌, replicate, None}
use Rattle.workers.proofs.bench.empty_cells.Given as goal

abbrev pub invariant-loop-place : goal.invariant-loop-place
invariant-loop-place l = l.cells.items ≡ replicate l._place None
