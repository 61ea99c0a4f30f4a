-- So many empty slots so far.
use Rattle.std.proofs.Common.{◌≡◌, ◌≤◌, replicate, None, vec_capacity}
use Rattle.arena.proofs.arena.Arena.with_capacity.Given as goal

abbrev pub invariant-loop : goal.invariant-loop
invariant-loop g l = record { empty : l.values.items ≡ replicate l.counter None; room : l.slots ≤ vec_capacity l.values }
