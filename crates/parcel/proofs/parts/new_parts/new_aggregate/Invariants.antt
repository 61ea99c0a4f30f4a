-- As many new children as the counter says are in the vector, and there is room for the rest.
use Rattle.std.proofs.Common.{◌≡◌, ◌≤◌, length, vec_capacity}
use Rattle.std.specs.List.{AllByRecursion}
use Rattle.parcel.specs.Whole.{IsWholeChild}
use Rattle.parcel.specs.NewTree.{IsNewVolume}
use Rattle.parcel.proofs.parts.new_parts.new_aggregate.Given as goal

abbrev pub invariant-loop : goal.invariant-loop
invariant-loop l = (length l.volumes.items ≡ l.counter) × AllByRecursion (IsWholeChild (IsNewVolume l.g)) l.volumes.items × (l.g.volumes ≤ vec_capacity l.volumes)
