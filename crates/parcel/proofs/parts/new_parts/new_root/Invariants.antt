-- As many new children as the counter says are in the vector, and there is room for the rest.
use Rattle.std.proofs.Common.{◌≡◌, ◌≤◌, length, vec_capacity}
use Rattle.std.specs.List.{AllByRecursion}
use Rattle.parcel.specs.Whole.{IsWholeChild}
use Rattle.parcel.specs.NewTree.{IsNewAggregate}
use Rattle.parcel.proofs.parts.new_parts.new_root.Given as goal

abbrev pub invariant-loop : goal.invariant-loop
invariant-loop l = (length l.aggregates.items ≡ l.counter) × AllByRecursion (IsWholeChild (IsNewAggregate l.g)) l.aggregates.items × (l.g.aggregates ≤ vec_capacity l.aggregates)
