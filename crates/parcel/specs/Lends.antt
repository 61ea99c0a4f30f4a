-- Inner: Where the nodes of a tree are found, and what the tree is once a returned `&mut` to one ends.
use Rattle.std.specs.Prelude.{ℕ, Option, Some, None, slice_index_or}
use Rattle.std.specs.Borrow.{LendsIf, Fml, MutBor, RattleType}
use Rattle.std.specs.Global.{Vec}
use Rattle.std.specs.Option.{option_and_then, option_map}
use Rattle.std.specs.Vec.{with_item}
use Rattle.std.specs.contracts.alloc.Global as global
use Rattle.std.specs.contracts.impls.GlobalAllocator.TheImpl.{ghosts}
use Rattle.std.specs.contracts.option.Option as option
use Rattle.std.specs.contracts.vec.Vec as vec
use Rattle.parcel.specs.contracts.parts.Root.{the_row as root_row}
use Rattle.parcel.specs.contracts.parts.Aggr.{the_row as aggregate_row}
use Rattle.parcel.specs.contracts.parts.Vol.{the_row as volume_row}
use Rattle.parcel.specs.contracts.parts.Logical.{the_row as logical_row}
use Rattle.parcel.specs.declared.parts.Logical.{Logical}
use Rattle.parcel.specs.declared.parts.Vol.{Vol}
use Rattle.parcel.specs.declared.parts.Aggr.{Aggr}
use Rattle.parcel.specs.declared.parts.Root.{Root}

-- The row ends with the last value written through r as its child i, and at `None` as it was.
abbrev pub lends_child : (T : RattleType) → MutBor (Vec (Option T.Denot)) → ℕ → Option (MutBor T.Denot) → Fml
lends_child T row i r = LendsIf (vec.the_row (option.the_row T) global.the_row ghosts) T row r (λ w. with_item row.now i (Some w)) row.now

-- aggregate a of a root, volume v of that, and its Volume Logical, where they are in
abbrev pub aggregate_of_tree : Option Root → ℕ → Option Aggr
aggregate_of_tree o a = option_and_then (λ r. slice_index_or r.aggregates.items a None) o

abbrev pub volume_of_tree : Option Root → ℕ → ℕ → Option Vol
volume_of_tree o a v = option_and_then (λ r. slice_index_or r.volumes.items v None) (aggregate_of_tree o a)

abbrev pub logical_of_tree : Option Root → ℕ → ℕ → Option Logical
logical_of_tree o a v = option_and_then (λ w. w.logical) (volume_of_tree o a v)

-- the tree with another child there, where the node above is in
abbrev pub with_aggregate : Option Root → ℕ → Option Aggr → Option Root
with_aggregate o a y = option_map (λ r. record { aggregates = with_item r.aggregates a y }) o

abbrev pub with_volume : Option Root → ℕ → ℕ → Option Vol → Option Root
with_volume o a v y = with_aggregate o a (option_map (λ r. record { volumes = with_item r.volumes v y }) (aggregate_of_tree o a))

abbrev pub with_logical : Option Root → ℕ → ℕ → Option Logical → Option Root
with_logical o a v y = with_volume o a v (option_map (λ (w : Vol). record w { logical = y }) (volume_of_tree o a v))

-- The tree ends with the last value written through r as its aggregate, volume or Volume Logical, and at `None` as it was.
abbrev pub lends_aggregate : MutBor (Option Root) → ℕ → Option (MutBor Aggr) → Fml
lends_aggregate root a r = LendsIf (option.the_row root_row) aggregate_row root r (λ x. with_aggregate root.now a (Some x)) root.now

abbrev pub lends_volume : MutBor (Option Root) → ℕ → ℕ → Option (MutBor Vol) → Fml
lends_volume root a v r = LendsIf (option.the_row root_row) volume_row root r (λ w. with_volume root.now a v (Some w)) root.now

abbrev pub lends_logical : MutBor (Option Root) → ℕ → ℕ → Option (MutBor Logical) → Fml
lends_logical root a v r = LendsIf (option.the_row root_row) logical_row root r (λ l. with_logical root.now a v (Some l)) root.now
