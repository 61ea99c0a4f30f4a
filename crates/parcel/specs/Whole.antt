-- Statement for engineers: Which parts of a tree are whole: nothing below them is out.
use Rattle.std.specs.Prelude.{Option, Some, None}
use Rattle.std.specs.List.{AllByRecursion}
use Rattle.parcel.specs.declared.parts.Logical.{Logical}
use Rattle.parcel.specs.declared.parts.Vol.{Vol}
use Rattle.parcel.specs.declared.parts.Aggr.{Aggr}
use Rattle.parcel.specs.declared.parts.Root.{Root}

-- The child is in, and nothing below it is out.
abbrev pub IsWholeChild : {X : Type 0} → (X → Type 0) → Option X → Type 0
IsWholeChild IsWhole None = ⊥
IsWholeChild IsWhole (Some x) = IsWhole x

abbrev pub IsWholeLogical : Logical → Type 0
IsWholeLogical l = AllByRecursion (IsWholeChild (λ p. Unit {0})) l.stripes.items

abbrev pub IsWholeVolume : Vol → Type 0
IsWholeVolume w = IsWholeChild IsWholeLogical w.logical × IsWholeChild (λ l. Unit {0}) w.label

abbrev pub IsWholeAggregate : Aggr → Type 0
IsWholeAggregate r = AllByRecursion (IsWholeChild IsWholeVolume) r.volumes.items

abbrev pub IsWholeRoot : Root → Type 0
IsWholeRoot r = AllByRecursion (IsWholeChild IsWholeAggregate) r.aggregates.items
