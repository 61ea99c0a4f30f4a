-- Inner: What it is for the parts of a tree to be new.
use Rattle.std.specs.Prelude.{[], ◌≡◌, false, length, None}
use Rattle.std.specs.List.{AllByRecursion}
use Rattle.affinity.specs.declared.geometry.Geometry.{Geometry}
use Rattle.stripe.specs.Stripe.{StripePart}
use Rattle.parcel.specs.Whole.{IsWholeChild}
use Rattle.parcel.specs.declared.parts.Label.{Label}
use Rattle.parcel.specs.declared.parts.Logical.{Logical}
use Rattle.parcel.specs.declared.parts.Vol.{Vol}
use Rattle.parcel.specs.declared.parts.Aggr.{Aggr}
use Rattle.parcel.specs.declared.parts.Root.{Root}

abbrev pub IsNewLogical : Geometry → Logical → Type 0
IsNewLogical g l = (l.files ≡ 0) × (length l.stripes.items ≡ g.stripes)
    × AllByRecursion (IsWholeChild (λ (p : StripePart). p ≡ record { quota = g.quota; entries = [] })) l.stripes.items

pub record IsNewVolume (g : Geometry) (w : Vol) : Type 0 where
  pub made : w.made ≡ false
  pub sealed : w.sealed ≡ false
  pub logical : IsWholeChild (IsNewLogical g) w.logical
  pub label : IsWholeChild (λ (l : Label). l.bytes ≡ None) w.label

abbrev pub IsNewAggregate : Geometry → Aggr → Type 0
IsNewAggregate g r = (length r.volumes.items ≡ g.volumes) × AllByRecursion (IsWholeChild (IsNewVolume g)) r.volumes.items

abbrev pub IsNewRoot : Geometry → Root → Type 0
IsNewRoot g r = (length r.aggregates.items ≡ g.aggregates) × AllByRecursion (IsWholeChild (IsNewAggregate g)) r.aggregates.items
