-- Statement for engineers: Which parcels belong at a path of a geometry.
use Rattle.std.specs.Prelude.{◌≡◌, ℕ, zero, suc, ◌<◌, ◌^◌, true, List, [], ◌∷◌, length, Option, is_some, IfSome}
use Rattle.affinity.specs.declared.geometry.Geometry.{Geometry}
use Rattle.affinity.specs.Geometry.{stripe_of}
use Rattle.affinity.specs.Path.{Path}
use Rattle.protocol.specs.declared.messages.Msg.{Msg}
use Rattle.protocol.specs.Messages.{path_of, is_in_range}
use Rattle.stripe.specs.Stripe.{StripePart, content_at}
use Rattle.parcel.specs.declared.parts.Logical.{Logical}
use Rattle.parcel.specs.declared.parts.Vol.{Vol}
use Rattle.parcel.specs.declared.parts.Aggr.{Aggr}
use Rattle.parcel.specs.declared.parts.Root.{Root}
use Rattle.parcel.specs.declared.parts.Parcels.{Parcels}
use Rattle.parcel.specs.declared.parts.Parcels.TheVariants as parcels
use Rattle.parcel.specs.Whole.{IsWholeLogical, IsWholeVolume, IsWholeAggregate, IsWholeRoot}

-- The parcel fits as stripe s: it has the quota of the geometry, and each of its blocks is in range and lies in stripe s.
pub record FitsStripe (g : Geometry) (s : ℕ) (p : StripePart) : Type 0 where
  pub quota : p.quota ≡ g.quota
  pub lies : (f b : ℕ) → is_some (content_at p.entries f b) ≡ true → (f < g.files) × (b < g.blocks) × (stripe_of g f b ≡ s)

-- Each child that isn't out fits at its number, where the list's first child is number i.
abbrev pub EachFits : {X : Type 0} → (ℕ → X → Type 0) → ℕ → List (Option X) → Type 0
EachFits Fits i [] = Unit {0}
EachFits Fits i (x ∷ xs) = IfSome x (Fits i) × EachFits Fits (suc i) xs

-- At the levels above a stripe: there are as many children as the geometry has, and each that isn't out fits. The bits of `files` are of
-- files that the geometry has.
pub record FitsLogical (g : Geometry) (l : Logical) : Type 0 where
  pub files : l.files < 2 ^ g.files
  pub count : length l.stripes.items ≡ g.stripes
  pub stripes : EachFits (FitsStripe g) 0 l.stripes.items

pub record FitsVolume (g : Geometry) (w : Vol) : Type 0 where
  pub logical : IfSome w.logical (FitsLogical g)

pub record FitsAggregate (g : Geometry) (r : Aggr) : Type 0 where
  pub count : length r.volumes.items ≡ g.volumes
  pub volumes : EachFits (λ v. FitsVolume g) 0 r.volumes.items

pub record FitsRoot (g : Geometry) (r : Root) : Type 0 where
  pub count : length r.aggregates.items ≡ g.aggregates
  pub aggregates : EachFits (λ a. FitsAggregate g) 0 r.aggregates.items

-- ---- parcels at a path

-- The parcels are of the kind that lies at the path.
abbrev pub IsKindOf : Path → Parcels → Type 0
IsKindOf [] (parcels.Root r) = Unit {0}
IsKindOf (a ∷ []) (parcels.Aggr r) = Unit {0}
IsKindOf (a ∷ v ∷ []) (parcels.Vol w) = Unit {0}
IsKindOf (a ∷ v ∷ zero ∷ []) (parcels.Logical l) = Unit {0}
IsKindOf (a ∷ v ∷ zero ∷ s ∷ []) (parcels.Stripe p) = Unit {0}
IsKindOf (a ∷ v ∷ suc zero ∷ []) (parcels.Label l) = Unit {0}
IsKindOf _ _ = ⊥

-- The parcels are of the kind that lies at the path, of the geometry, and whole.
abbrev pub Fits : Geometry → Path → Parcels → Type 0
Fits g [] (parcels.Root r) = FitsRoot g r × IsWholeRoot r
Fits g (a ∷ []) (parcels.Aggr r) = FitsAggregate g r × IsWholeAggregate r
Fits g (a ∷ v ∷ []) (parcels.Vol w) = FitsVolume g w × IsWholeVolume w
Fits g (a ∷ v ∷ zero ∷ []) (parcels.Logical l) = FitsLogical g l × IsWholeLogical l
Fits g (a ∷ v ∷ zero ∷ s ∷ []) (parcels.Stripe p) = FitsStripe g s p
Fits g (a ∷ v ∷ suc zero ∷ []) (parcels.Label l) = Unit {0}
Fits g _ _ = ⊥

-- The message can run on the parcels: it is in range, and they are those of its place.
pub record IsRunnable (g : Geometry) (m : Msg) (p : Parcels) : Type 0 where
  pub range : is_in_range g m ≡ true
  pub fits : Fits g (path_of g m) p
