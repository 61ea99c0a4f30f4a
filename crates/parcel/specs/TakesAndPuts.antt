-- Inner: What it is to take parts out of the tree, and to put them back.
use Rattle.std.specs.Prelude.{◌≡◌, ◌++◌, Option, Some, None, IfSome, MatchOption, Result, Ok, Err, MatchResult}
use Rattle.affinity.specs.declared.geometry.Geometry.{Geometry}
use Rattle.affinity.specs.Path.{Path}
use Rattle.parcel.specs.Fits.{Fits, FitsRoot, IsKindOf}
use Rattle.parcel.specs.Whole.{IsWholeChild}
use Rattle.parcel.specs.Nodes.{Nodes, child_nodes, root_nodes, parcels_nodes, TakesOut, PutsBack, SameNodes}
use Rattle.parcel.specs.Tree.{HasGap, IsOut}
use Rattle.parcel.specs.declared.parts.Root.{Root}
use Rattle.parcel.specs.declared.parts.Parcels.{Parcels}

-- ---- one slot, which is `None` where what belongs there is out

-- The value of the slot was taken: it was whole. Or nothing was, and nothing changed, since the slot has no whole value.
abbrev pub TakesWhole : {X : Type 0} → (X → Type 0) → Option X → Option X → Option X → Type 0
TakesWhole IsWhole None old new = (IsWholeChild IsWhole old → ⊥) × (new ≡ old)
TakesWhole IsWhole (Some x) old new = IsWhole x × (old ≡ Some x) × (new ≡ None)

-- The value x was put into the slot, which had none. Or x came back, and nothing changed, since the slot has one.
abbrev pub Fills : {X : Type 0} → X → Result (Unit {0}) X → Option X → Option X → Type 0
Fills x (Ok t) old new = (old ≡ None) × (new ≡ Some x)
Fills x (Err back) old new = (back ≡ x) × (old ≡ None → ⊥) × (new ≡ old)

-- ---- the tree

-- The parcels were taken out at path p: they are what was there, whole, and the rest stays.
pub record TakesParcels (g : Geometry) (p : Path) (taken : Parcels) (old new : Nodes) : Type 0 where
  pub fits : Fits g p taken
  pub parcels : (q : Path) → old (p ++ q) ≡ parcels_nodes taken q
  pub rest : TakesOut p old new

-- What was taken out at path p. Nothing was, and nothing changed, exactly if something there, above or below is out.
pub record TakesAt (g : Geometry) (p : Path) (taken : Option Parcels) (old new : Option Root) : Type 0 where
  pub nodes : MatchOption taken
      (HasGap g p (child_nodes root_nodes old) × SameNodes (child_nodes root_nodes old) (child_nodes root_nodes new))
      (λ parcels. TakesParcels g p parcels (child_nodes root_nodes old) (child_nodes root_nodes new))
  pub fits : IfSome new (FitsRoot g)

-- The parcels were put back at path p, which was out, and the rest stays.
pub record Puts (p : Path) (parcels : Parcels) (old new : Nodes) : Type 0 where
  pub out : IsOut p old
  pub kind : IsKindOf p parcels
  pub nodes : PutsBack p (parcels_nodes parcels) old new

-- The parcels came back and nothing changed, since path p isn't out or they are not of the kind that lies there.
pub record HandsBack (p : Path) (parcels returned : Parcels) (old new : Nodes) : Type 0 where
  pub back : returned ≡ parcels
  pub why : IsOut p old → IsKindOf p parcels → ⊥
  pub same : SameNodes old new

-- whether the parcels were put back at path p
pub record PutsAt (g : Geometry) (p : Path) (parcels : Parcels) (put : Result (Unit {0}) Parcels) (old new : Option Root) : Type 0 where
  pub nodes : MatchResult put
      (λ t. Puts p parcels (child_nodes root_nodes old) (child_nodes root_nodes new))
      (λ back. HandsBack p parcels back (child_nodes root_nodes old) (child_nodes root_nodes new))
  pub fits : IfSome new (FitsRoot g)
