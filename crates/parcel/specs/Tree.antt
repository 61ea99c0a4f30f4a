-- Statement for operators: The tree of a server's parcels, some of which may be out, and what it is to lend and to restore.
use Rattle.std.specs.Prelude.{◌≡◌, zero, true, false, [], ◌∷◌, ◌++◌, Option, None, is_some, IfSome}
use Rattle.affinity.specs.declared.geometry.Geometry.{Geometry}
use Rattle.affinity.specs.Path.{Path, is_prefix, are_related, volume, logical, IsPath}
use Rattle.meaning.specs.State.{State, IsState}
use Rattle.parcel.specs.Fits.{Fits, FitsRoot, IsKindOf}
use Rattle.parcel.specs.Nodes.{Nodes, child_nodes, root_nodes, parcels_nodes, node_made, node_sealed, node_files, tree_state, TakesOut, PutsBack}
use Rattle.meaning.specs.Subtrees.{AgreeOn}
use Rattle.parcel.specs.Shown.{shown_state, Shows}
use Rattle.parcel.specs.declared.parts.Root.{Root}
use Rattle.parcel.specs.declared.parts.Parcels.{Parcels}
use Rattle.parcel.specs.declared.parts.Standing.{Standing}

-- what contracts see of a `Tree`
pub record TreeView : Type 0 where
  pub geometry : Geometry
  pub root : Option Root

-- the invariant of a tree: what is in fits its geometry
abbrev pub IsWellFormed : TreeView → Type 0
IsWellFormed t = IfSome t.root (FitsRoot t.geometry)

-- the nodes of a tree
abbrev pub tree_nodes : TreeView → Nodes
tree_nodes t = child_nodes root_nodes t.root

-- the state of all that is in
abbrev pub state_in : TreeView → State
state_in t = tree_state t.geometry (tree_nodes t)

-- Nothing at this path, above it or below it is out.
abbrev pub IsIn : Geometry → Path → Nodes → Type 0
IsIn g p n = (q : Path) → IsPath g q → are_related p q ≡ true → is_some (n q) ≡ true

-- Nothing of the tree is out, and it holds a state of its geometry.
pub record IsWholeTree (t : TreeView) : Type 0 where
  pub all_in : IsIn t.geometry [] (tree_nodes t)
  pub state : IsState t.geometry (state_in t)

-- Something at this path, above it or below it is out.
abbrev pub HasGap : Geometry → Path → Nodes → Type 0
HasGap g p n = (q : Path) × IsPath g q × (are_related p q ≡ true) × (n q ≡ None)

-- the path of the node above (of the root, its own)
abbrev pub path_above : Path → Path
path_above [] = []
path_above (x ∷ []) = []
path_above (x ∷ y ∷ p) = x ∷ path_above (y ∷ p)

-- The node at the path is out, and the node above it is in, or it is the root.
abbrev pub IsOut : Path → Nodes → Type 0
IsOut [] n = n [] ≡ None
IsOut (x ∷ p) n = (n (x ∷ p) ≡ None) × (is_some (n (path_above (x ∷ p))) ≡ true)

-- what a message at a path sees of the nodes above: at a stripe the flags and the files of its volume, at a Volume Logical or Volume Label
-- the flags alone, elsewhere nothing
abbrev pub standing_at : Path → Nodes → Standing
standing_at (a ∷ v ∷ zero ∷ s ∷ _) n = record {
  made = node_made (n (volume a v));
  sealed = node_sealed (n (volume a v));
  files = node_files (n (logical a v));
}
standing_at (a ∷ v ∷ c ∷ []) n = record { made = node_made (n (volume a v)); sealed = node_sealed (n (volume a v)); files = 0 }
standing_at _ n = record { made = false; sealed = false; files = 0 }

-- These parcels, with this standing, were lent from a path: they are what was there, whole, and the rest stays.
pub record LendsAt (g : Geometry) (p : Path) (t : Standing) (lent : Parcels) (old new : Nodes) : Type 0 where
  pub all_in : IsIn g p old
  pub fits : Fits g p lent
  pub parcels : (q : Path) → old (p ++ q) ≡ parcels_nodes lent q
  pub standing : t ≡ standing_at p old
  pub shows : Shows g p t lent (tree_state g old)
  pub rest : TakesOut p old new

-- These parcels were put back at a path at which they were out, and the rest stays.
pub record RestoresAt (g : Geometry) (p : Path) (parcels : Parcels) (old new : Nodes) : Type 0 where
  pub out : IsOut p old
  pub kind : IsKindOf p parcels
  pub nodes : PutsBack p (parcels_nodes parcels) old new
  -- what they show is the subtree there
  pub subtree : (t : Standing) → AgreeOn g (is_prefix p) (shown_state g p t parcels) (tree_state g new)
