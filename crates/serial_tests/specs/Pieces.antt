-- Inner: A whole tree of the small geometry.
use Rattle.std.specs.Prelude.{◌≡◌, [], ◌∷◌}
use Rattle.affinity.specs.Geometry.{numbers_of}
use Rattle.meaning.specs.State.{empty}
use Rattle.parcel.specs.Tree.{TreeView, IsWholeTree, state_in}

pub record IsSmallTree (t : TreeView) : Type 0 where
  pub numbers : numbers_of t.geometry ≡ 1 ∷ 1 ∷ 2 ∷ 1 ∷ 2 ∷ 4 ∷ 2 ∷ 4 ∷ []
  pub whole : IsWholeTree t

pub record IsNewTree (t : TreeView) : Type 0 where
  pub small : IsSmallTree t
  pub empty : state_in t ≡ empty
