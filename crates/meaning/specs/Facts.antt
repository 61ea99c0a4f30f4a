-- Statement for engineers: The facts of a volume in a state, each with its value and its path.
use Rattle.std.specs.Prelude.{[], ℕ, Bool, List, ◌∷◌, Option}
use Rattle.affinity.specs.declared.geometry.Geometry.{Geometry}
use Rattle.affinity.specs.Geometry.{stripe_of}
use Rattle.affinity.specs.Path.{Path}
use Rattle.protocol.specs.declared.messages.Block.{Block}
use Rattle.meaning.specs.State.{State}

-- One fact of a volume: whether it is made, whether it is sealed, its label, whether it has a file, and a block of a file.
pub data Fact : Type 0 where
  OfMade : Fact
  OfSealed : Fact
  OfLabel : Fact
  OfFile : (f : ℕ) → Fact
  OfBlock : (f b : ℕ) → Fact

-- what a state says of it, in the volume (a, v)
abbrev pub Value : Fact → Type 0
Value OfMade = Bool
Value OfSealed = Bool
Value OfLabel = Option (List ℕ)
Value (OfFile f) = Bool
Value (OfBlock f b) = Option Block

abbrev pub value : State → ℕ → ℕ → (fact : Fact) → Value fact
value x a v OfMade = x.made (a, v)
value x a v OfSealed = x.sealed (a, v)
value x a v OfLabel = x.labels (a, v)
value x a v (OfFile f) = x.files (a, v, f)
value x a v (OfBlock f b) = x.blocks (a, v, f, b)

-- where it lies in the tree, from the volume's node on: whether it is made and sealed at that node, its files at its Volume Logical, its
-- label at its Volume Label, a block at its stripe
abbrev pub path_in_volume : Geometry → Fact → Path
path_in_volume g OfMade = []
path_in_volume g OfSealed = []
path_in_volume g OfLabel = 1 ∷ []
path_in_volume g (OfFile f) = 0 ∷ []
path_in_volume g (OfBlock f b) = 0 ∷ stripe_of g f b ∷ []
