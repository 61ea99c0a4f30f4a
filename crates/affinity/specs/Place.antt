-- Statement for clients: Where a message belongs, by its kind and its four numbers: aggregate, volume, file and block.
use Rattle.std.specs.Prelude.{ℕ, Bool, true, false, ◌&&◌, nat_lt, List, [], ◌∷◌, take}
use Rattle.affinity.specs.Geometry.{stripe_of}
use Rattle.affinity.specs.Kind.{number_count}
use Rattle.affinity.specs.Path.{Path, serial, aggregate, volume, logical, stripe, label}
use Rattle.affinity.specs.declared.kinds.Kind.{Kind}
use Rattle.affinity.specs.declared.kinds.Kind.TheVariants.{MakeVol, DropVol, Create, Delete, Seal, Unseal, Write, Punch, Read, List as ListFiles, Usage, Summary, SetLabel, Label}
use Rattle.affinity.specs.declared.places.Place.{Place}
use Rattle.affinity.specs.declared.places.Place.TheVariants.{Serial, Aggregate, Volume, Logical, Stripe, Label as LabelPlace}
use Rattle.affinity.specs.declared.geometry.Geometry.{Geometry}

-- the path of a place
abbrev pub path : Place → Path
path Serial = serial
path (Aggregate a) = aggregate a
path (Volume a v) = volume a v
path (Logical a v) = logical a v
path (Stripe a v s) = stripe a v s
path (LabelPlace a v) = label a v

-- each number is below the limit at the same index
abbrev pub are_below : List ℕ → List ℕ → Bool
are_below [] limits = true
are_below (n ∷ ns) [] = false
are_below (n ∷ ns) (limit ∷ limits) = nat_lt n limit && are_below ns limits

-- the limits of the four numbers of a message
abbrev pub limits : Geometry → List ℕ
limits g = g.aggregates ∷ g.volumes ∷ g.files ∷ g.blocks ∷ []

-- The numbers that a message of the kind has are in range. The others may be anything.
abbrev pub is_in_range : Geometry → Kind → List ℕ → Bool
is_in_range g k n = are_below (take (number_count k) n) (limits g)

-- the path at which a message of the kind belongs, by its aggregate, volume, file and block
abbrev pub path_of_numbers : Geometry → Kind → ℕ → ℕ → ℕ → ℕ → Path
path_of_numbers g MakeVol a v f b = aggregate a
path_of_numbers g DropVol a v f b = aggregate a
path_of_numbers g Create a v f b = logical a v
path_of_numbers g Delete a v f b = logical a v
path_of_numbers g Seal a v f b = volume a v
path_of_numbers g Unseal a v f b = volume a v
path_of_numbers g Write a v f b = stripe a v (stripe_of g f b)
path_of_numbers g Punch a v f b = stripe a v (stripe_of g f b)
path_of_numbers g Read a v f b = stripe a v (stripe_of g f b)
path_of_numbers g ListFiles a v f b = logical a v
path_of_numbers g Usage a v f b = volume a v
path_of_numbers g Summary a v f b = serial
path_of_numbers g SetLabel a v f b = label a v
path_of_numbers g Label a v f b = label a v

-- the path at which a message of the kind belongs, by the list of its four numbers; the path for a list of another length means nothing
abbrev pub path_of_kind : Geometry → Kind → List ℕ → Path
path_of_kind g k (a ∷ v ∷ f ∷ b ∷ []) = path_of_numbers g k a v f b
path_of_kind g k _ = serial
