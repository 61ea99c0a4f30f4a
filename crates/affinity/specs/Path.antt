-- Statement for clients: Paths name the affinities of a server: each begins with the paths of those above it.
use Rattle.std.specs.Prelude.{ℕ, zero, suc, ◌<◌, Bool, true, false, ◌&&◌, ◌||◌, ◌==◌, List, [], ◌∷◌}
use Rattle.affinity.specs.declared.geometry.Geometry.{Geometry}

-- the numbers from the root down: the aggregate, the volume, and 0 (the volume's files and blocks) or 1 (its label); after 0 the stripe.
-- A path may end after any of these.
abbrev pub Path : Type 0
Path = List ℕ

-- whether the first path is a prefix of the second: its affinity is the other one, or lies above it
abbrev pub is_prefix : Path → Path → Bool
is_prefix [] q = true
is_prefix (x ∷ p) [] = false
is_prefix (x ∷ p) (y ∷ q) = (x == y) && is_prefix p q

-- Two paths are related (in conflict) when one is a prefix of the other.
abbrev pub are_related : Path → Path → Bool
are_related p q = is_prefix p q || is_prefix q p

-- the whole server
abbrev pub serial : Path
serial = []

abbrev pub aggregate : ℕ → Path
aggregate a = a ∷ []

abbrev pub volume : ℕ → ℕ → Path
volume a v = a ∷ v ∷ []

-- a volume's files and blocks
abbrev pub logical : ℕ → ℕ → Path
logical a v = a ∷ v ∷ 0 ∷ []

-- a stripe: the blocks of the volume that lie in it
abbrev pub stripe : ℕ → ℕ → ℕ → Path
stripe a v s = a ∷ v ∷ 0 ∷ s ∷ []

-- a volume's label
abbrev pub label : ℕ → ℕ → Path
label a v = a ∷ v ∷ 1 ∷ []

-- The path is that of an affinity of the geometry: each number is below its limit. A third number is 0 (files and blocks) or 1 (the label).
abbrev pub IsPath : Geometry → Path → Type 0
IsPath g [] = Unit {0}
IsPath g (a ∷ []) = a < g.aggregates
IsPath g (a ∷ v ∷ []) = (a < g.aggregates) × (v < g.volumes)
IsPath g (a ∷ v ∷ zero ∷ []) = (a < g.aggregates) × (v < g.volumes)
IsPath g (a ∷ v ∷ zero ∷ s ∷ []) = (a < g.aggregates) × (v < g.volumes) × (s < g.stripes)
IsPath g (a ∷ v ∷ suc zero ∷ []) = (a < g.aggregates) × (v < g.volumes)
IsPath g _ = ⊥
