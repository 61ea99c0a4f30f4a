-- Statement for engineers: Affinities as intervals of numbers. The tree of a server is numbered in preorder: an affinity and all that lie
-- below it have the numbers from its own number, which is the least of them, up to its end, the end excluded.
use Rattle.std.specs.Prelude.{◌≡◌, ℕ, zero, suc, ◌+◌, ◌*◌, [], ◌∷◌, Bool, ◌&&◌, nat_le, nat_lt}
use Rattle.affinity.specs.Path.{Path, IsPath}
use Rattle.affinity.specs.declared.geometry.Geometry.{Geometry}

-- the number of an affinity, and the first number after those below it
pub record Interval : Type 0 where
  pub number : ℕ
  pub end : ℕ

-- how many affinities a volume has: itself, its logical one, the stripes below that, and its label
abbrev pub volume_size : Geometry → ℕ
volume_size g = 3 + g.stripes

-- how many affinities an aggregate has: itself, and those of its volumes
abbrev pub aggregate_size : Geometry → ℕ
aggregate_size g = 1 + g.volumes * volume_size g

-- how many affinities a server has: itself, and those of its aggregates
abbrev pub affinity_count : Geometry → ℕ
affinity_count g = 1 + g.aggregates * aggregate_size g

-- the number of the affinity of volume v of aggregate a
abbrev pub volume_number : Geometry → ℕ → ℕ → ℕ
volume_number g a v = 2 + a * aggregate_size g + v * volume_size g

-- the number of the affinity at a path: its position in preorder
abbrev pub preorder_number : Geometry → Path → ℕ
preorder_number g [] = 0
preorder_number g (a ∷ []) = 1 + a * aggregate_size g
preorder_number g (a ∷ v ∷ []) = volume_number g a v
preorder_number g (a ∷ v ∷ zero ∷ []) = volume_number g a v + 1
preorder_number g (a ∷ v ∷ zero ∷ s ∷ _) = volume_number g a v + 2 + s
preorder_number g (a ∷ v ∷ suc _ ∷ _) = volume_number g a v + 2 + g.stripes

-- how many affinities there are at a path and below it
abbrev pub subtree_size : Geometry → Path → ℕ
subtree_size g [] = affinity_count g
subtree_size g (a ∷ []) = aggregate_size g
subtree_size g (a ∷ v ∷ []) = volume_size g
subtree_size g (a ∷ v ∷ zero ∷ []) = 1 + g.stripes
subtree_size g (a ∷ v ∷ zero ∷ s ∷ _) = 1
subtree_size g (a ∷ v ∷ suc _ ∷ _) = 1

-- the interval of the affinity at a path
abbrev pub interval : Geometry → Path → Interval
interval g p = record { number = preorder_number g p; end = preorder_number g p + subtree_size g p }

-- whether the number is that of the affinity, or of one below it
abbrev pub contains : Interval → ℕ → Bool
contains i n = nat_le i.number n && nat_lt n i.end

-- The path is that of an affinity of the geometry, and this is its interval.
pub record IsAffinityOf (g : Geometry) (p : Path) (a : Interval) : Type 0 where
  pub path : IsPath g p
  pub interval : a ≡ interval g p

-- The interval is that of an affinity of the geometry, at some path.
abbrev pub IsAffinity : Geometry → Interval → Type 0
IsAffinity g a = (p : Path) × IsAffinityOf g p a
