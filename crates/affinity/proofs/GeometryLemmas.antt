-- Two geometries with the same eight numbers are equal; and the geometry of eight numbers.
use Rattle.std.proofs.Common.{◌≡◌, ℕ, [], ◌∷◌, ap, subst, lit≤}
use Rattle.std.specs.Coded.{le_prop}
use Rattle.std.specs.Prelude.{List}
use Rattle.affinity.specs.Limits.{AreInRange}
use Rattle.affinity.specs.Geometry.{numbers_of}
use Rattle.affinity.specs.declared.geometry.Geometry.{Geometry}

-- the geometry of these numbers: aggregates, volumes, stripes, width, files, blocks, quota and half
abbrev pub geometry_of : (n : List ℕ) → AreInRange n → Geometry
geometry_of (aggregates ∷ volumes ∷ stripes ∷ width ∷ files ∷ blocks ∷ quota ∷ half ∷ []) r = record {
  aggregates = aggregates;
  volumes = volumes;
  stripes = stripes;
  width = width;
  files = files;
  blocks = blocks;
  quota = quota;
  half = half;
  aggregates_range = r.0;
  volumes_range = r.1;
  stripes_range = r.2;
  width_range = r.3;
  files_range = r.4;
  blocks_range = r.5;
  quota_range = r.6;
  half_range = r.7;
}
geometry_of _ r = absurd r

same_ranges : (n : List ℕ) (r s : AreInRange n) → r ≡ s
same_ranges (a ∷ v ∷ s ∷ w ∷ f ∷ b ∷ q ∷ h ∷ []) = hlevel (le_prop)
same_ranges _ = λ r. absurd r

geometry_of-same : (n m : List ℕ) → n ≡ m → (r : AreInRange n) (s : AreInRange m) → geometry_of n r ≡ geometry_of m s
geometry_of-same n m e r = subst (λ (m : List ℕ). (s : AreInRange m) → geometry_of n r ≡ geometry_of m s) e (λ s. ap (geometry_of n) (same_ranges n r s))

pub are_in_range : (g : Geometry) → AreInRange (numbers_of g)
are_in_range g = (g.aggregates_range, g.volumes_range, g.stripes_range, g.width_range, g.files_range, g.blocks_range, g.quota_range, g.half_range)

pub geometry_same : (g h : Geometry) → numbers_of g ≡ numbers_of h → g ≡ h
unfolding are_in_range
geometry_same g h e = geometry_of-same (numbers_of g) (numbers_of h) e (are_in_range g) (are_in_range h)

-- a small server for worked examples: one volume of two files of four blocks, in two stripes that hold two blocks each
abbrev pub small : Geometry
small = geometry_of (1 ∷ 1 ∷ 2 ∷ 1 ∷ 2 ∷ 4 ∷ 2 ∷ 4 ∷ [])
    ((lit≤ tt, lit≤ tt), (lit≤ tt, lit≤ tt), (lit≤ tt, lit≤ tt), (lit≤ tt, lit≤ tt), (lit≤ tt, lit≤ tt), (lit≤ tt, lit≤ tt), (lit≤ tt, lit≤ tt), (lit≤ tt, lit≤ tt))
