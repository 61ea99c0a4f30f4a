-- Statement for clients: The configuration of a server (its geometry), and the stripe of a block. A geometry carries the proof that each
-- of its numbers is in range, in fields such as `g.stripes_range`.
use Rattle.std.specs.Prelude.{ℕ, ◌+◌, ◌/◌, ◌%◌, List, [], ◌∷◌}
use Rattle.std.proofs.Common.{lit≤}
use Rattle.affinity.specs.declared.geometry.Geometry.{Geometry}

-- the eight numbers of a geometry, in the order in which `Geometry::new` takes them
abbrev pub numbers_of : Geometry → List ℕ
numbers_of g = g.aggregates ∷ g.volumes ∷ g.stripes ∷ g.width ∷ g.files ∷ g.blocks ∷ g.quota ∷ g.half ∷ []

-- the number, in its volume, of the stripe in which block b of file f lies
abbrev pub stripe_of : Geometry → ℕ → ℕ → ℕ
stripe_of g f b = (f + b / g.width) % g.stripes

-- the default geometry; each option of the command line changes one of its numbers. `lit≤ tt` proves that a numeral is at most another.
abbrev pub default_geometry : Geometry
default_geometry = record {
  aggregates = 1;
  volumes = 4;
  stripes = 4;
  width = 4;
  files = 16;
  blocks = 64;
  quota = 64;
  half = 256;
  aggregates_range = (lit≤ tt, lit≤ tt);
  volumes_range = (lit≤ tt, lit≤ tt);
  stripes_range = (lit≤ tt, lit≤ tt);
  width_range = (lit≤ tt, lit≤ tt);
  files_range = (lit≤ tt, lit≤ tt);
  blocks_range = (lit≤ tt, lit≤ tt);
  quota_range = (lit≤ tt, lit≤ tt);
  half_range = (lit≤ tt, lit≤ tt);
}
