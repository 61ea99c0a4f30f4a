-- Statement for engineers: The ranges of a geometry's numbers. They are not in Geometry.antt, since `Geometry` keeps them in ghost fields,
-- and a ghost field can cite no module that names its struct.
use Rattle.std.specs.Prelude.{ℕ, ◌≤◌, List, [], ◌∷◌}
use Rattle.affinity.specs.declared.limits.TheConstants.{LEAST_RECORDS, MOST_AGGREGATES, MOST_BLOCKS, MOST_FILES, MOST_QUOTA, MOST_RECORDS, MOST_STRIPES, MOST_VOLUMES, MOST_WIDTH}

-- from `least` to `most`, both included
abbrev pub IsWithin : ℕ → ℕ → ℕ → Type 0
IsWithin least most n = (least ≤ n) × (n ≤ most)

-- Eight numbers, each in its range: how many aggregates a server has, volumes an aggregate, and stripes a volume; the width (adjacent
-- blocks in one stripe); how many files a volume has, and blocks a file; the quota of a stripe; and the records of a half of the log.
abbrev pub AreInRange : List ℕ → Type 0
AreInRange (aggregates ∷ volumes ∷ stripes ∷ width ∷ files ∷ blocks ∷ quota ∷ half ∷ []) =
    IsWithin 1 MOST_AGGREGATES aggregates
    × IsWithin 1 MOST_VOLUMES volumes
    × IsWithin 1 MOST_STRIPES stripes
    × IsWithin 1 MOST_WIDTH width
    × IsWithin 1 MOST_FILES files
    × IsWithin 1 MOST_BLOCKS blocks
    × IsWithin 1 MOST_QUOTA quota
    × IsWithin LEAST_RECORDS MOST_RECORDS half
AreInRange _ = ⊥
