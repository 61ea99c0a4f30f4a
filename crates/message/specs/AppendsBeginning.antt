-- Statement for operators: What a writer holds where not all was written that was to be.
use Rattle.std.specs.Prelude.{◌≡◌, ℕ, List, ◌++◌, Option}
use Rattle.std.specs.Io.KnownBytes.{Appends}

-- known bytes grow by a beginning of these, perhaps by none of them or all
abbrev pub AppendsBeginning : Option (List ℕ) → Option (List ℕ) → List ℕ → Type 0
AppendsBeginning old new bytes = (begun : List ℕ) × (rest : List ℕ) × (bytes ≡ begun ++ rest) × Appends old new begun
