-- Worked examples of the definitions.
use Rattle.std.proofs.Common.{◌≡◌, true, false, [], ◌∷◌, refl}
use Rattle.checkpoint.specs.Costs.{count_runs}

some_runs : count_runs (true ∷ true ∷ false ∷ true ∷ []) ≡ 2
some_runs = refl

no_run : count_runs (false ∷ false ∷ []) ≡ 0
no_run = refl
