-- What was written in part: a beginning of what waits is a beginning of all output.
use Rattle.std.proofs.Common.{arith, ◌≡◌, ℕ, List, [], ◌++◌, Option, Some, None, refl, ap, ◌∙◌, append_assoc}
use Rattle.std.proofs.lemmas.Grind.{common_steps}
use Rattle.std.proofs.lemmas.List.{append_cancel_left}
use Rattle.std.specs.Io.KnownBytes.{Appends}
use Rattle.message.specs.BufferedOutput.{all_output}
use Rattle.message.specs.AppendsBeginning.{AppendsBeginning}

-- what begins the first bytes begins all
pub begins_longer : (before new : Option (List ℕ)) (first rest all : List ℕ) → all ≡ first ++ rest → AppendsBeginning before new first → AppendsBeginning before new all
begins_longer before new first rest all is b = (b.0, b.1 ++ rest, is ∙ ap (λ (l : List ℕ). l ++ rest) b.2 ∙ append_assoc b.0 b.1 rest, b.3)

-- Some bytes were written. With those that wait they make `all`, and of those that wait a beginning was written.
module _ (sent waiting all : List ℕ) where
  pub begins_all : (before old new : Option (List ℕ)) → Appends before old sent → Appends before (all_output old waiting) all → AppendsBeginning old new waiting
      → AppendsBeginning before new all
  begins_all None old new whole so_far begins = ([], all, refl, tt)
  begins_all (Some b) None new whole so_far begins = absurd whole
  begins_all (Some b) (Some o) None whole so_far begins = absurd begins.3
  begins_all (Some b) (Some o) (Some n) whole so_far begins = grind (arith, common_steps, append_cancel_left)
