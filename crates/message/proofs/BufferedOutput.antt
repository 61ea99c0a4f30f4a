-- All output: with nothing that waits, and with a line added to what waits.
use Rattle.std.proofs.Common.{[], ◌≡◌, ℕ, List, ◌++◌, Option, Some, None, ap, ◌∙◌, sym, append_assoc, refl, append-nil}
use Rattle.std.specs.Io.KnownBytes.{Appends}
use Rattle.message.specs.BufferedOutput.{all_output}

pub adds_so_far : (contents : Option (List ℕ)) (old new line : List ℕ) → new ≡ old ++ line → Appends (all_output contents old) (all_output contents new) line
adds_so_far None old new line added = tt
adds_so_far (Some xs) old new line added = ap (λ ys. xs ++ ys) added ∙ sym (append_assoc xs old line)

pub none_waits : (contents : Option (List ℕ)) → all_output contents [] ≡ contents
none_waits None = refl
none_waits (Some bytes) = ap (λ (l : List ℕ). Some l) (append-nil bytes)
