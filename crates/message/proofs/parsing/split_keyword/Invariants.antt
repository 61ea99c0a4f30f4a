-- No byte so far is a space.
use Rattle.std.proofs.Common.{◌≡◌, ℕ, ◌<◌, get_or}
use Rattle.message.proofs.parsing.split_keyword.Given as goal

abbrev pub invariant-loop-end : goal.invariant-loop-end
invariant-loop-end l = (k : ℕ) → k < l.end → get_or l.line k 0 ≡ 32 → ⊥
