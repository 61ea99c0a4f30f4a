-- At no number of the affinity before this one does `conflicts_at` hold.
use Rattle.std.proofs.Common.{◌≡◌, ◌<◌, ◌≤◌, ℕ, false}
use Rattle.run_queue.specs.RelatedNumbers.{conflicts_at}
use Rattle.run_queue.proofs.conflicts.conflicts_below.Given as goal

abbrev pub invariant-loop-n : goal.invariant-loop-n
invariant-loop-n l = (k : ℕ) → l.fn.a.number ≤ k → k < l.n → conflicts_at l.held.messages l.waiting.messages l.ticket k ≡ false
