-- At no number before this one does `conflicts_at` hold.
use Rattle.std.proofs.Common.{◌≡◌, false, take}
use Rattle.std.specs.List.{list_any}
use Rattle.run_queue.specs.RelatedNumbers.{conflicts_at}
use Rattle.run_queue.proofs.conflicts.conflicts_at_any.Given as goal

abbrev pub invariant-loop-n : goal.invariant-loop-n
invariant-loop-n l = list_any (conflicts_at l.held.messages l.waiting.messages l.ticket) (take l.n-index l.numbers) ≡ false
