-- The ready entries at earlier numbers are right.
use Rattle.std.proofs.Common.{◌≤◌, ◌<◌, ℕ}
use Rattle.run_queue.specs.ReadyTable.{IsEntryRight, StayRight}
use Rattle.run_queue.proofs.ready_table.ReadyTable.update_below.Given as goal

abbrev pub invariant-loop-n : goal.invariant-loop-n
invariant-loop-n l = record {
  stay : StayRight l.messages.held l.messages.waiting l.initial.self l.self;
  done : (k : ℕ) → l.fn.a.number ≤ k → k < l.n → IsEntryRight l.messages.held l.messages.waiting l.self k;
}
