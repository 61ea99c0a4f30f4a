-- The ready entries at the numbers so far are right.
use Rattle.std.proofs.Common.{◌≡◌, ◌==◌, ℕ, true, take}
use Rattle.std.specs.List.{list_any}
use Rattle.run_queue.specs.ReadyTable.{IsEntryRight, StayRight}
use Rattle.run_queue.proofs.ready_table.ReadyTable.update_each.Given as goal

abbrev pub invariant-loop-n : goal.invariant-loop-n
invariant-loop-n l = record {
  stay : StayRight l.messages.held l.messages.waiting l.initial.self l.self;
  done : (k : ℕ) → list_any (λ m. m == k) (take l.n-index l.numbers) ≡ true → IsEntryRight l.messages.held l.messages.waiting l.self k;
}
