-- No entry is set at the numbers so far.
use Rattle.std.proofs.Common.{◌≡◌, ◌≤◌, replicate, None, vec_capacity}
use Rattle.run_queue.proofs.ready_table.ReadyTable.new.Given as goal

abbrev pub invariant-loop : goal.invariant-loop
invariant-loop l = record { none : l.ready.items ≡ replicate l.counter None; room : l.numbers ≤ vec_capacity l.ready }
