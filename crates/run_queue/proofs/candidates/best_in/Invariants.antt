-- The best one so far is the earliest of those before this number.
use Rattle.std.proofs.Common.{◌≡◌, ◌*◌, ◌-◌, ◌≤◌, min}
use Rattle.run_queue.specs.RunQueue.{has_room}
use Rattle.run_queue.specs.ReadyTable.{earliest_from, rank_of, ready_in}
use Rattle.run_queue.specs.declared.ready_table.TheConstants.{CHUNK, LAST_RANK}
use Rattle.run_queue.proofs.candidates.best_in.Given as goal

abbrev pub invariant-loop-number : goal.invariant-loop-number
invariant-loop-number l = record {
  best : ready_in l.ready_table l.found ≡ earliest_from (has_room l.log_has_room) l.ready_table (CHUNK * l.chunk) (l.number - CHUNK * l.chunk) (ready_in l.ready_table l.best);
  from : CHUNK * l.chunk ≤ l.number;
  bound : l.bound ≡ min (rank_of (ready_in l.ready_table l.found)) LAST_RANK;
}
