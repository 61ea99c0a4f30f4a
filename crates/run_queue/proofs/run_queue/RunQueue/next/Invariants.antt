-- The best ready message so far is the first that may be dispatched at a number of an earlier chunk.
use Rattle.std.proofs.Common.{◌≡◌, ◌*◌, min}
use Rattle.run_queue.specs.ReadyTable.{rank_of, ready_in}
use Rattle.run_queue.specs.declared.ready_table.TheConstants.{CHUNK, LAST_RANK}
use Rattle.run_queue.proofs.Earliest.{first_below}
use Rattle.run_queue.proofs.run_queue.RunQueue.next.Given as goal

abbrev pub invariant-loop-chunk : goal.invariant-loop-chunk
invariant-loop-chunk l = record {
  best : ready_in l.self-inside.ready_table l.best
      ≡ first_below l.log_has_room l.self-inside.messages.held l.self-inside.messages.waiting (CHUNK * l.chunk);
  bound : l.bound ≡ min (rank_of (ready_in l.self-inside.ready_table l.best)) LAST_RANK;
}
