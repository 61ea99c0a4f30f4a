-- What has been gathered so far, and which slot comes next.
use Rattle.std.proofs.Common.{◌≡◌, ◌≤◌, length, take, drop}
use Rattle.std.specs.Prelude.{vec_capacity}
use Rattle.arena.specs.Lists.{first_of}
use Rattle.arena.specs.ArenaView.{chain_at}
use Rattle.scheduler.specs.HasLogged.{changing_in, recorded_in}
use Rattle.scheduler.specs.declared.core_memory.TheConstants.{RAN}
use Rattle.scheduler.proofs.log_batch.collect_recorded.Given as goal

abbrev pub invariant-loop : goal.invariant-loop
invariant-loop l = record {
  at : l.at ≡ first_of (drop l.counter (chain_at l.slots RAN));
  found : l.found ≡ changing_in l.slots (take l.counter (chain_at l.slots RAN));
  few : l.found ≤ l.counter;
  batch : l.batch.items ≡ recorded_in l.slots l.replies (take l.counter (chain_at l.slots RAN));
  short : length l.batch.items ≤ l.counter;
  capacity : vec_capacity l.batch ≡ vec_capacity l.initial.batch;
}
