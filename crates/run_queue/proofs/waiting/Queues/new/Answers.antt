-- No message waits in an empty arena.
use Rattle.std.proofs.Common.{arith}
use Rattle.std.proofs.lemmas.Grind.{common_steps}
use Rattle.std.proofs.lemmas.List.{length-replicate}
use Rattle.run_queue.proofs.Chains.{start-waiting, start-queued}
use Rattle.run_queue.proofs.waiting.Queues.new.Goals as goal

pub invariant_of-result : goal.invariant_of-result
invariant_of-result c = grind (arith, common_steps, start-queued)

pub returns : goal.returns
returns c = rw (c.in_ok-with_capacity.ensures.arena, start-waiting c.args.capacity c.args.numbers) (simp length-replicate)
