-- There is a queue and an entry for each affinity number of any geometry.
use Rattle.std.proofs.Common.{arith}
use Rattle.run_queue.proofs.QueueCalls.{queued-start}
use Rattle.run_queue.proofs.messages.Messages.new.Goals as goal

pub invariant_of-result : goal.invariant_of-result
invariant_of-result c = rw (c.in_ok-waiting.ensures, c.in_ok-held.ensures) (queued-start c.args.geometry.now c.args.slots 357 (omega arith))
