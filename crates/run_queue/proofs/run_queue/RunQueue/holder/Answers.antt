-- The message in the entry of the affinity's number is the one that is held there.
use Rattle.std.proofs.lemmas.Grind.{common_steps}
use Rattle.std.proofs.Common.{arith}
use Rattle.run_queue.proofs.QueueCalls.{none-holds, one-holds}
use Rattle.run_queue.proofs.run_queue.RunQueue.holder.Goals as goal

pub returns-in_err-queued-clause-none : goal.returns-in_err-queued-clause-none
returns-in_err-queued-clause-none c = grind (arith, common_steps, none-holds)

pub returns-clause-some : goal.returns-clause-some
returns-clause-some c = grind (arith, common_steps, one-holds)
