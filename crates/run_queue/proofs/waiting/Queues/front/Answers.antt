-- The first slot of the chain has the first message of the queue.
use Rattle.std.proofs.Common.{arith}
use Rattle.std.proofs.lemmas.Grind.{common_steps}
use Rattle.run_queue.proofs.Chains.{front-none, front-some}
use Rattle.run_queue.proofs.waiting.Queues.front.Goals as goal

pub returns-in_err-i-clause-first : goal.returns-in_err-i-clause-first
returns-in_err-i-clause-first c = grind (arith, common_steps, front-none)

pub returns-clause-first : goal.returns-clause-first
returns-clause-first c = grind (arith, common_steps, front-some)
