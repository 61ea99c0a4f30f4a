-- No message is held at any number.
use Rattle.std.proofs.lemmas.Grind.{common_steps}
use Rattle.std.proofs.Common.{arith}
use Rattle.run_queue.proofs.HeldMessages.{start-stand, start-view}
use Rattle.run_queue.proofs.holders.Holders.new.Goals as goal

pub invariant_of-result : goal.invariant_of-result
invariant_of-result c = rw c.loop.invariant.none (start-stand c.loop.counter 0)

pub returns : goal.returns
returns c = grind (arith, common_steps, start-view)
