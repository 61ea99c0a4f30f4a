-- The loop looks at the number of the affinity and at those of all affinities below it in the tree.
use Rattle.std.proofs.lemmas.Grind.{common_steps}
use Rattle.std.proofs.Common.{arith}
use Rattle.run_queue.proofs.conflicts.conflicts_below.Goals as goal

pub loop-n-init : goal.loop-n-init
loop-n-init c = λ k low high. absurd (omega arith)

pub loop-n-preserved : goal.loop-n-preserved
loop-n-preserved c = grind (arith, common_steps)

pub returns-clause-none : goal.returns-clause-none
returns-clause-none c = grind (arith, common_steps)
