-- The ready entry of each of the numbers is updated, and stays right.
use Rattle.std.proofs.lemmas.Grind.{common_steps}
use Rattle.std.proofs.Common.{sym, refl, arith}
use Rattle.std.proofs.lemmas.Bool.{true≢false}
use Rattle.run_queue.proofs.ready_table.ReadyTable.update_each.Goals as goal

pub loop-n-init : goal.loop-n-init
loop-n-init c = record { stay = (refl, λ k right. right); done = λ k found. absurd (true≢false (sym found)) }

pub loop-n-preserved : goal.loop-n-preserved
loop-n-preserved c = grind (arith, common_steps)

pub returns-clause-right : goal.returns-clause-right
returns-clause-right c = grind (arith, common_steps)

pub returns-clause-others : goal.returns-clause-others
returns-clause-others c = c.loop-n.invariant.stay
