-- Each rank of the chunk was looked at, unless the table ends before its number.
use Rattle.std.proofs.lemmas.Grind.{common_steps}
use Rattle.std.proofs.Common.{arith}
use Rattle.run_queue.proofs.ready_table.least_from.Goals as goal

pub returns : goal.returns
returns c i below = grind (arith, common_steps)
