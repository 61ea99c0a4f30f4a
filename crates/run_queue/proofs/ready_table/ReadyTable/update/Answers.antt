-- A number that the ready table has gets the right entry, and at other numbers no message waits.
use Rattle.std.proofs.lemmas.Grind.{common_steps}
use Rattle.std.proofs.lemmas.List.{get_or_past}
use Rattle.std.proofs.Common.{arith}
use Rattle.run_queue.proofs.ready_table.ReadyTable.update.Goals as goal

pub returns-else-number-len-clause-right : goal.returns-else-number-len-clause-right
returns-else-number-len-clause-right c = grind (arith, common_steps, get_or_past)
