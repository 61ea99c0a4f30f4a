-- A related affinity is one of those below or one of those above.
use Rattle.std.proofs.Common.{arith}
use Rattle.std.proofs.lemmas.Grind.{common_steps}
use Rattle.std.proofs.lemmas.Bool.{or_cases}
use Rattle.run_queue.proofs.AffinitiesAbove.{are_above}
use Rattle.run_queue.proofs.ready_table.ReadyTable.update_related.Goals as goal

pub returns-clause-near : goal.returns-clause-near
returns-clause-near c = grind (arith, common_steps, are_above, or_cases)
