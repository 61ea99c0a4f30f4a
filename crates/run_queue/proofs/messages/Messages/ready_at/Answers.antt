-- All that wait are at affinities of the geometry, so the first one at a number is too.
use Rattle.std.proofs.Common.{arith}
use Rattle.std.proofs.lemmas.Grind.{common_steps}
use Rattle.run_queue.proofs.Finds.{find-all}
use Rattle.run_queue.proofs.Ready.{none-at}
use Rattle.run_queue.proofs.messages.Messages.ready_at.Goals as goal

pub is_conflict_free-requires-clause-placed : goal.is_conflict_free-requires-clause-placed
is_conflict_free-requires-clause-placed c = grind (arith, common_steps, find-all)

pub returns-then-is_conflict_free-clause-none : goal.returns-then-is_conflict_free-clause-none
returns-then-is_conflict_free-clause-none c = grind (arith, common_steps, none-at)
