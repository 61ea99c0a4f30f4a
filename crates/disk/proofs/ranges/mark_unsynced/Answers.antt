-- All of the range is marked, and the marks before and behind it stay.
use Rattle.std.proofs.lemmas.Grind.{common_steps}
use Rattle.std.proofs.Common.{arith}
use Rattle.std.proofs.lemmas.List.{length-replicate}
use Rattle.disk.proofs.Overlays.{overlaid_part}
use Rattle.disk.proofs.ranges.mark_unsynced.Goals as goal

pub returns-clause-marked : goal.returns-clause-marked
returns-clause-marked c = grind (arith, common_steps, overlaid_part, length-replicate)
