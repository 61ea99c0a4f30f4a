-- No mark lies outside the range and all inside it go, so that none is left.
use Rattle.std.proofs.lemmas.Grind.{common_steps}
use Rattle.std.proofs.Common.{arith}
use Rattle.std.proofs.lemmas.List.{drop-replicate, take-replicate}
use Rattle.disk.proofs.SameOutside.{refreshed}
use Rattle.disk.proofs.ranges.clear.Goals as goal

pub returns : goal.returns
returns c = grind (arith, common_steps, drop-replicate, take-replicate, refreshed)
