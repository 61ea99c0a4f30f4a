-- The first n of some open gates are n open gates.
use Rattle.std.proofs.lemmas.List.{take-replicate}
use Rattle.oplog.specs.declared.half.TheConstants.{RECORDS_PER_WRITE}
use Rattle.oplog.proofs.half.ones.Goals as goal

pub returns : goal.returns
returns c = take-replicate c.args.count RECORDS_PER_WRITE 1 c.requires
