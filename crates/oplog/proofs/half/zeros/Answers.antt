-- The first n of some zeros are n zeros.
use Rattle.std.proofs.lemmas.List.{take-replicate}
use Rattle.oplog.specs.declared.half.TheConstants.{MOST_BYTES_BEFORE_RECORDS}
use Rattle.oplog.proofs.half.zeros.Goals as goal

pub returns : goal.returns
returns c = take-replicate c.args.count MOST_BYTES_BEFORE_RECORDS 0 c.requires
