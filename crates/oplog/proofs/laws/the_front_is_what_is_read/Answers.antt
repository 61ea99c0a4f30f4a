-- The front has the records of its half from the first on, each at its own place.
use Rattle.oplog.proofs.PartsRead.{front_record}
use Rattle.oplog.proofs.laws.the_front_is_what_is_read.Goals as goal

pub returns : goal.returns
returns c = front_record
