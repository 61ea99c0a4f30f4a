-- Whatever is left of the chain byte puts the other half in force or not, and that half is empty.
use Rattle.oplog.proofs.AfterCrash.{chain_by_area, chained_by_area}
use Rattle.oplog.proofs.laws.a_torn_chain_does_no_harm.Goals as goal

pub returns-clause-torn : goal.returns-clause-torn
returns-clause-torn g c = chain_by_area

pub returns-clause-chained : goal.returns-clause-chained
returns-clause-chained g c = chained_by_area
