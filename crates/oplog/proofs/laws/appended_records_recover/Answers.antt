-- The first m new records follow those in force, so that recovery runs them on what it came to before.
use Rattle.oplog.proofs.AfterCrash.{append_recovers, all_by_area}
use Rattle.oplog.proofs.laws.appended_records_recover.Goals as goal

pub returns-clause-some : goal.returns-clause-some
returns-clause-some g c = append_recovers

pub returns-clause-all : goal.returns-clause-all
returns-clause-all g c = all_by_area
