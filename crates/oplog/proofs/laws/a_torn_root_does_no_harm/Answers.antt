-- Whatever is left of the root byte names one of the two areas, and both recover to the same.
use Rattle.oplog.proofs.AfterCrash.{torn_root_recovers, flip_by_area}
use Rattle.oplog.proofs.laws.a_torn_root_does_no_harm.Goals as goal

pub returns-clause-torn : goal.returns-clause-torn
returns-clause-torn g c = torn_root_recovers

pub returns-clause-flipped : goal.returns-clause-flipped
returns-clause-flipped g c = flip_by_area
