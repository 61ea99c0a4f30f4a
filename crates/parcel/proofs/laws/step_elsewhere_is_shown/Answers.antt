-- A step changes the state only at and below its affinity, which is unrelated to the one whose parcels are out.
use Rattle.parcel.proofs.TreeHolds.{shows_still}
use Rattle.parcel.proofs.laws.step_elsewhere_is_shown.Goals as goal

pub returns : goal.returns
returns c = shows_still
