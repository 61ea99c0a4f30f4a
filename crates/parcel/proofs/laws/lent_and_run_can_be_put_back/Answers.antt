-- What was lent left its place out, and a run leaves parcels that the message can run on again: so they fit there.
use Rattle.parcel.proofs.TreeHolds.{lent_is_out, ran_goes_back}
use Rattle.parcel.proofs.LendsAndRestores.{kind_of}
use Rattle.parcel.proofs.laws.lent_and_run_can_be_put_back.Goals as goal

pub returns-clause-out : goal.returns-clause-out
returns-clause-out c = lent_is_out

pub returns-clause-kind : goal.returns-clause-kind
returns-clause-kind c = kind_of

pub returns-clause-ran : goal.returns-clause-ran
returns-clause-ran c = ran_goes_back
