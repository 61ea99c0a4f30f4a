-- Nothing that is out is related to the place: so all at it, above it and below it is in, and what is lent shows the state.
use Rattle.parcel.proofs.TreeHolds.{can_be_lent, lent_shows, lent_holds, holds_alike}
use Rattle.parcel.proofs.laws.place_apart_is_lent.Goals as goal

pub returns-clause-some : goal.returns-clause-some
returns-clause-some c = λ g out p n x h apart. can_be_lent g out p apart n x h

pub returns-clause-shows : goal.returns-clause-shows
returns-clause-shows c = λ g out p t l n lent x h apart. lent_shows g out p apart t l n lent x h

pub returns-clause-holds : goal.returns-clause-holds
returns-clause-holds c = λ g out p t l n lent x h apart. lent_holds g out p apart t l n lent x h

pub returns-clause-alike : goal.returns-clause-alike
returns-clause-alike c = holds_alike
