-- Parcels that fit are whole, so each node at and below their path is put back with them.
use Rattle.parcel.proofs.LendsAndRestores.{restored_is_in}
use Rattle.parcel.proofs.laws.restored_parcels_are_in.Goals as goal

pub returns : goal.returns
returns c = λ g p l old new. restored_is_in g p l old
