-- Parcels on which a message ran fit at the affinity from which they were lent.
use Rattle.std.proofs.Common.{subst}
use Rattle.affinity.specs.declared.geometry.Geometry.{Geometry}
use Rattle.affinity.specs.Interval.{Interval, IsAffinityOf}
use Rattle.affinity.specs.Path.{Path}
use Rattle.affinity.proofs.Preorder.{path_unique}
use Rattle.protocol.specs.declared.messages.Msg.{Msg}
use Rattle.protocol.specs.Messages.{path_of}
use Rattle.parcel.specs.Fits.{Fits, IsKindOf, IsRunnable}
use Rattle.parcel.specs.declared.parts.Parcels.{Parcels}

pub fits_where_lent : {g : Geometry} {m : Msg} {l : Parcels} {a : Interval} → IsAffinityOf g (path_of g m) a → IsRunnable g m l → (q : Path) → IsAffinityOf g q a → IsKindOf q l → Fits g q l
fits_where_lent {g} {m} {l} {a} h runnable q k kind = subst (λ r. Fits g r l) (path_unique g (path_of g m) q a h k) runnable.fits
