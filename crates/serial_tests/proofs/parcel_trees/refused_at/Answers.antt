-- A stripe is not of the kind of a volume.
use Rattle.std.proofs.Common.{[], ◌∷◌, subst}
use Rattle.affinity.proofs.Preorder.{path_unique}
use Rattle.parcel.specs.Fits.{IsKindOf}
use Rattle.parcel.specs.declared.parts.Parcels.TheVariants.{Stripe}
use Rattle.serial_tests.proofs.parcel_trees.refused_at.Goals as goal

pub restore-requires-clause-fits : goal.restore-requires-clause-fits
restore-requires-clause-fits c = λ q h kind.
    absurd (subst (λ r. IsKindOf r (Stripe c.args.stripe)) (path_unique c.args.tree.now.geometry q (0 ∷ 0 ∷ []) c.args.volume h c.requires) kind)
