-- The place is that of the affinity, and each affinity has one path.
use Rattle.std.proofs.Common.{sym}
use Rattle.affinity.proofs.Preorder.{path_unique}
use Rattle.parcel.proofs.LendsAndRestores.{lent_from_taken, none_either_way}
use Rattle.parcel.proofs.tree.Tree.lend.Goals as goal

pub returns-in_err-parcels-clause-none : goal.returns-in_err-parcels-clause-none
returns-in_err-parcels-clause-none c =
    none_either_way c.from_residual.result (rw (sym c.self.view_is) (λ p h. rw (sym (path_unique _ _ p c.args.a c.place-place.ensures h)) c.in_err-parcels.ensures.nodes))

pub returns-clause-some : goal.returns-clause-some
returns-clause-some c =
    rw (sym c.self.view_is) (λ p h. rw (sym (path_unique _ _ p c.args.a c.place-place.ensures h))
    (lent_from_taken c.self.inside.root c.place-place.ensures.path c.in_ok-parcels.ensures.nodes c.standing_at-standing.ensures))
