-- The place is that of the affinity, and each affinity has one path.
use Rattle.std.proofs.Common.{arith, sym}
use Rattle.affinity.proofs.Preorder.{path_unique}
use Rattle.parcel.proofs.LendsAndRestores.{map_result, restored_from_put}
use Rattle.parcel.proofs.tree.Tree.restore.Goals as goal

pub put_at-requires-clause-parcels : goal.put_at-requires-clause-parcels
put_at-requires-clause-parcels c = grind arith

pub returns-clause-ok : goal.returns-clause-ok
returns-clause-ok c =
    rw (sym c.self.view_is) (map_result c.put_at.result (λ r put q h. rw (sym (path_unique _ _ q c.args.a c.place-place.ensures h)) (restored_from_put _ _ c.args.p _ _ put))
    (λ r k. tt) c.put_at.ensures.nodes)

pub returns-clause-back : goal.returns-clause-back
returns-clause-back c = map_result c.put_at.result (λ r k. tt) (λ r k. k.back) c.put_at.ensures.nodes

pub returns-clause-err : goal.returns-clause-err
returns-clause-err c =
    rw (sym c.self.view_is) (map_result c.put_at.result (λ r k. tt) (λ r k q h. rw (sym (path_unique _ _ q c.args.a c.place-place.ensures h)) k.why) c.put_at.ensures.nodes)

pub returns-clause-same : goal.returns-clause-same
returns-clause-same c = rw (sym c.self.view_is) (map_result c.put_at.result (λ r k. tt) (λ r k. k.same) c.put_at.ensures.nodes)
