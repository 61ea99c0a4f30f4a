-- All pieces are dirty, so the snapshot is the image of the whole state, and is written in one run.
use Rattle.std.proofs.Common.{Bool, List, length, refl, sym, ◌∙◌, ap, subst, arith, true≢false}
use Rattle.oplog.proofs.Results.{err_is}
use Rattle.affinity.specs.declared.geometry.Geometry.{Geometry}
use Rattle.image.specs.Image.{image_of, image_state}
use Rattle.image.proofs.ReadImage.{read_again}
use Rattle.image.specs.declared.layout.TheConstants.{VERSION}
use Rattle.checkpoint.specs.Costs.{count_runs}
use Rattle.checkpoint.specs.Extents.{AreAllDirty}
use Rattle.checkpoint.proofs.Costs.{one_run}
use Rattle.checkpoint.proofs.DirtyPieces.{whole_put}
use Rattle.checkpoint.proofs.Snapshots.{whole_again}
use Rattle.parcel.specs.Tree.{state_in}
use Rattle.checkpoint.proofs.opening.checkpoint_recovered.Goals as goal

pub returns-in_err-point_on-clause-snapshot : goal.returns-in_err-point_on-clause-snapshot
returns-in_err-point_on-clause-snapshot g c =
    whole_again (state_in c.args.parts.now.tree) _ c.requires.loaded.geometry c.requires.loaded.all c.deref.ensures.value
    c.update_snapshot.ensures.image (whole_put _ c.update_snapshot.ensures.size c.deref_mut.ensures.value c.deref_mut.ensures.len)
    ∙ sym (ap (λ (g : Geometry). image_of VERSION g (state_in c.args.parts.now.tree)) c.requires.loaded.geometry)

pub returns-clause-snapshot : goal.returns-clause-snapshot
returns-clause-snapshot g c =
    whole_again (state_in c.args.parts.now.tree) _ c.requires.loaded.geometry c.requires.loaded.all c.deref.ensures.value
    c.update_snapshot.ensures.image (whole_put _ c.update_snapshot.ensures.size c.deref_mut.ensures.value c.deref_mut.ensures.len)
    ∙ sym (ap (λ (g : Geometry). image_of VERSION g (state_in c.args.parts.now.tree)) c.requires.loaded.geometry)

pub returns-in_err-point_on-clause-buffers : goal.returns-in_err-point_on-clause-buffers
returns-in_err-point_on-clause-buffers g c =
    let put = whole_put _ c.update_snapshot.ensures.size c.deref_mut.ensures.value c.deref_mut.ensures.len in
    record { size = ap length put ∙ c.update_snapshot.ensures.size ∙ ap length c.deref_mut.ensures.value; flags = refl }

pub returns-clause-buffers : goal.returns-clause-buffers
returns-clause-buffers g c =
    let put = whole_put _ c.update_snapshot.ensures.size c.deref_mut.ensures.value c.deref_mut.ensures.len in
    record { size = ap length put ∙ c.update_snapshot.ensures.size ∙ ap length c.deref_mut.ensures.value; flags = refl }

pub point_on-requires-clause-image : goal.point_on-requires-clause-image
point_on-requires-clause-image g c = λ k.
    let spelled = whole_again (state_in c.args.parts.now.tree) _ c.requires.loaded.geometry c.requires.loaded.all c.deref.ensures.value
    c.update_snapshot.ensures.image (c.deref-2.ensures.value ∙ whole_put _ c.update_snapshot.ensures.size c.deref_mut.ensures.value c.deref_mut.ensures.len) in
    ap (image_state c.args.parts.now.halves.geometry) spelled
    ∙ read_again c.args.parts.now.halves.geometry _ (rw (← c.requires.loaded.geometry) c.requires.loaded.tree.state) ∙ sym (c.requires.recovers k)

pub point_on-requires-clause-clean : goal.point_on-requires-clause-clean
point_on-requires-clause-clean g c = λ k n few clean.
    let all = subst (λ (l : List Bool). AreAllDirty c.args.parts.now.halves.geometry l) (sym c.deref-3.ensures.value) c.requires.loaded.all in
    absurd (true≢false (sym (all n few) ∙ clean))

pub returns-in_err-point_on-clause-costs : goal.returns-in_err-point_on-clause-costs
returns-in_err-point_on-clause-costs g c =
    rw (err_is c.from_residual.ensures.1) (λ k.
    let one = ap count_runs c.deref-3.ensures.value ∙ one_run c.args.parts.now.halves.geometry c.args.parts.now.buffers.other_dirty.items c.requires.loaded.fit.other_dirty c.requires.loaded.all in
    omega (arith, one, c.in_err-point_on.ensures.costs k))

pub returns-clause-costs : goal.returns-clause-costs
returns-clause-costs g c = λ k.
    let one = ap count_runs c.deref-3.ensures.value ∙ one_run c.args.parts.now.halves.geometry c.args.parts.now.buffers.other_dirty.items c.requires.loaded.fit.other_dirty c.requires.loaded.all in
    omega (arith, one, c.in_ok-point_on.ensures.costs k)
