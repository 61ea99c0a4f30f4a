-- All pieces are dirty, so the snapshot is a whole image of the cut's state: that of the named image with the named half's records run on
-- it, and none of the other half's.
use Rattle.std.proofs.Common.{Bool, List, length, refl, sym, ◌∙◌, ap, subst}
use Rattle.image.specs.Image.{image_state}
use Rattle.image.proofs.ReadImage.{read_again}
use Rattle.checkpoint.specs.Extents.{AreAllDirty}
use Rattle.checkpoint.proofs.AreLoaded.{unfinished_cut}
use Rattle.checkpoint.proofs.DirtyPieces.{whole_put}
use Rattle.checkpoint.proofs.Snapshots.{whole_again}
use Rattle.parcel.specs.Tree.{state_in}
use Rattle.checkpoint.proofs.opening.finish_cut.Goals as goal

pub finish_on-requires-clause-all : goal.finish_on-requires-clause-all
finish_on-requires-clause-all g c = subst (λ (l : List Bool). AreAllDirty c.args.parts.now.halves.geometry l) (sym c.deref-3.ensures.value) c.requires.loaded.all

pub finish_on-requires-clause-unfinished : goal.finish_on-requires-clause-unfinished
finish_on-requires-clause-unfinished g c = λ k.
    unfinished_cut c.args.parts.now.halves _ _ _ (c.requires.recovers k) (c.requires.synced k) (rw (← c.requires.loaded.geometry) c.requires.loaded.tree.state)
    (whole_again (state_in c.args.parts.now.tree) _ c.requires.loaded.geometry c.requires.loaded.all c.deref.ensures.value
    c.update_snapshot.ensures.image (c.deref-2.ensures.value ∙ whole_put _ c.update_snapshot.ensures.size c.deref_mut.ensures.value c.deref_mut.ensures.len))

pub returns-clause-alike : goal.returns-clause-alike
returns-clause-alike g c = λ k.
    let spelled = whole_again (state_in c.args.parts.now.tree) _ c.requires.loaded.geometry c.requires.loaded.all c.deref.ensures.value
    c.update_snapshot.ensures.image (c.deref-2.ensures.value ∙ whole_put _ c.update_snapshot.ensures.size c.deref_mut.ensures.value c.deref_mut.ensures.len) in
    c.finish_on.ensures.alike k _ (ap (image_state c.args.parts.now.halves.geometry) spelled
    ∙ read_again c.args.parts.now.halves.geometry _ (rw (← c.requires.loaded.geometry) c.requires.loaded.tree.state)) (c.requires.recovers k)

pub returns-clause-buffers : goal.returns-clause-buffers
returns-clause-buffers g c =
    let snapshot = whole_put c.update_snapshot.new.bytes c.update_snapshot.ensures.size c.deref_mut.ensures.value c.deref_mut.ensures.len in
    record { size = ap length snapshot ∙ c.update_snapshot.ensures.size ∙ ap length c.deref_mut.ensures.value; flags = refl }
