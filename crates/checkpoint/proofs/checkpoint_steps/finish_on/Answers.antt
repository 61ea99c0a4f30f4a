-- A cut is finished: the other area gets the image of what the named one holds without the other half's records, which are in force
-- before and after.
use Rattle.std.proofs.Common.{◌<◌, sym, ◌∙◌, subst, arith, true≢false}
use Rattle.std.proofs.lemmas.Result.{on_ok_weaker}
use Rattle.affinity.specs.declared.geometry.Geometry.{Geometry}
use Rattle.image.specs.Pieces.{piece_count}
use Rattle.checkpoint.specs.Images.{Imaged}
use Rattle.checkpoint.proofs.Costs.{one_run, takes_all, takes_most, takes_with}
use Rattle.checkpoint.proofs.IsCutFinished.{finish_image_moments, finish_moments, finished}
use Rattle.checkpoint.proofs.IsRefusedAlike.{finish_alike, image_alike}
use Rattle.oplog.proofs.Results.{on_ok}
use Rattle.oplog.proofs.Beyond.{beyond, beyond_then}
use Rattle.disk.specs.CrashImages.{CrashesChangeOnly}
use Rattle.oplog.specs.Changes.{IsSameBut, IsSameButRoot}
use Rattle.device_map.specs.Layout.{layout_of, image_part, other}
use Rattle.checkpoint.proofs.IsPointed.{other_imaged, other_written}
use Rattle.checkpoint.proofs.checkpoint_steps.finish_on.Given.{Over}
use Rattle.checkpoint.proofs.checkpoint_steps.finish_on.Goals.{After-flip_root}
use Rattle.checkpoint.proofs.checkpoint_steps.finish_on.Goals as goal

is_area : (g : Over) (c : After-flip_root g) → c.args.halves.now.named < 2
is_area g c = omega (arith, c.named.ensures.named, c.named.ensures.half)

writes : (g : Over) (c : After-flip_root g) → g.D.Disk.keeps
    → CrashesChangeOnly (g.D.Disk.medium c.args.disk.now) (g.D.Disk.medium c.write_image.new.disk) (IsSameBut (layout_of c.args.halves.now.geometry) (image_part (other c.args.halves.now.named)))
writes g c k = other_written _ _ c.geometry-g.ensures c.other-area.ensures c.named.ensures.named (c.write_image.ensures.any_moment k)

imaged : (g : Over) (c : After-flip_root g) → g.D.Disk.keeps
    → Imaged c.args.halves.now.geometry (other c.args.halves.now.named) c.args.bytes.now (g.D.Disk.medium c.args.disk.now) (g.D.Disk.medium c.write_image.new.disk)
imaged g c k =
    other_imaged _ _ _ c.geometry-g.ensures c.other-area.ensures c.named.ensures.named
    (on_ok c.write_image.result _ (sym c.is_err.ensures.value ∙ c.if-is_err.false) c.write_image.ensures.written k)

pub write_image-requires-clause-clean : goal.write_image-requires-clause-clean
write_image-requires-clause-clean g c = λ k n few clean.
    absurd (true≢false (sym (c.requires.all n (subst (λ (x : Geometry). n < piece_count x) c.geometry-g.ensures few)) ∙ clean))

pub returns-then-is_err-clause-any_moment : goal.returns-then-is_err-clause-any_moment
returns-then-is_err-clause-any_moment g c = λ k.
    finish_image_moments c.args.halves.now c.args.bytes.now _ (omega (arith, c.named.ensures.named, c.named.ensures.half)) (c.requires.unfinished k) _
    (other_written _ _ c.geometry-g.ensures c.other-area.ensures c.named.ensures.named (c.write_image.ensures.any_moment k))

pub returns-then-is_err-clause-alike : goal.returns-then-is_err-clause-alike
returns-then-is_err-clause-alike g c = λ k x reads held.
    image_alike c.args.halves.now.geometry c.args.halves.now.named (omega (arith, c.named.ensures.named, c.named.ensures.half)) x _ _ (c.requires.unfinished k).synced held
    (other_written _ _ c.geometry-g.ensures c.other-area.ensures c.named.ensures.named (c.write_image.ensures.any_moment k))

pub returns-then-is_err-clause-beyond : goal.returns-then-is_err-clause-beyond
returns-then-is_err-clause-beyond g c = λ k.
    beyond (layout_of c.args.halves.now.geometry) _ _ _ (λ o d h. h.rest)
    (other_written _ _ c.geometry-g.ensures c.other-area.ensures c.named.ensures.named (c.write_image.ensures.any_moment k))

pub returns-clause-any_moment : goal.returns-clause-any_moment
returns-clause-any_moment g c = λ k.
    let here = (goal.at.returns-clause-any_moment g c).After-flip_root in
    finish_moments c.args.halves.now c.args.bytes.now _ (is_area g here) (c.requires.unfinished k) _ (writes g here k) (g.met.D.Disk.bytes c.write_image.new.disk) (imaged g here k) _
    (c.flip_root.ensures.any_moment k)

pub returns-clause-alike : goal.returns-clause-alike
returns-clause-alike g c = λ k x reads held.
    let here = (goal.at.returns-clause-alike g c).After-flip_root in
    finish_alike c.args.halves.now.geometry c.args.halves.now.named (is_area g here) x _ _ (c.requires.unfinished k).synced held
    (g.met.D.Disk.bytes c.write_image.new.disk) c.args.bytes.now reads (imaged g here k) _ (writes g here k) (c.flip_root.ensures.any_moment k)

pub returns-clause-beyond : goal.returns-clause-beyond
returns-clause-beyond g c = λ k.
    let here = (goal.at.returns-clause-beyond g c).After-flip_root in
    let l = layout_of c.args.halves.now.geometry in
    beyond_then l _ _ _ (beyond l _ _ _ (λ o d h. h.rest) (writes g here k)) (beyond l _ _ (IsSameButRoot l) (λ o d h. h.same.rest) (c.flip_root.ensures.any_moment k))

pub returns-clause-finished : goal.returns-clause-finished
returns-clause-finished g c =
    let here = (goal.at.returns-clause-finished g c).After-flip_root in
    on_ok_weaker c.flip_root.result
    (λ flipped k.
    finished c.args.halves.now c.args.bytes.now _ (is_area g here) (c.requires.unfinished k) _ (writes g here k)
    (g.met.D.Disk.bytes c.write_image.new.disk) (imaged g here k) _ (flipped k))
    c.flip_root.ensures.flipped

pub returns-then-is_err-clause-costs : goal.returns-then-is_err-clause-costs
returns-then-is_err-clause-costs g c = λ k.
    let one = one_run c.args.halves.now.geometry c.args.dirty.now c.requires.dirty c.requires.all in
    omega (arith, one, takes_most c.write_image.result _ _ _ (c.write_image.ensures.costs k))

pub returns-clause-costs : goal.returns-clause-costs
returns-clause-costs g c = λ k.
    let wrote = takes_all c.write_image.result _ _ _ (sym c.is_err.ensures.value ∙ c.if-is_err.false) (c.write_image.ensures.costs k) in
    takes_with c.flip_root.result _ _ _ 4 (g.D.Disk.medium c.args.disk.now) (c.flip_root.ensures.costs k)
    (omega (arith, one_run c.args.halves.now.geometry c.args.dirty.now c.requires.dirty c.requires.all, wrote))
