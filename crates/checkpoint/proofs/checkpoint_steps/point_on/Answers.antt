-- While the other area is cleared and written, recovery reads the named one alone; once it is written, both areas recover to the same.
use Rattle.std.proofs.Common.{◌<◌, ap, sym, ◌∙◌, subst, arith}
use Rattle.std.proofs.lemmas.Result.{on_ok_weaker}
use Rattle.oplog.proofs.Results.{err_is, on_ok}
use Rattle.checkpoint.specs.Costs.{point_cost}
use Rattle.checkpoint.specs.Extents.{AgreeOnClean}
use Rattle.checkpoint.specs.Images.{Imaged, image_in}
use Rattle.checkpoint.proofs.Costs.{takes_all, takes_most, takes_with}
use Rattle.checkpoint.proofs.IsPointed.{clear_moments, flip_moments, image_moments, still_clean, clear_beyond, image_beyond, flip_beyond, other_imaged, other_written, pointed}
use Rattle.disk.specs.CrashImages.{CrashesChangeOnly}
use Rattle.oplog.specs.Changes.{Flipped, IsSameButRoot}
use Rattle.device_map.specs.Layout.{other}
use Rattle.oplog.specs.Log.{Log, layout_of_log}
use Rattle.checkpoint.proofs.checkpoint_steps.point_on.Given.{Over}
use Rattle.checkpoint.proofs.checkpoint_steps.point_on.Goals.{After-flip_root}
use Rattle.checkpoint.proofs.checkpoint_steps.point_on.Goals as goal

is_area : (g : Over) (c : After-flip_root g) → c.args.halves.now.named < 2
is_area g c = omega (arith, c.named.ensures.named, c.named.ensures.half)

imaged : (g : Over) (c : After-flip_root g) → g.D.Disk.keeps
    → Imaged c.args.halves.now.geometry (other c.args.halves.now.named) c.args.bytes.now (g.D.Disk.medium c.clear_other.new.disk) (g.D.Disk.medium c.write_image.new.disk)
imaged g c k =
    other_imaged _ _ _ c.geometry-g.ensures c.other-area.ensures c.named.ensures.named
    (on_ok c.write_image.result _ (sym c.is_err.ensures.value ∙ c.if-is_err.false) c.write_image.ensures.written k)

flips : (g : Over) (c : After-flip_root g) → g.D.Disk.keeps
    → CrashesChangeOnly (g.D.Disk.medium c.write_image.new.disk) (g.D.Disk.medium c.flip_root.new.disk) (IsSameButRoot (layout_of_log c.args.halves.now))
flips g c k =
    subst (λ (log : Log). CrashesChangeOnly (g.D.Disk.medium c.write_image.new.disk) (g.D.Disk.medium c.flip_root.new.disk) (IsSameButRoot (layout_of_log log)))
    c.in_ok-clear_other.ensures.log (c.flip_root.ensures.any_moment k)

pub returns-in_err-clear_other-clause-any_moment : goal.returns-in_err-clear_other-clause-any_moment
returns-in_err-clear_other-clause-any_moment g c = λ k.
    clear_moments c.args.halves.now (omega (arith, c.named.ensures.named, c.named.ensures.half)) _ _ (c.requires.alone k) (c.clear_other.ensures.any_moment k)

pub returns-in_err-clear_other-clause-beyond : goal.returns-in_err-clear_other-clause-beyond
returns-in_err-clear_other-clause-beyond g c = λ k.
    clear_beyond c.args.halves.now (omega (arith, c.named.ensures.named, c.named.ensures.half)) _ _ (c.requires.alone k) (c.clear_other.ensures.any_moment k)

pub write_image-requires-clause-clean : goal.write_image-requires-clause-clean
write_image-requires-clause-clean g c = λ k.
    subst (λ (t : Type 0). t)
    (λ i. AgreeOnClean (sym c.geometry-g.ensures i) c.args.dirty.now
    (image_in (sym c.geometry-g.ensures i) (sym (c.other-area.ensures ∙ ap other c.named.ensures.named) i) (g.D.Disk.medium c.clear_other.new.disk)) c.args.bytes.now)
    (still_clean c.args.halves.now.geometry (other c.args.halves.now.named) c.args.dirty.now c.args.bytes.now (omega arith)
    (c.in_ok-clear_other.ensures.cleared k) (c.requires.clean k))

pub returns-then-is_err-clause-any_moment : goal.returns-then-is_err-clause-any_moment
returns-then-is_err-clause-any_moment g c = λ k.
    image_moments c.args.halves.now (omega (arith, c.named.ensures.named, c.named.ensures.half)) _ _ (c.requires.alone k) (c.clear_other.ensures.any_moment k) _
    (other_written _ _ c.geometry-g.ensures c.other-area.ensures c.named.ensures.named (c.write_image.ensures.any_moment k))

pub returns-then-is_err-clause-beyond : goal.returns-then-is_err-clause-beyond
returns-then-is_err-clause-beyond g c = λ k.
    image_beyond c.args.halves.now (omega (arith, c.named.ensures.named, c.named.ensures.half)) _ _ (c.requires.alone k) (c.clear_other.ensures.any_moment k) _
    (other_written _ _ c.geometry-g.ensures c.other-area.ensures c.named.ensures.named (c.write_image.ensures.any_moment k))

pub returns-clause-any_moment : goal.returns-clause-any_moment
returns-clause-any_moment g c = λ k.
    let here = (goal.at.returns-clause-any_moment g c).After-flip_root in
    flip_moments c.args.halves.now (is_area g here) _ _ (c.requires.alone k) (c.clear_other.ensures.any_moment k)
    _ (other_written _ _ c.geometry-g.ensures c.other-area.ensures c.named.ensures.named (c.write_image.ensures.any_moment k)) c.args.bytes.now
    (c.requires.image k) (c.in_ok-clear_other.ensures.cleared k)
    (imaged g here k) _
    (flips g here k)

pub returns-clause-beyond : goal.returns-clause-beyond
returns-clause-beyond g c = λ k.
    let here = (goal.at.returns-clause-beyond g c).After-flip_root in
    flip_beyond c.args.halves.now (is_area g here) _ _ (c.requires.alone k) (c.clear_other.ensures.any_moment k) _
    (other_written _ _ c.geometry-g.ensures c.other-area.ensures c.named.ensures.named (c.write_image.ensures.any_moment k)) _
    (flips g here k)

pub returns-clause-pointed : goal.returns-clause-pointed
returns-clause-pointed g c =
    let here = (goal.at.returns-clause-pointed g c).After-flip_root in
    on_ok_weaker c.flip_root.result
    (λ flipped k.
    pointed c.args.halves.now (is_area g here) _ _ (c.requires.alone k) (c.clear_other.ensures.any_moment k)
    _ (other_written _ _ c.geometry-g.ensures c.other-area.ensures c.named.ensures.named (c.write_image.ensures.any_moment k)) c.args.bytes.now
    (c.requires.image k) (c.in_ok-clear_other.ensures.cleared k)
    (imaged g here k)
    _ (g.met.D.Disk.bytes c.write_image.new.disk) c.requires.usable.long_enough
    (subst (λ (log : Log). Flipped (layout_of_log log) (other log.named) (g.D.Disk.medium c.write_image.new.disk) (g.D.Disk.medium c.flip_root.new.disk)) c.in_ok-clear_other.ensures.log
    (flipped k)))
    c.flip_root.ensures.flipped

pub returns-in_err-clear_other-clause-costs : goal.returns-in_err-clear_other-clause-costs
returns-in_err-clear_other-clause-costs g c =
    rw (err_is c.from_residual.ensures.1) (λ k. omega (arith, c.in_err-clear_other.ensures.costs k))

pub returns-then-is_err-clause-costs : goal.returns-then-is_err-clause-costs
returns-then-is_err-clause-costs g c = λ k.
    omega (arith, takes_most c.write_image.result _ _ _ (c.write_image.ensures.costs k), c.in_ok-clear_other.ensures.costs k)

pub returns-clause-costs : goal.returns-clause-costs
returns-clause-costs g c = λ k.
    let wrote = takes_all c.write_image.result _ _ _ (sym c.is_err.ensures.value ∙ c.if-is_err.false) (c.write_image.ensures.costs k) in
    takes_with c.flip_root.result _ _ _ (point_cost c.args.dirty.now) (g.D.Disk.medium c.args.disk.now) (c.flip_root.ensures.costs k)
    (omega (arith, wrote, c.in_ok-clear_other.ensures.costs k))
