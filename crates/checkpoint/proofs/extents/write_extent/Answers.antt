-- The sizes of the extents before it sum up to its place, and there one write patches the image.
use Rattle.std.proofs.Common.{◌≡◌, ◌+◌, ◌-◌, ℕ, List, sym, ◌∙◌, ap, arith}
use Rattle.std.proofs.lemmas.Result.{on_ok_weaker}
use Rattle.disk.specs.Device.{overlaid}
use Rattle.checkpoint.specs.Images.{image_in}
use Rattle.checkpoint.specs.Extents.{extent_at, extent_size}
use Rattle.checkpoint.proofs.Patches.{image_long, one_patched}
use Rattle.checkpoint.proofs.ExtentLemmas.{extent_after, extent_inside, extent_rises, extent_some}
use Rattle.device_map.specs.Layout.{slice}
use Rattle.checkpoint.proofs.extents.write_extent.Goals as goal

pub loop-i-preserved : goal.loop-i-preserved
loop-i-preserved g c = (λ j. c.loop-i.invariant j + c.extent_size-at.ensures.size j) ∙ sym (extent_after c.args.g.now c.loop-i.i)

pub overflow_add-at : goal.overflow_add-at
overflow_add-at g c =
    let rises = extent_rises c.args.g.now (c.loop-i.i + 1) c.args.n (omega arith) in
    let inside = extent_inside c.args.g.now c.args.n c.requires.n in
    omega (arith, extent_after c.args.g.now c.loop-i.i, rises, inside, c.requires.size, c.type_inv.bytes, c.loop-i.invariant, c.extent_size-at.ensures.size)

pub overflow_add-at-2 : goal.overflow_add-at-2
overflow_add-at-2 g c =
    let last : c.loop-i.i ≡ c.args.n = omega arith in
    let place : c.loop-i.at ≡ extent_at c.args.g.now c.args.n = c.loop-i.invariant ∙ ap (extent_at c.args.g.now) last in
    omega (arith, place, extent_inside c.args.g.now c.args.n c.requires.n, c.requires.size, c.type_inv.bytes, c.extent_size.ensures.size)

pub write_run-requires-clause-inside : goal.write_run-requires-clause-inside
write_run-requires-clause-inside g c =
    let last : c.loop-i.i ≡ c.args.n = omega arith in
    let place : c.loop-i.at ≡ extent_at c.args.g.now c.args.n = c.loop-i.invariant ∙ ap (extent_at c.args.g.now) last in
    omega (arith, place, extent_inside c.args.g.now c.args.n c.requires.n, c.requires.size, c.extent_size.ensures.size)

pub returns-clause-written : goal.returns-clause-written
returns-clause-written g c =
    on_ok_weaker c.write_run.result
    (λ written k.
    let last : c.loop-i.i ≡ c.args.n = omega arith in
    let place : c.loop-i.at ≡ extent_at c.args.g.now c.args.n = c.loop-i.invariant ∙ ap (extent_at c.args.g.now) last in
    let count : c.loop-i.at + c.extent_size.result - c.loop-i.at ≡ extent_size c.args.g.now c.args.n = omega (arith, c.extent_size.ensures.size) in
    let old : List ℕ = image_in c.args.g.now c.args.area (g.D.Disk.medium c.args.disk.now) in
    one_patched c.requires.n c.requires.size (image_long c.args.g.now c.args.area (g.D.Disk.medium c.args.disk.now) c.requires.area c.requires.long_enough) place
    (written k ∙ ap (λ (m : ℕ). overlaid old c.loop-i.at (slice c.args.bytes.now c.loop-i.at m)) count))
    c.write_run.ensures.written

pub returns-clause-costs : goal.returns-clause-costs
returns-clause-costs g c =
    λ k. c.write_run.ensures.costs (omega (arith, extent_some c.args.g.now c.args.n, c.extent_size.ensures.size)) k
