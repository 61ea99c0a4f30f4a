-- A clean extent ends a run, which is written; the clean ones are on the device, so the whole image is there.
use Rattle.std.proofs.Common.{◌≡◌, ◌+◌, ◌<◌, true, false, length, get_or, refl, sym, ◌∙◌, ap, arith}
use Rattle.std.proofs.lemmas.Grind.{common_steps}
use Rattle.std.proofs.lemmas.Result.{on_ok_weaker}
use Rattle.oplog.proofs.Results.{err_is, on_ok_under}
use Rattle.disk.specs.Device.{moment_number}
use Rattle.disk.proofs.Calls.{after_sync}
use Rattle.image.specs.Pieces.{piece_count}
use Rattle.checkpoint.specs.Costs.{count_runs}
use Rattle.checkpoint.specs.Extents.{extent_at}
use Rattle.checkpoint.proofs.Costs.{run_closed, run_ended, run_failed, run_goes_on, runs_begun, takes_with}
use Rattle.checkpoint.proofs.Patches.{along_patch, patch_begun, patch_moments, patch_passed, patch_synced, patched}
use Rattle.checkpoint.proofs.ExtentLemmas.{extent_end, extent_after, extent_inside, extent_some}
use Rattle.device_map.specs.Layout.{image_size}
use Rattle.checkpoint.proofs.extents.write_image.Goals as goal
use Rattle.checkpoint.proofs.extents.write_image.Goals.{then-not-is_dirty+in_ok-write_run, else-not-is_dirty}

pub loop-n-init : goal.loop-n-init
loop-n-init g c = record {
  place = refl;
  order = omega arith;
  len = refl;
  faults = refl;
  runs = λ k. runs_begun c.args.dirty.now (moment_number (g.D.Disk.medium c.args.disk.now));
  so_far = λ k. patch_begun c.args.g.now c.args.area c.args.bytes.now (g.D.Disk.medium c.args.disk.now);
}

pub overflow_add-end : goal.overflow_add-end
overflow_add-end g c =
    let few : c.loop-n.n < piece_count c.args.g.now = grind (arith, common_steps) in
    omega (arith, extent_inside c.args.g.now c.loop-n.n few, c.requires.size, c.type_inv.bytes, c.loop-n.invariant.place, c.extent_size.ensures.size)

pub write_run-requires-clause-inside : goal.write_run-requires-clause-inside
write_run-requires-clause-inside g c =
    let few : c.loop-n.n < piece_count c.args.g.now = grind (arith, common_steps) in
    omega (arith, extent_inside c.args.g.now c.loop-n.n few, c.requires.size, c.loop-n.invariant.place)

pub returns-in_err-write_run-clause-any_moment : goal.returns-in_err-write_run-clause-any_moment
returns-in_err-write_run-clause-any_moment g c = λ k.
    patch_moments (c.loop-n.invariant.so_far k) (c.write_run.ensures.any_moment k)

pub loop-n-preserved : goal.loop-n-preserved
loop-n-preserved g c =
    let few : c.loop-n.n < piece_count c.args.g.now = grind (arith, common_steps) in
    let inside = extent_inside c.args.g.now c.loop-n.n few in
    let next = extent_after c.args.g.now c.loop-n.n in
    let place : c.loop-n.at + c.extent_size.result ≡ extent_at c.args.g.now (c.loop-n.n + 1) = (λ i. c.loop-n.invariant.place i + c.extent_size.ensures.size i) ∙ sym next in
    elim c.if-not-is_dirty.branch [
      | then-not-is_dirty+in_ok-write_run w ↦
          let clean : get_or c.args.dirty.now c.loop-n.n true ≡ false = grind (arith, common_steps) in
          record {
            place = w.at-is ∙ place;
            order = omega (arith, w.at-is, w.from-is);
            len = ap (λ d. length (g.D.Disk.medium d).now) w.disk-is ∙ w.write_run.ensures.call.len ∙ c.loop-n.invariant.len;
            faults = ap (λ d. (g.D.Disk.medium d).faults) w.disk-is ∙ w.in_ok-write_run.ensures.call.counts ∙ c.loop-n.invariant.faults;
            runs = λ k.
                run_closed (c.loop-n.invariant.runs k) (omega (arith, few, c.requires.dirty)) clean (omega (arith, w.at-is, w.from-is))
                (λ some. ap (λ d. moment_number (g.D.Disk.medium d)) w.disk-is ∙ w.in_ok-write_run.ensures.costs some k)
                (λ none. ap (λ d. moment_number (g.D.Disk.medium d)) (w.disk-is ∙ w.write_run.ensures.none none));
            so_far = λ k.
                along_patch w.from-is (ap (λ d. g.D.Disk.medium d) w.disk-is)
                (patch_passed c.loop-n.n c.args.dirty.now (c.requires.clean k) few clean c.loop-n.invariant.place (omega (arith, c.extent_size.ensures.size))
                (patched (c.loop-n.invariant.so_far k) (w.write_run.ensures.any_moment k) c.requires.area c.requires.size c.requires.long_enough
                c.loop-n.invariant.order (omega (arith, inside, c.loop-n.invariant.place)) (w.write_run.ensures.same k) (w.in_ok-write_run.ensures.written k)));
          }
      | else-not-is_dirty w ↦
          let is_dirty : get_or c.args.dirty.now c.loop-n.n true ≡ true = grind (arith, common_steps) in
          let some = extent_some c.args.g.now c.loop-n.n in
          record {
            place = w.at-is ∙ place;
            order = omega (arith, w.at-is, w.from-is, c.loop-n.invariant.order);
            len = ap (λ d. length (g.D.Disk.medium d).now) w.disk-is ∙ c.loop-n.invariant.len;
            faults = ap (λ d. (g.D.Disk.medium d).faults) w.disk-is ∙ c.loop-n.invariant.faults;
            runs = λ k.
                run_goes_on (c.loop-n.invariant.runs k) (omega (arith, few, c.requires.dirty)) is_dirty w.from-is
                (omega (arith, w.at-is, c.extent_size.ensures.size, some)) c.loop-n.invariant.order (ap (λ d. moment_number (g.D.Disk.medium d)) w.disk-is);
            so_far = λ k. along_patch w.from-is (ap (λ d. g.D.Disk.medium d) w.disk-is) (c.loop-n.invariant.so_far k);
          }
    ]

pub write_run-requires-2-clause-inside : goal.write_run-requires-2-clause-inside
write_run-requires-2-clause-inside g c =
    let all : c.loop-n.n ≡ piece_count c.args.g.now = grind (arith, common_steps) in
    omega (arith, ap (extent_at c.args.g.now) all ∙ extent_end c.args.g.now, c.requires.size, c.loop-n.invariant.place)

pub returns-in_err-write_run-2-clause-any_moment : goal.returns-in_err-write_run-2-clause-any_moment
returns-in_err-write_run-2-clause-any_moment g c = λ k.
    patch_moments (c.loop-n.invariant.so_far k) (c.write_run-2.ensures.any_moment k)

pub returns-clause-any_moment : goal.returns-clause-any_moment
returns-clause-any_moment g c = λ k.
    after_sync _ _ _ _ (patch_moments (c.loop-n.invariant.so_far k) (c.write_run-2.ensures.any_moment k)) c.sync_image.result (c.sync_image.ensures.syncs k)

pub returns-clause-written : goal.returns-clause-written
returns-clause-written g c =
    on_ok_weaker c.sync_image.result
    (λ synced k.
    let all : c.loop-n.n ≡ piece_count c.args.g.now = grind (arith, common_steps) in
    let end : c.loop-n.at ≡ image_size c.args.g.now = c.loop-n.invariant.place ∙ ap (extent_at c.args.g.now) all ∙ extent_end c.args.g.now in
    patch_synced c.requires.area c.requires.size c.requires.long_enough
    (along_patch (sym end) refl
    (patched (c.loop-n.invariant.so_far k) (c.write_run-2.ensures.any_moment k) c.requires.area c.requires.size c.requires.long_enough
    c.loop-n.invariant.order (omega (arith, end)) (c.write_run-2.ensures.same k) (c.in_ok-write_run-2.ensures.written k)))
    (synced k))
    (on_ok_under c.sync_image.result _ _ (λ k. (c.sync_image.ensures.syncs k).ok))

pub returns-in_err-write_run-clause-costs : goal.returns-in_err-write_run-clause-costs
returns-in_err-write_run-clause-costs g c =
    rw (err_is c.from_residual.ensures.1) (λ k.
    run_failed _ (c.loop-n.invariant.runs k) (λ some. c.in_err-write_run.ensures.costs some k)
    (λ none. ap (λ d. moment_number (g.D.Disk.medium d)) (c.write_run.ensures.none none)))

pub returns-in_err-write_run-2-clause-costs : goal.returns-in_err-write_run-2-clause-costs
returns-in_err-write_run-2-clause-costs g c =
    rw (err_is c.from_residual-in_err-write_run-2.ensures.1) (λ k.
    run_failed _ (c.loop-n.invariant.runs k) (λ some. c.in_err-write_run-2.ensures.costs some k)
    (λ none. ap (λ d. moment_number (g.D.Disk.medium d)) (c.write_run-2.ensures.none none)))

pub returns-clause-costs : goal.returns-clause-costs
returns-clause-costs g c = λ k.
    let all : c.loop-n.n ≡ piece_count c.args.g.now = grind (arith, common_steps) in
    let ended =
    run_ended (c.loop-n.invariant.runs k) (omega (arith, all, c.requires.dirty)) (λ some. c.in_ok-write_run-2.ensures.costs some k)
    (λ none. ap (λ d. moment_number (g.D.Disk.medium d)) (c.write_run-2.ensures.none none)) in
    takes_with c.sync_image.result _ _ _ (count_runs c.args.dirty.now + 1) (g.D.Disk.medium c.args.disk.now) (c.sync_image.ensures.costs k) (omega (arith, ended))
