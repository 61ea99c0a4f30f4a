-- The synced image and the records behind it recover to the same as the named area, so a torn root byte does no harm.
use Rattle.std.proofs.Common.{◌≡◌, ◌<◌, ℕ, sym, ◌∙◌, subst, arith}
use Rattle.disk.specs.Device.{Medium, synced}
use Rattle.oplog.specs.Log.{CountsLogFault, layout_of_log}
use Rattle.std.proofs.lemmas.Result.{on_ok_weaker}
use Rattle.oplog.proofs.Results.{on_ok}
use Rattle.oplog.proofs.Beyond.{beyond, beyond_sync, beyond_then}
use Rattle.oplog.specs.Changes.{IsSameButRoot, Flipped}
use Rattle.device_map.specs.Layout.{layout_of, other}
use Rattle.checkpoint.proofs.Costs.{faults_stay, takes_all, takes_most, takes_with}
use Rattle.checkpoint.proofs.IsCutBegun.{name_moments, named, sync_moments}
use Rattle.checkpoint.proofs.RecoversByArea.{named_below}
use Rattle.checkpoint.proofs.checkpoint_steps.flip_on.Given.{Over}
use Rattle.checkpoint.proofs.checkpoint_steps.flip_on.Goals.{After-flip_root}
use Rattle.checkpoint.proofs.checkpoint_steps.flip_on.Goals as goal

syncs : (g : Over) (c : After-flip_root g) → g.D.Disk.keeps → g.D.Disk.medium c.sync_image.new.disk ≡ synced (g.D.Disk.medium c.args.disk.now)
syncs g c k = on_ok c.sync_image.result _ (sym c.is_err.ensures.value ∙ c.if-is_err.false) (c.sync_image.ensures.syncs k).ok

is_area : (g : Over) (c : After-flip_root g) → g.D.Disk.keeps → c.args.halves.now.named < 2
is_area g c k = named_below c.args.halves.now.geometry c.args.halves.now.named _ _ (g.D.Disk.medium c.args.disk.now) (g.met.D.Disk.bytes c.args.disk.now) (c.requires.written k).by.recovers

pub returns-then-is_err-clause-any_moment : goal.returns-then-is_err-clause-any_moment
returns-then-is_err-clause-any_moment g c = λ k. sync_moments c.args.halves.now _ c.args.bytes.now (c.requires.written k) _ c.sync_image.result (c.sync_image.ensures.syncs k)

pub returns-then-is_err-clause-beyond : goal.returns-then-is_err-clause-beyond
returns-then-is_err-clause-beyond g c = λ k. beyond_sync (layout_of c.args.halves.now.geometry) _ _ c.sync_image.result (c.sync_image.ensures.syncs k)

pub returns-clause-any_moment : goal.returns-clause-any_moment
returns-clause-any_moment g c = λ k.
    let here = (goal.at.returns-clause-any_moment g c).After-flip_root in
    name_moments c.args.halves.now (g.D.Disk.medium c.args.disk.now) c.args.bytes.now (c.requires.written k) (is_area g here k) _ (g.met.D.Disk.bytes c.args.disk.now)
    (rw (← syncs g here k) (sync_moments c.args.halves.now _ c.args.bytes.now (c.requires.written k) _ c.sync_image.result (c.sync_image.ensures.syncs k)))
    (rw (← syncs g here k) (c.flip_root.ensures.any_moment k))

pub returns-clause-beyond : goal.returns-clause-beyond
returns-clause-beyond g c = λ k.
    let l = layout_of c.args.halves.now.geometry in
    beyond_then l _ _ _ (beyond_sync l _ _ c.sync_image.result (c.sync_image.ensures.syncs k)) (beyond l _ _ (IsSameButRoot l) (λ o d h. h.same.rest) (c.flip_root.ensures.any_moment k))

pub returns-clause-flipped : goal.returns-clause-flipped
returns-clause-flipped g c =
    let here = (goal.at.returns-clause-flipped g c).After-flip_root in
    on_ok_weaker c.flip_root.result
    (λ flipped k.
    named c.args.halves.now _ c.args.bytes.now (c.requires.written k) (is_area g here k) _ (g.met.D.Disk.bytes c.args.disk.now)
    (subst (λ (m : Medium). Flipped (layout_of_log c.args.halves.now) (other c.args.halves.now.named) m (g.D.Disk.medium c.flip_root.new.disk)) (syncs g here k) (flipped k))
    c.requires.usable.long_enough)
    c.flip_root.ensures.flipped

pub returns-then-is_err-clause-costs : goal.returns-then-is_err-clause-costs
returns-then-is_err-clause-costs g c = λ k. omega (arith, takes_most c.sync_image.result _ _ _ (c.sync_image.ensures.costs k))

pub returns-clause-costs : goal.returns-clause-costs
returns-clause-costs g c = λ k.
    let one = takes_all c.sync_image.result _ _ _ (sym c.is_err.ensures.value ∙ c.if-is_err.false) (c.sync_image.ensures.costs k) in
    takes_with c.flip_root.result _ _ _ 3 (g.D.Disk.medium c.args.disk.now) (c.flip_root.ensures.costs k) (omega (arith, one))

pub flip_root-requires : goal.flip_root-requires
flip_root-requires g c = record { usable = record { not_failed = c.requires.usable.not_failed; long_enough = omega (arith, c.requires.usable.long_enough, c.sync_image.ensures.call.len) } }

pub returns-clause-call : goal.returns-clause-call
returns-clause-call g c =
    let same = faults_stay c.sync_image.result (sym c.is_err.ensures.value ∙ c.if-is_err.false) c.sync_image.ensures.call.counts in
    record {
      counts = subst (λ (n : ℕ). CountsLogFault c.flip_root.result n (g.D.Disk.medium c.flip_root.new.disk).faults) same c.flip_root.ensures.call.counts;
      len = c.flip_root.ensures.call.len ∙ c.sync_image.ensures.call.len;
      device = c.flip_root.ensures.call.device;
    }
