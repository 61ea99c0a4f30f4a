-- Until the first sync is over, a crash leaves what one before it could; from then on, what it leaves while a synced device is opened.
use Rattle.std.proofs.Common.{ℕ, List, sym, subst, arith}
use Rattle.std.proofs.lemmas.Result.{IfOk-weaker, IfErr-weaker}
use Rattle.oplog.proofs.Results.{err_is}
use Rattle.recovery.specs.Header.{HasHeader}
use Rattle.recovery.specs.Refusals.{HasHeaderAndParts}
use Rattle.checkpoint.specs.OpeningSteps.{IsMadeOf}
use Rattle.checkpoint.proofs.Costs.{opening_after}
use Rattle.checkpoint.proofs.OpeningCrashImages.{never_synced, synced_then, unwritten_from, unwritten_then}
use Rattle.device_map.specs.Layout.{layout_of}
use Rattle.oplog.proofs.Beyond.{beyond_then}
use Rattle.checkpoint.proofs.opening.open_on.Goals as goal

pub returns-in_err-first_sync-clause-any_moment : goal.returns-in_err-first_sync-clause-any_moment
returns-in_err-first_sync-clause-any_moment g c = λ k. never_synced _ _ (c.first_sync.ensures.any_moment k)

pub returns-clause-any_moment : goal.returns-clause-any_moment
returns-clause-any_moment g c = λ k.
    synced_then (g.D.Disk.medium c.args.disk.now) (g.D.Disk.medium c.first_sync.new.disk) (g.D.Disk.medium c.open_synced.new.disk)
    (c.in_ok-first_sync.ensures.synced k) (c.first_sync.ensures.now k) (c.first_sync.ensures.any_moment k) (c.open_synced.ensures.any_moment k)

pub returns-clause-made_of : goal.returns-clause-made_of
returns-clause-made_of g c =
    IfOk-weaker c.open_synced.result _ _
    (λ p made k. subst (λ (l : List ℕ). IsMadeOf l p (g.D.Disk.medium c.open_synced.new.disk)) (c.first_sync.ensures.now k) (made k))
    c.open_synced.ensures.made_of

pub returns-clause-unwritten : goal.returns-clause-unwritten
returns-clause-unwritten g c =
    let w0 = g.D.Disk.medium c.args.disk.now in
    let w1 = g.D.Disk.medium c.first_sync.new.disk in
    let w2 = g.D.Disk.medium c.open_synced.new.disk in
    IfErr-weaker c.open_synced.result _ _
    (λ e is k.
    unwritten_from e w0 w1 w2 (c.first_sync.ensures.now k) (unwritten_then w0 w1 w2 (g.met.D.Disk.bytes c.args.disk.now) (c.in_ok-first_sync.ensures.synced k)
    (c.first_sync.ensures.now k) (c.first_sync.ensures.any_moment k)) (is k))
    c.open_synced.ensures.unwritten

pub returns-clause-memory : goal.returns-clause-memory
returns-clause-memory g c =
    IfErr-weaker c.open_synced.result _ _ (λ e told is k. subst (λ (l : List ℕ). HasHeaderAndParts l) (c.first_sync.ensures.now k) (told is k)) c.open_synced.ensures.memory

pub returns-in_err-first_sync-clause-beyond : goal.returns-in_err-first_sync-clause-beyond
returns-in_err-first_sync-clause-beyond g c = λ k h head. c.first_sync.ensures.beyond k (layout_of h)

pub returns-clause-beyond : goal.returns-clause-beyond
returns-clause-beyond g c = λ k h head.
    let w1 = g.D.Disk.medium c.first_sync.new.disk in
    beyond_then (layout_of h) (g.D.Disk.medium c.args.disk.now) w1 (g.D.Disk.medium c.open_synced.new.disk) (c.first_sync.ensures.beyond k (layout_of h))
    (c.open_synced.ensures.beyond k h (subst (λ (l : List ℕ). HasHeader h l) (sym (c.first_sync.ensures.now k)) head))

pub returns-in_err-first_sync-clause-costs : goal.returns-in_err-first_sync-clause-costs
returns-in_err-first_sync-clause-costs g c =
    rw (err_is c.from_residual.ensures.1) (λ k. omega (arith, c.in_err-first_sync.ensures.costs k))

pub returns-clause-costs : goal.returns-clause-costs
returns-clause-costs g c = λ k.
    opening_after c.open_synced.result (g.D.Disk.medium c.args.disk.now) (g.D.Disk.medium c.first_sync.new.disk)
    (g.D.Disk.medium c.open_synced.new.disk) (c.first_sync.ensures.now k) (c.in_ok-first_sync.ensures.costs k) (c.open_synced.ensures.costs k)
