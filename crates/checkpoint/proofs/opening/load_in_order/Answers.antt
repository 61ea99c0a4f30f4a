-- Without a cut in progress the named area holds the state; else the cut is finished, and the records behind it are run.
use Rattle.std.proofs.Common.{ℕ, List, length, false, refl, sym, ◌∙◌, ap, subst, arith}
use Rattle.oplog.proofs.Results.{err_is}
use Rattle.std.proofs.lemmas.Bool.{not-true, not-false}
use Rattle.std.proofs.lemmas.Result.{IfErr-weaker, on_ok_weaker}
use Rattle.recovery.specs.NamedHolds.{NamedHolds}
use Rattle.recovery.specs.Recovery.{recovered_state}
use Rattle.recovery.specs.Refusals.{IsRefused, refused}
use Rattle.recovery.proofs.Replays.{same_bytes}
use Rattle.checkpoint.specs.Costs.{finish_cost}
use Rattle.checkpoint.specs.OpeningSteps.{IsFaultAfterCut}
use Rattle.checkpoint.proofs.Costs.{finish_is, takes_with}
use Rattle.recovery.proofs.NamedHolds.{alone_fine, alone_holds}
use Rattle.checkpoint.proofs.AreLoaded.{are_loaded, alone_recovers, held_after}
use Rattle.checkpoint.proofs.OpeningCrashImages.{alike_after, alike_read, all_unwritten, bad_behind, bad_from, bad_synced, still_after, still_read, still_synced, unread}
use Rattle.device_map.specs.Layout.{layout_of, other}
use Rattle.oplog.proofs.Beyond.{beyond_read, beyond_then}
use Rattle.oplog.specs.Log.{Log}
use Rattle.parcel.specs.Tree.{state_in}
use Rattle.checkpoint.proofs.opening.load_in_order.Given.{Over}
use Rattle.checkpoint.proofs.opening.load_in_order.Goals.{Then-not-named}
use Rattle.checkpoint.proofs.opening.load_in_order.Goals as goal

held : (g : Over) (c : Then-not-named g) → g.D.Disk.keeps → NamedHolds c.args.parts.now.tree.geometry (g.D.Disk.medium c.args.disk.now).now c.in_ok-named.named.area false
    (state_in c.load_named.new.tree)
held g c k = rw (← not-true c.in_ok-named.named.chained c.if-not-named.true) (c.in_ok-named.ensures.loaded k)

pub returns-in_err-named-clause-any_moment : goal.returns-in_err-named-clause-any_moment
returns-in_err-named-clause-any_moment g c = λ k. still_read c.args.parts.now.tree.geometry _ _ (c.requires.synced k) (c.load_named.ensures.call.untouched k)

pub returns-in_err-named-clause-alike : goal.returns-in_err-named-clause-alike
returns-in_err-named-clause-alike g c = λ k. alike_read c.args.parts.now.tree.geometry _ _ (c.requires.header k) (c.requires.synced k) (c.load_named.ensures.call.untouched k)

pub returns-in_err-named-clause-unwritten : goal.returns-in_err-named-clause-unwritten
returns-in_err-named-clause-unwritten g c =
    rw (err_is c.from_residual.ensures.1) (λ k. all_unwritten _ _ _ (unread _ _ (c.load_named.ensures.call.untouched k)) (λ h. c.in_err-named.ensures.half k))

pub returns-then-not-named-clause-any_moment : goal.returns-then-not-named-clause-any_moment
returns-then-not-named-clause-any_moment g c = λ k. still_read c.args.parts.now.tree.geometry _ _ (c.requires.synced k) (c.load_named.ensures.call.untouched k)

pub returns-then-not-named-clause-alike : goal.returns-then-not-named-clause-alike
returns-then-not-named-clause-alike g c = λ k. alike_read c.args.parts.now.tree.geometry _ _ (c.requires.header k) (c.requires.synced k) (c.load_named.ensures.call.untouched k)

pub returns-then-not-named-clause-alone : goal.returns-then-not-named-clause-alone
returns-then-not-named-clause-alone g c = λ k.
    let w0 = g.D.Disk.medium c.args.disk.now in
    let w1 = g.D.Disk.medium c.load_named.new.disk in
    alone_recovers c.load_named.new.log w1 (state_in c.load_named.new.tree)
    (held_after w0 w1 c.in_ok-named.ensures.log (not-true c.in_ok-named.named.chained c.if-not-named.true) (c.load_named.ensures.call.untouched k)
    (c.in_ok-named.ensures.loaded k)) (still_synced w0 w1 (c.load_named.ensures.call.untouched k) (c.requires.synced k))

pub returns-then-not-named-clause-was : goal.returns-then-not-named-clause-was
returns-then-not-named-clause-was g c = λ k.
    alone_holds _ _ _ _ (held g (goal.at.returns-then-not-named-clause-was g c).Then-not-named k)

pub returns-then-not-named-clause-sound : goal.returns-then-not-named-clause-sound
returns-then-not-named-clause-sound g c = λ k.
    alone_fine _ _ _ _ (held g (goal.at.returns-then-not-named-clause-sound g c).Then-not-named k)

pub finish_cut_and_replay-requires-clause-recovers : goal.finish_cut_and_replay-requires-clause-recovers
finish_cut_and_replay-requires-clause-recovers g c = λ k.
    held_after (g.D.Disk.medium c.args.disk.now) (g.D.Disk.medium c.load_named.new.disk) c.in_ok-named.ensures.log
    (not-false c.in_ok-named.named.chained c.if-not-named.false) (c.load_named.ensures.call.untouched k) (c.in_ok-named.ensures.loaded k)

pub returns-clause-refused : goal.returns-clause-refused
returns-clause-refused g c =
    IfErr-weaker c.finish_cut_and_replay.result _ _
    (λ e told k.
    subst (λ (l : List ℕ). IsRefused l e) (same_bytes (g.D.Disk.medium c.args.disk.now) (g.D.Disk.medium c.load_named.new.disk) (c.load_named.ensures.call.untouched k)) (told k))
    c.finish_cut_and_replay.ensures.refused

pub returns-clause-geometry : goal.returns-clause-geometry
returns-clause-geometry g c =
    on_ok_weaker c.finish_cut_and_replay.result (λ same. same ∙ ap (λ (l : Log). l.geometry) c.in_ok-named.ensures.log) c.finish_cut_and_replay.ensures.geometry

pub returns-clause-unwritten : goal.returns-clause-unwritten
returns-clause-unwritten g c =
    IfErr-weaker c.finish_cut_and_replay.result _ _
    (λ e behind k.
    let w2 = g.D.Disk.medium c.finish_cut_and_replay.new.disk in
    let w0 = g.D.Disk.medium c.args.disk.now in
    let w1 = g.D.Disk.medium c.load_named.new.disk in
    let bad = subst (λ (l : Log). IsFaultAfterCut l.geometry (other l.named) w1 w2 e) c.in_ok-named.ensures.log (behind k) in
    bad_behind _ w0 w2 c.args.parts.now.tree.geometry c.in_ok-named.ensures.area (c.in_ok-named.ensures.loaded k).named (c.requires.header k)
    (bad_from _ _ _ w0 w1 w2 (same_bytes w0 w1 (c.load_named.ensures.call.untouched k)) bad))
    c.finish_cut_and_replay.ensures.behind

pub returns-clause-any_moment : goal.returns-clause-any_moment
returns-clause-any_moment g c = λ k.
    still_after c.args.parts.now.tree.geometry _ (g.D.Disk.medium c.load_named.new.disk) _ (c.requires.synced k) (c.load_named.ensures.call.untouched k)
    (rw (← ap (λ (l : Log). l.geometry) c.in_ok-named.ensures.log) (c.finish_cut_and_replay.ensures.any_moment k))

pub returns-clause-alike : goal.returns-clause-alike
returns-clause-alike g c = λ k.
    alike_after c.args.parts.now.tree.geometry _ (g.D.Disk.medium c.load_named.new.disk) _ (c.requires.header k) (c.requires.synced k) (c.load_named.ensures.call.untouched k)
    (rw (← ap (λ (l : Log). l.geometry) c.in_ok-named.ensures.log) (c.finish_cut_and_replay.ensures.alike k))

pub returns-clause-was : goal.returns-clause-was
returns-clause-was g c =
    on_ok_weaker c.finish_cut_and_replay.result
    (λ was k.
    let same = same_bytes (g.D.Disk.medium c.args.disk.now) (g.D.Disk.medium c.load_named.new.disk) (c.load_named.ensures.call.untouched k) in
    sym (λ i. recovered_state (c.in_ok-named.ensures.log i).geometry (same i)) ∙ was k)
    c.finish_cut_and_replay.ensures.was

pub returns-clause-sound : goal.returns-clause-sound
returns-clause-sound g c =
    on_ok_weaker c.finish_cut_and_replay.result
    (λ sound k.
    let same = same_bytes (g.D.Disk.medium c.args.disk.now) (g.D.Disk.medium c.load_named.new.disk) (c.load_named.ensures.call.untouched k) in
    sym (λ i. refused (c.in_ok-named.ensures.log i).geometry (same i)) ∙ sound k)
    c.finish_cut_and_replay.ensures.sound

pub finish_cut_and_replay-requires-clause-loaded : goal.finish_cut_and_replay-requires-clause-loaded
finish_cut_and_replay-requires-clause-loaded g c =
    are_loaded {b = c.args.parts.now.buffers} c.in_ok-named.ensures.log refl refl c.in_ok-named.ensures.whole c.in_ok-named.ensures.geometry (assumption)
    (record { fit = c.requires.taken.fit; all = c.requires.taken.all }) (omega (arith, c.requires.long_enough, c.load_named.ensures.call.len))

pub returns-then-not-named-clause-loaded : goal.returns-then-not-named-clause-loaded
returns-then-not-named-clause-loaded g c =
    are_loaded {b = c.args.parts.now.buffers} c.in_ok-named.ensures.log refl refl c.in_ok-named.ensures.whole c.in_ok-named.ensures.geometry (assumption)
    (record { fit = c.requires.taken.fit; all = c.requires.taken.all }) (omega (arith, c.requires.long_enough, c.load_named.ensures.call.len))

pub returns-then-not-named-clause-buffers : goal.returns-then-not-named-clause-buffers
returns-then-not-named-clause-buffers g c = record { size = refl; flags = refl }

pub returns-clause-buffers : goal.returns-clause-buffers
returns-clause-buffers g c = assumption c.finish_cut_and_replay.ensures.buffers

pub returns-in_err-named-clause-synced : goal.returns-in_err-named-clause-synced
returns-in_err-named-clause-synced g c =
    rw (err_is c.from_residual.ensures.1) (λ not_device k.
    still_synced (g.D.Disk.medium c.args.disk.now) (g.D.Disk.medium c.load_named.new.disk) (c.load_named.ensures.call.untouched k) (c.requires.synced k))

pub returns-clause-synced : goal.returns-clause-synced
returns-clause-synced g c =
    IfErr-weaker c.finish_cut_and_replay.result _ _
    (λ e behind not_device k.
    let log = c.load_named.new.log in
    bad_synced log.geometry (other log.named) e (g.D.Disk.medium c.load_named.new.disk) (g.D.Disk.medium c.finish_cut_and_replay.new.disk) not_device (behind k))
    c.finish_cut_and_replay.ensures.behind

pub returns-in_err-named-clause-beyond : goal.returns-in_err-named-clause-beyond
returns-in_err-named-clause-beyond g c = λ k. beyond_read (layout_of c.args.parts.now.tree.geometry) _ _ (c.load_named.ensures.call.untouched k)

pub returns-then-not-named-clause-beyond : goal.returns-then-not-named-clause-beyond
returns-then-not-named-clause-beyond g c = λ k. beyond_read (layout_of c.args.parts.now.tree.geometry) _ _ (c.load_named.ensures.call.untouched k)

pub returns-clause-beyond : goal.returns-clause-beyond
returns-clause-beyond g c = λ k.
    let l = layout_of c.args.parts.now.tree.geometry in
    beyond_then l _ (g.D.Disk.medium c.load_named.new.disk) _ (beyond_read l _ _ (c.load_named.ensures.call.untouched k))
    (rw (← ap (λ (l : Log). l.geometry) c.in_ok-named.ensures.log) (c.finish_cut_and_replay.ensures.beyond k))

pub returns-in_err-named-clause-costs : goal.returns-in_err-named-clause-costs
returns-in_err-named-clause-costs g c =
    rw (err_is c.from_residual.ensures.1) (λ k. omega (arith, ap length (c.load_named.ensures.call.untouched k)))

pub returns-then-not-named-clause-costs : goal.returns-then-not-named-clause-costs
returns-then-not-named-clause-costs g c = λ k.
    let none = finish_is (not-true c.in_ok-named.named.chained c.if-not-named.true) (c.in_ok-named.ensures.loaded k) in
    omega (arith, ap length (c.load_named.ensures.call.untouched k), none)

pub returns-clause-costs : goal.returns-clause-costs
returns-clause-costs g c = λ k.
    let four = finish_is (not-false c.in_ok-named.named.chained c.if-not-named.false) (c.in_ok-named.ensures.loaded k) in
    takes_with c.finish_cut_and_replay.result _ _ _ (finish_cost c.args.parts.now.tree.geometry (g.D.Disk.medium c.args.disk.now).now) (g.D.Disk.medium c.args.disk.now)
    (c.finish_cut_and_replay.ensures.costs k) (omega (arith, ap length (c.load_named.ensures.call.untouched k), four))
