-- The cut is finished, and then the records behind it are run; if one is bad, the device is refused for it, as it was before.
use Rattle.std.proofs.Common.{length, ◌≡◌, ℕ, List, Option, Some, refl, sym, ◌∙◌, ap, subst, arith}
use Rattle.oplog.proofs.Results.{err_is}
use Rattle.affinity.specs.declared.geometry.Geometry.{Geometry}
use Rattle.recovery.specs.declared.fault.OpenFault.{OpenFault}
use Rattle.recovery.specs.OpenFaults.{IsConsistentFault, records_fault}
use Rattle.recovery.specs.Recovery.{decoding}
use Rattle.recovery.specs.Refusals.{first_bad_record}
use Rattle.recovery.proofs.Replays.{same_bytes}
use Rattle.disk.proofs.IsTornFrom.{itself}
use Rattle.disk.proofs.CrashImagesAre.{leaves_now, same}
use Rattle.image.specs.Image.{image_state}
use Rattle.checkpoint.specs.RecoversByArea.{area_state}
use Rattle.recovery.proofs.NamedHolds.{behind_fine, behind_holds, behind_refused}
use Rattle.checkpoint.proofs.AreLoaded.{are_loaded}
use Rattle.checkpoint.proofs.OpeningCrashImages.{alone_finished, bad_half, still_synced}
use Rattle.oplog.specs.HalfContent.{front}
use Rattle.device_map.specs.Layout.{image_part, layout_of, other, part_bytes}
use Rattle.oplog.specs.Log.{Log}
use Rattle.oplog.proofs.Beyond.{beyond_read, beyond_then}
use Rattle.oplog.specs.Recovery.{named_area, run}
use Rattle.parcel.specs.Tree.{state_in}
use Rattle.meaning.specs.State.{State}
use Rattle.checkpoint.proofs.opening.finish_cut_and_replay.Given.{Over}
use Rattle.checkpoint.proofs.opening.finish_cut_and_replay.Goals.{After-replay}
use Rattle.checkpoint.proofs.opening.finish_cut_and_replay.Goals as goal

-- the records that are run: those of the half behind the named one, from the state of the cut on
begins : {A : Type 0} (f : Geometry → State → ℕ → List (List ℕ) → A) (g : Over) (c : After-replay g) → g.D.Disk.keeps
    → f c.finish_cut.new.parts.tree.geometry (state_in c.finish_cut.new.parts.tree) c.other-half.result
    (front (layout_of c.finish_cut.new.parts.halves.geometry) c.other-half.result (g.D.Disk.medium c.finish_cut.new.disk).now)
    ≡ f c.args.parts.now.halves.geometry (state_in c.args.parts.now.tree) (other c.args.parts.now.halves.named)
    (front (layout_of c.args.parts.now.halves.geometry) (other c.args.parts.now.halves.named) (g.D.Disk.medium c.args.disk.now).now)
begins f g c k =
    let half = c.other-half.ensures ∙ ap other c.named.ensures.named in
    let geometry : c.finish_cut.new.parts.tree.geometry ≡ c.args.parts.now.halves.geometry = (λ i. (c.finish_cut.ensures.tree i).geometry) ∙ c.requires.loaded.geometry in
    (λ i. f (geometry i) (state_in (c.finish_cut.ensures.tree i)) (half i) (front (layout_of (c.in_ok-finish_cut.ensures.log i).geometry) (half i) (g.D.Disk.medium c.finish_cut.new.disk).now))
    ∙ ap (f c.args.parts.now.halves.geometry (state_in c.args.parts.now.tree) (other c.args.parts.now.halves.named)) (c.in_ok-finish_cut.ensures.finished k).front

pub returns-in_err-replay-clause-any_moment : goal.returns-in_err-replay-clause-any_moment
returns-in_err-replay-clause-any_moment g c = λ k. same _ _ _ _ (c.finish_cut.ensures.any_moment k) (c.replay.ensures.call.untouched k)

pub returns-in_err-replay-clause-alike : goal.returns-in_err-replay-clause-alike
returns-in_err-replay-clause-alike g c = λ k. same _ _ _ _ (c.finish_cut.ensures.alike k) (c.replay.ensures.call.untouched k)

pub returns-in_err-replay-clause-refused : goal.returns-in_err-replay-clause-refused
returns-in_err-replay-clause-refused g c =
    rw (err_is c.from_residual-in_err-replay.ensures.1) (λ k.
    let fault = subst (λ (o : Option OpenFault). IsConsistentFault o c.in_err-replay.field-0.0) (begins records_fault g (goal.at.returns-in_err-replay-clause-refused g c).After-replay k)
    (c.in_err-replay.ensures.refused k) in
    behind_refused _ _ _ _ (c.requires.recovers k) _ fault)

pub returns-in_err-replay-clause-behind : goal.returns-in_err-replay-clause-behind
returns-in_err-replay-clause-behind g c =
    rw (err_is c.from_residual-in_err-replay.ensures.1) (λ k.
    let w0 = g.D.Disk.medium c.args.disk.now in
    let w2 = g.D.Disk.medium c.replay.new.disk in
    let finished = c.in_ok-finish_cut.ensures.finished k in
    let only = c.replay.ensures.call.untouched k in
    let bytes = same_bytes (g.D.Disk.medium c.finish_cut.new.disk) w2 only in
    let fault = subst (λ (o : Option OpenFault). IsConsistentFault o c.in_err-replay.field-0.0) (begins records_fault g (goal.at.returns-in_err-replay-clause-behind g c).After-replay k)
    (c.in_err-replay.ensures.refused k) in
    bad_half (first_bad_record c.args.parts.now.halves.geometry 0 (Some (state_in c.args.parts.now.tree))
    (front (layout_of c.args.parts.now.halves.geometry) (other c.args.parts.now.halves.named) w0.now)) _ c.in_err-replay.ensures.call.never_out_of_memory fault
    (c.requires.recovers k).header (behind_refused _ _ _ _ (c.requires.recovers k) c.in_err-replay.field-0.0 fault)
    (record {
      alike = leaves_now w0 w2 _ (same _ _ _ _ (c.finish_cut.ensures.alike k) only) w2.now (itself w2.now w2.unsynced (g.met.D.Disk.bytes c.replay.new.disk));
      named = ap (λ (l : List ℕ). named_area (layout_of c.args.parts.now.halves.geometry) l) bytes ∙ finished.named;
      image = ap (λ (l : List ℕ). image_state c.args.parts.now.halves.geometry (part_bytes (layout_of c.args.parts.now.halves.geometry) (image_part (other c.args.parts.now.halves.named)) l)) bytes
          ∙ finished.reads ∙ ap (λ (n : ℕ). area_state c.args.parts.now.halves.geometry n w0.now) (c.requires.recovers k).named;
      synced = still_synced (g.D.Disk.medium c.finish_cut.new.disk) w2 only finished.synced;
    }))

pub returns-clause-any_moment : goal.returns-clause-any_moment
returns-clause-any_moment g c = λ k. same _ _ _ _ (c.finish_cut.ensures.any_moment k) (c.replay.ensures.call.untouched k)

pub returns-clause-alike : goal.returns-clause-alike
returns-clause-alike g c = λ k. same _ _ _ _ (c.finish_cut.ensures.alike k) (c.replay.ensures.call.untouched k)

pub returns-clause-alone : goal.returns-clause-alone
returns-clause-alone g c = λ k.
    let more = sym (begins (λ h x b rs. run (decoding h) (Some x) rs) g (goal.at.returns-clause-alone g c).After-replay k) ∙ c.in_ok-replay.ensures.done k in
    rw (c.in_ok-replay.ensures.log ∙ c.in_ok-finish_cut.ensures.log) (alone_finished (g.met.D.Disk.bytes c.replay.new.disk)
    (same _ _ _ _ (c.finish_cut.ensures.any_moment k) (c.replay.ensures.call.untouched k)) (behind_holds _ _ _ _ (c.requires.recovers k) _ more)
    (c.in_ok-finish_cut.ensures.finished k) (c.replay.ensures.call.untouched k))

pub returns-clause-was : goal.returns-clause-was
returns-clause-was g c = λ k.
    behind_holds _ _ _ _ (c.requires.recovers k) _
    (sym (begins (λ h x b rs. run (decoding h) (Some x) rs) g (goal.at.returns-clause-was g c).After-replay k) ∙ c.in_ok-replay.ensures.done k)

pub returns-clause-sound : goal.returns-clause-sound
returns-clause-sound g c = λ k.
    behind_fine _ _ _ _ (c.requires.recovers k) _
    (sym (begins (λ h x b rs. run (decoding h) (Some x) rs) g (goal.at.returns-clause-sound g c).After-replay k) ∙ c.in_ok-replay.ensures.done k)

pub returns-clause-loaded : goal.returns-clause-loaded
returns-clause-loaded g c =
    are_loaded {b = c.args.parts.now.buffers} (c.in_ok-replay.ensures.log ∙ c.in_ok-finish_cut.ensures.log) c.requires.loaded.usable.not_failed refl
    c.in_ok-replay.ensures.whole (c.in_ok-replay.ensures.geometry ∙ (λ i. (c.finish_cut.ensures.tree i).geometry) ∙ c.requires.loaded.geometry)
    (assumption c.finish_cut.ensures.buffers) (record { fit = c.requires.loaded.fit; all = c.requires.loaded.all })
    (omega (arith, c.requires.loaded.usable.long_enough, c.finish_cut.ensures.call.len, c.replay.ensures.call.len))

pub returns-clause-buffers : goal.returns-clause-buffers
returns-clause-buffers g c = assumption c.finish_cut.ensures.buffers

pub returns-clause-geometry : goal.returns-clause-geometry
returns-clause-geometry g c = ap (λ (l : Log). l.geometry) (c.in_ok-replay.ensures.log ∙ c.in_ok-finish_cut.ensures.log)

pub returns-in_err-replay-clause-beyond : goal.returns-in_err-replay-clause-beyond
returns-in_err-replay-clause-beyond g c = λ k.
    let l = layout_of c.args.parts.now.halves.geometry in
    beyond_then l _ _ _ (c.finish_cut.ensures.beyond k) (beyond_read l _ _ (c.replay.ensures.call.untouched k))

pub returns-clause-beyond : goal.returns-clause-beyond
returns-clause-beyond g c = λ k.
    let l = layout_of c.args.parts.now.halves.geometry in
    beyond_then l _ _ _ (c.finish_cut.ensures.beyond k) (beyond_read l _ _ (c.replay.ensures.call.untouched k))

pub returns-in_err-finish_cut-clause-costs : goal.returns-in_err-finish_cut-clause-costs
returns-in_err-finish_cut-clause-costs g c =
    rw (err_is c.from_residual.ensures.1) (λ k. c.in_err-finish_cut.ensures.costs k)

pub returns-in_err-replay-clause-costs : goal.returns-in_err-replay-clause-costs
returns-in_err-replay-clause-costs g c =
    rw (err_is c.from_residual-in_err-replay.ensures.1) (λ k. omega (arith, ap length (c.replay.ensures.call.untouched k), c.in_ok-finish_cut.ensures.costs k))

pub returns-clause-costs : goal.returns-clause-costs
returns-clause-costs g c = λ k. omega (arith, ap length (c.replay.ensures.call.untouched k), c.in_ok-finish_cut.ensures.costs k)
