-- What a crash leaves recovers to the committed state with the first m of the messages run on it; all that they touch is dirty.
use Rattle.std.proofs.Common.{◌≡◌, ℕ, ◌+◌, true, Some, Err, length, refl, sym, ◌∙◌, ap, subst, arith}
use Rattle.oplog.proofs.Results.{err_is}
use Rattle.affinity.specs.declared.geometry.Geometry.{Geometry}
use Rattle.recovery.specs.Recovery.{recovered_state}
use Rattle.disk.specs.CrashImages.{CrashImagesAre}
use Rattle.disk.specs.Device.{moment_number}
use Rattle.image.specs.Pieces.{piece_count}
use Rattle.checkpoint.specs.Journal.{AreCarriedOut, JournalView, RecoversWithPrefix, committed, journal_view_of}
use Rattle.checkpoint.specs.PointAndCut.{FitsCutState}
use Rattle.checkpoint.proofs.JournalLemmas.{beyond_of, failed_kept, failed_view, fits_of, sound_of, recoverable_of, sound_along}
use Rattle.checkpoint.proofs.RecoversWithPrefix.{log_kept, log_moments, log_records, log_told, placed_used, touched_along}
use Rattle.checkpoint.proofs.DirtyPieces.{same_dirty, whole_put}
use Rattle.disk.proofs.CrashImagesAre.{weaker}
use Rattle.oplog.specs.Beyond.{KeepsBeyond}
use Rattle.device_map.specs.Layout.{device_size, image_size, layout_of}
use Rattle.oplog.specs.declared.halves.LogFault.{LogFault}
use Rattle.oplog.specs.Log.{CountsLogFault, Log, layout_of_log, log_after}
use Rattle.oplog.specs.Recovery.{records_in}
use Rattle.meaning.specs.State.{State}
use Rattle.checkpoint.proofs.journal.Journal.log.Given.{Over}
use Rattle.checkpoint.proofs.journal.Journal.log.Goals.{After-append, In_err-append}
use Rattle.checkpoint.proofs.journal.Journal.log.Goals as goal

moments : (g : Over) (c : After-append g) → g.D.Disk.keeps → (x : State) → committed c.args.self.now ≡ Some x
    → CrashImagesAre c.args.self.now.medium (g.D.Disk.medium c.append.new.disk) (RecoversWithPrefix c.args.self.now.geometry x c.args.messages.now)
moments g c k x is =
    subst (λ (h : JournalView). CrashImagesAre h.medium (g.D.Disk.medium c.append.new.disk) (RecoversWithPrefix h.geometry x c.args.messages.now)) c.self.view_is
    (log_moments c.args.messages.now (g.D.Disk.medium c.append.new.disk) (g.met.D.Disk.bytes c.self.inside.disk) (sound_of c.self.invariant c.self.view_is c.requires.not_failed k)
    (c.append.ensures.any_moment k) x (ap committed c.self.view_is ∙ is) (subst (λ (h : JournalView). AreCarriedOut h.geometry x c.args.messages.now) (sym c.self.view_is)
    (c.requires.carried_out k x is)))

stays : (g : Over) (c : After-append g) → g.D.Disk.keeps → KeepsBeyond (layout_of c.args.self.now.geometry) c.args.self.now.medium (g.D.Disk.medium c.append.new.disk)
stays g c k =
    beyond_of c.self.view_is (weaker _ _ _ _ (c.append.ensures.any_moment k) (λ d grew. record { old = grew.has.old; left = grew.has.left; change = grew.has.change.same.rest }))

out : (g : Over) (c : After-append g) → g.D.Disk.keeps → (x : State) → recovered_state c.self.inside.halves.geometry (g.D.Disk.medium c.self.inside.disk).now ≡ Some x
    → AreCarriedOut c.self.inside.halves.geometry x c.args.messages.now
out g c k x is = subst (λ (h : JournalView). AreCarriedOut h.geometry x c.args.messages.now) (sym c.self.view_is) (c.requires.carried_out k x (sym (ap committed c.self.view_is) ∙ is))

-- at a fault the log is as it was, but has failed
failed : (g : Over) (c : In_err-append g) → c.append.new.self ≡ record c.self.inside.halves { failed = true }
failed g c =
    c.in_err-append.ensures.log
    ∙ ap (λ (e : LogFault). log_after {T = Unit {0}} (Err e) c.self.inside.halves (record c.self.inside.halves { used = c.self.inside.halves.used + length c.args.messages.now }))
    c.in_err-append.ensures.call.device

pub invariant_of-self : goal.invariant_of-self
invariant_of-self g c =
    let log = failed g (goal.at.invariant_of-self g c).In_err-append in
    failed_kept c.self.invariant (ap (λ (l : Log). l.geometry) log) (ap (λ (l : Log). l.used) log) (ap (λ (l : Log). l.failed) log) c.append.ensures.call.len (record { size = refl; flags = refl })

pub returns-in_err-append-clause-after : goal.returns-in_err-append-clause-after
returns-in_err-append-clause-after g c =
    let log = failed g (goal.at.returns-in_err-append-clause-after g c).In_err-append in
    rw (err_is c.from_residual.ensures.1)
    (failed_view c.self.inside.halves c.append.new.self (ap (λ (l : Log). l.geometry) log) (ap (λ (l : Log). l.used) log) (ap (λ (l : Log). l.failed) log) c.self.view_is)

pub returns-in_err-append-clause-none : goal.returns-in_err-append-clause-none
returns-in_err-append-clause-none g c = λ none.
    let counted = subst (λ (e : LogFault). CountsLogFault {T = Unit {0}} (Err e) (g.D.Disk.medium c.self.inside.disk).faults (g.D.Disk.medium c.append.new.disk).faults)
    c.in_err-append.ensures.call.device c.in_err-append.ensures.call.counts in
    absurd (omega (arith, counted, ap (λ d. (g.D.Disk.medium d).faults) (c.append.ensures.none none)))

pub returns-in_err-append-clause-costs : goal.returns-in_err-append-clause-costs
returns-in_err-append-clause-costs g c =
    rw (err_is c.from_residual.ensures.1) (λ k. omega (arith, ap (λ (h : JournalView). moment_number h.medium) c.self.view_is, c.in_err-append.ensures.costs k))

pub returns-in_err-append-clause-call : goal.returns-in_err-append-clause-call
returns-in_err-append-clause-call g c = rw (err_is c.from_residual.ensures.1, ← c.self.view_is) c.in_err-append.ensures.call

pub dirty_touched-requires : goal.dirty_touched-requires
dirty_touched-requires g c =
    let pieces = sym (ap piece_count (c.geometry-g.ensures ∙ ap (λ (l : Log). l.geometry) c.in_ok-append.ensures.log)) in
    (ap length c.deref_mut.ensures.value ∙ c.self.invariant.fit.named_dirty ∙ pieces, ap length c.deref_mut-2.ensures.value ∙ c.self.invariant.fit.other_dirty ∙ pieces)

pub returns-in_err-append-clause-any_moment : goal.returns-in_err-append-clause-any_moment
returns-in_err-append-clause-any_moment g c = moments g (goal.at.returns-in_err-append-clause-any_moment g c).After-append

pub returns-clause-any_moment : goal.returns-clause-any_moment
returns-clause-any_moment g c = moments g (goal.at.returns-clause-any_moment g c).After-append

pub returns-clause-committed : goal.returns-clause-committed
returns-clause-committed g c = λ k.
    rw (← c.self.view_is) (ap (λ (l : Log). recovered_state l.geometry (g.D.Disk.medium c.append.new.disk).now) c.in_ok-append.ensures.log
    ∙ log_told c.args.messages.now (g.met.D.Disk.bytes c.self.inside.disk)
    (g.met.D.Disk.bytes c.append.new.disk) (sound_of c.self.invariant c.self.view_is c.requires.not_failed k) (out g (goal.at.returns-clause-committed g c).After-append k)
    (c.in_ok-append.ensures.added k))

pub returns-clause-recoverable : goal.returns-clause-recoverable
returns-clause-recoverable g c = λ k.
    let same : c.geometry-g.result ≡ c.self.inside.halves.geometry = c.geometry-g.ensures ∙ ap (λ (l : Log). l.geometry) c.in_ok-append.ensures.log in
    recoverable_of
    (sound_along c.in_ok-append.ensures.log refl refl refl refl
    (log_kept {named' = c.dirty_touched.new.named} {others' = c.dirty_touched.new.other} c.args.messages.now (g.met.D.Disk.bytes c.self.inside.disk)
    (g.met.D.Disk.bytes c.append.new.disk) (sound_of c.self.invariant c.self.view_is c.requires.not_failed k) (out g (goal.at.returns-clause-recoverable g c).After-append k)
    (c.in_ok-append.ensures.added k) (fits_of c.self.invariant c.self.view_is c.requires.not_failed)
    (record {
      named = touched_along c.args.messages.now same c.deref_mut.ensures.value refl c.dirty_touched.ensures.named;
      other = touched_along c.args.messages.now same c.deref_mut-2.ensures.value refl c.dirty_touched.ensures.other;
    })))

pub returns-clause-records : goal.returns-clause-records
returns-clause-records g c = λ k.
    rw (← c.self.view_is) (ap (λ (l : Log). records_in l.geometry (g.D.Disk.medium c.append.new.disk).now) c.in_ok-append.ensures.log
    ∙ log_records c.args.messages.now (g.D.Disk.medium c.append.new.disk) (g.met.D.Disk.bytes c.self.inside.disk) (sound_of c.self.invariant c.self.view_is c.requires.not_failed k)
    (c.in_ok-append.ensures.added k))

pub returns-clause-dirties : goal.returns-clause-dirties
returns-clause-dirties g c =
    let same : c.geometry-g.result ≡ c.self.inside.halves.geometry = c.geometry-g.ensures ∙ ap (λ (l : Log). l.geometry) c.in_ok-append.ensures.log in
    let first = whole_put c.dirty_touched.new.named c.dirty_touched.ensures.sizes.0 c.deref_mut.ensures.value c.deref_mut.ensures.len in
    let second = whole_put c.dirty_touched.new.other c.dirty_touched.ensures.sizes.1 c.deref_mut-2.ensures.value c.deref_mut-2.ensures.len in
    rw (← c.self.view_is)
    (record {
      named = touched_along c.args.messages.now same c.deref_mut.ensures.value first c.dirty_touched.ensures.named;
      other = touched_along c.args.messages.now same c.deref_mut-2.ensures.value second c.dirty_touched.ensures.other;
    })

pub returns-clause-none : goal.returns-clause-none
returns-clause-none g c = λ none.
    let used : c.self.inside.halves.used + length c.args.messages.now ≡ c.self.inside.halves.used = omega (arith, none) in
    let log = c.in_ok-append.ensures.log in
    let same : c.geometry-g.result ≡ c.self.inside.halves.geometry = c.geometry-g.ensures ∙ ap (λ (l : Log). l.geometry) log in
    let first = whole_put c.dirty_touched.new.named c.dirty_touched.ensures.sizes.0 c.deref_mut.ensures.value c.deref_mut.ensures.len in
    let second = whole_put c.dirty_touched.new.other c.dirty_touched.ensures.sizes.1 c.deref_mut-2.ensures.value c.deref_mut-2.ensures.len in
    let named = same_dirty c.self.inside.halves.geometry c.args.messages.now _ _ none c.self.invariant.fit.named_dirty
    (ap length first ∙ c.dirty_touched.ensures.sizes.0 ∙ ap length c.deref_mut.ensures.value)
    (touched_along c.args.messages.now same c.deref_mut.ensures.value first c.dirty_touched.ensures.named) in
    let others = same_dirty c.self.inside.halves.geometry c.args.messages.now _ _ none c.self.invariant.fit.other_dirty
    (ap length second ∙ c.dirty_touched.ensures.sizes.1 ∙ ap length c.deref_mut-2.ensures.value)
    (touched_along c.args.messages.now same c.deref_mut-2.ensures.value second c.dirty_touched.ensures.other) in
    (λ i. journal_view_of (log i) (named i) (others i) c.self.inside.pieces_left (g.D.Disk.medium (c.append.ensures.none none i)))
    ∙ ap (λ (n : ℕ). journal_view_of (record c.self.inside.halves { used = n }) c.self.inside.buffers.named_dirty.items c.self.inside.buffers.other_dirty.items
    c.self.inside.pieces_left (g.D.Disk.medium c.self.inside.disk)) used
    ∙ c.self.view_is

pub invariant_of-self-2 : goal.invariant_of-self-2
invariant_of-self-2 g c =
    let log = c.in_ok-append.ensures.log in
    let geometry = ap (λ (l : Log). l.geometry) log in
    let same : c.geometry-g.result ≡ c.self.inside.halves.geometry = c.geometry-g.ensures ∙ geometry in
    let first = whole_put c.dirty_touched.new.named c.dirty_touched.ensures.sizes.0 c.deref_mut.ensures.value c.deref_mut.ensures.len in
    let second = whole_put c.dirty_touched.new.other c.dirty_touched.ensures.sizes.1 c.deref_mut-2.ensures.value c.deref_mut-2.ensures.len in
    record {
      long_enough = omega (arith, c.self.invariant.long_enough, c.append.ensures.call.len, ap (λ (l : Log). device_size (layout_of_log l)) log);
      used = omega (arith, c.self.invariant.used, ap (λ (l : Log). l.used) log, ap (λ (g : Geometry). g.half) geometry, ap (λ (h : JournalView). h.room) c.self.view_is, c.requires.room);
      fit = record {
        snapshot = c.self.invariant.fit.snapshot ∙ sym (ap image_size geometry);
        named_dirty = ap length first ∙ c.dirty_touched.ensures.sizes.0 ∙ ap length c.deref_mut.ensures.value ∙ c.self.invariant.fit.named_dirty ∙ sym (ap piece_count geometry);
        other_dirty = ap length second ∙ c.dirty_touched.ensures.sizes.1 ∙ ap length c.deref_mut-2.ensures.value ∙ c.self.invariant.fit.other_dirty ∙ sym (ap piece_count geometry);
        pending = c.self.invariant.fit.pending ∙ sym (ap piece_count geometry);
      };
      fits_cut_state = λ _.
          subst (λ (l : Log). FitsCutState l c.self.inside.buffers.pending.items c.self.inside.pieces_left) (sym log)
          (placed_used c.self.inside.halves (c.self.inside.halves.used + length c.args.messages.now) c.self.inside.buffers.pending.items c.self.inside.pieces_left
          (fits_of c.self.invariant c.self.view_is c.requires.not_failed));
      sound = λ _ k.
          sound_along log refl refl refl refl
          (log_kept c.args.messages.now (g.met.D.Disk.bytes c.self.inside.disk) (g.met.D.Disk.bytes c.append.new.disk) (sound_of c.self.invariant c.self.view_is c.requires.not_failed k)
          (out g (goal.at.invariant_of-self-2 g c).After-append k) (c.in_ok-append.ensures.added k) (fits_of c.self.invariant c.self.view_is c.requires.not_failed)
          (record {
            named = touched_along c.args.messages.now same c.deref_mut.ensures.value first c.dirty_touched.ensures.named;
            other = touched_along c.args.messages.now same c.deref_mut-2.ensures.value second c.dirty_touched.ensures.other;
          }));
      next_pending = c.self.invariant.next_pending;
      clean_before = c.self.invariant.clean_before;
    }

pub returns-in_err-append-clause-beyond : goal.returns-in_err-append-clause-beyond
returns-in_err-append-clause-beyond g c = stays g (goal.at.returns-in_err-append-clause-beyond g c).After-append

pub returns-clause-beyond : goal.returns-clause-beyond
returns-clause-beyond g c = stays g (goal.at.returns-clause-beyond g c).After-append
