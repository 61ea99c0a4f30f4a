-- What a crash leaves names the old area or the new one, and the device recovers to the committed state by either.
use Rattle.std.proofs.Common.{Option, ℕ, List, ◌++◌, length, refl, sym, ◌∙◌, ap, subst, arith}
use Rattle.oplog.proofs.Results.{err_is}
use Rattle.affinity.specs.declared.geometry.Geometry.{Geometry}
use Rattle.recovery.specs.Recovery.{recovered_state}
use Rattle.disk.specs.Device.{moment_number}
use Rattle.checkpoint.specs.Journal.{JournalView}
use Rattle.checkpoint.specs.PointAndCut.{FitsCutState, IsCutWritten}
use Rattle.recovery.specs.Version.{named_version}
use Rattle.checkpoint.proofs.IsFlipped.{flip_asks, flip_sound, flip_version}
use Rattle.checkpoint.proofs.JournalLemmas.{beyond_of, fits_of, recoverable_of, sound_along, sound_of, still_of}
use Rattle.checkpoint.proofs.RecoversByArea.{holds_now}
use Rattle.image.specs.Pieces.{piece_count}
use Rattle.oplog.specs.HalfContent.{front}
use Rattle.device_map.specs.Layout.{device_size, image_size, layout_of}
use Rattle.oplog.specs.Log.{Log, layout_of_log}
use Rattle.oplog.specs.Recovery.{records_in}
use Rattle.checkpoint.proofs.journal.Journal.flip.Given.{Over}
use Rattle.checkpoint.proofs.journal.Journal.flip.Goals.{After-deref}
use Rattle.checkpoint.proofs.journal.Journal.flip.Goals as goal

written : (g : Over) (c : After-deref g) → g.D.Disk.keeps → IsCutWritten c.self.inside.halves c.self.inside.buffers.snapshot.items (g.D.Disk.medium c.self.inside.disk)
written g c k =
    flip_asks (ap (λ (h : JournalView). h.pieces_left) c.self.view_is ∙ c.requires.written) c.self.invariant.long_enough c.self.invariant.fit.snapshot c.self.invariant.fit.pending
    (g.met.D.Disk.bytes c.self.inside.disk)
    (fits_of c.self.invariant c.self.view_is c.requires.not_failed) (sound_of c.self.invariant c.self.view_is c.requires.not_failed k)

pub flip_on-requires-clause-written : goal.flip_on-requires-clause-written
flip_on-requires-clause-written g c = λ k. subst (λ (l : List ℕ). IsCutWritten c.self.inside.halves l (g.D.Disk.medium c.self.inside.disk)) (sym c.deref.ensures.value) (written g c k)

pub returns-in_err-flip_on-clause-any_moment : goal.returns-in_err-flip_on-clause-any_moment
returns-in_err-flip_on-clause-any_moment g c = λ k. still_of c.self.view_is (c.flip_on.ensures.any_moment k)

pub returns-clause-any_moment : goal.returns-clause-any_moment
returns-clause-any_moment g c = λ k. still_of c.self.view_is (c.flip_on.ensures.any_moment k)

pub returns-clause-committed : goal.returns-clause-committed
returns-clause-committed g c = λ k.
    rw (← c.self.view_is) (ap (λ (x : _). recovered_state x (g.D.Disk.medium c.flip_on.new.disk).now) c.flip_on.ensures.geometry
    ∙ holds_now c.self.inside.halves.geometry _ _ (recovered_state c.self.inside.halves.geometry (g.D.Disk.medium c.self.inside.disk).now)
    (g.D.Disk.medium c.flip_on.new.disk) (g.met.D.Disk.bytes c.flip_on.new.disk) (c.in_ok-flip_on.ensures.flipped k).at.recovers)

pub returns-clause-recoverable : goal.returns-clause-recoverable
returns-clause-recoverable g c = λ k.
    recoverable_of
    (sound_along c.in_ok-flip_on.ensures.log refl (ap (λ v. v.items) c.swap.ensures.x_after) (ap (λ v. v.items) c.swap.ensures.y_after) refl
    (flip_sound (ap (λ (h : JournalView). h.pieces_left) c.self.view_is ∙ c.requires.written) (g.met.D.Disk.bytes c.self.inside.disk) (g.met.D.Disk.bytes c.flip_on.new.disk)
    (fits_of c.self.invariant c.self.view_is c.requires.not_failed)
    (written g (goal.at.returns-clause-recoverable g c).After-deref k) (sound_of c.self.invariant c.self.view_is c.requires.not_failed k) (c.in_ok-flip_on.ensures.flipped k)))

pub returns-clause-records : goal.returns-clause-records
returns-clause-records g c = λ k.
    let w1 = g.D.Disk.medium c.flip_on.new.disk in
    let flipped = c.in_ok-flip_on.ensures.flipped k in
    let first = front (layout_of c.self.inside.halves.geometry) c.self.inside.halves.named (g.D.Disk.medium c.self.inside.disk).now in
    rw (← c.self.view_is) (first, flipped.before ∙ ap (λ (x : Geometry). first ++ records_in x w1.now) (sym c.flip_on.ensures.geometry))

pub returns-clause-version : goal.returns-clause-version
returns-clause-version g c = λ k.
    ap (λ (x : Geometry). named_version x (g.D.Disk.medium c.flip_on.new.disk).now) c.flip_on.ensures.geometry
    ∙ flip_version (ap (λ (h : JournalView). h.pieces_left) c.self.view_is ∙ c.requires.written) (g.met.D.Disk.bytes c.flip_on.new.disk)
    (written g (goal.at.returns-clause-version g c).After-deref k) (sound_of c.self.invariant c.self.view_is c.requires.not_failed k) (c.in_ok-flip_on.ensures.flipped k)

pub returns-clause-images : goal.returns-clause-images
returns-clause-images g c = λ k. rw (← c.self.view_is) (c.in_ok-flip_on.ensures.flipped k).images

pub invariant_of-self-2 : goal.invariant_of-self-2
invariant_of-self-2 g c =
    let log = c.in_ok-flip_on.ensures.log in
    record {
      long_enough = omega (arith, c.self.invariant.long_enough, c.flip_on.ensures.call.len, ap (λ (l : Log). device_size (layout_of_log l)) log);
      used = omega (arith, c.self.invariant.used, ap (λ (l : Log). l.used) log, ap (λ (l : Log). l.geometry.half) log);
      fit = record {
        snapshot = c.self.invariant.fit.snapshot ∙ sym (ap image_size c.flip_on.ensures.geometry);
        named_dirty = ap (λ v. length v.items) c.swap.ensures.x_after ∙ c.self.invariant.fit.other_dirty ∙ sym (ap piece_count c.flip_on.ensures.geometry);
        other_dirty = ap (λ v. length v.items) c.swap.ensures.y_after ∙ c.self.invariant.fit.named_dirty ∙ sym (ap piece_count c.flip_on.ensures.geometry);
        pending = c.self.invariant.fit.pending ∙ sym (ap piece_count c.flip_on.ensures.geometry);
      };
      fits_cut_state = λ _.
          let placed = subst (λ (l : Option ℕ). FitsCutState c.self.inside.halves c.self.inside.buffers.pending.items l) (ap (λ (h : JournalView). h.pieces_left) c.self.view_is ∙ c.requires.written)
          (fits_of c.self.invariant c.self.view_is c.requires.not_failed) in
          ap (λ (l : Log). l.current) log ∙ placed.0 ∙ sym (ap (λ (l : Log). l.named) log);
      sound = λ _ k.
          sound_along log refl (ap (λ v. v.items) c.swap.ensures.x_after) (ap (λ v. v.items) c.swap.ensures.y_after) refl
          (flip_sound (ap (λ (h : JournalView). h.pieces_left) c.self.view_is ∙ c.requires.written) (g.met.D.Disk.bytes c.self.inside.disk) (g.met.D.Disk.bytes c.flip_on.new.disk)
          (fits_of c.self.invariant c.self.view_is c.requires.not_failed)
          (written g (goal.at.invariant_of-self-2 g c).After-deref k) (sound_of c.self.invariant c.self.view_is c.requires.not_failed k) (c.in_ok-flip_on.ensures.flipped k));
      next_pending = c.self.invariant.next_pending;
      clean_before = c.self.invariant.clean_before;
    }

pub returns-in_err-flip_on-clause-beyond : goal.returns-in_err-flip_on-clause-beyond
returns-in_err-flip_on-clause-beyond g c = λ k. beyond_of c.self.view_is (c.flip_on.ensures.beyond k)

pub returns-clause-beyond : goal.returns-clause-beyond
returns-clause-beyond g c = λ k. beyond_of c.self.view_is (c.flip_on.ensures.beyond k)

pub returns-in_err-flip_on-clause-costs : goal.returns-in_err-flip_on-clause-costs
returns-in_err-flip_on-clause-costs g c =
    rw (err_is c.from_residual.ensures.1) (λ k.
    omega (arith, ap (λ (h : JournalView). moment_number h.medium) c.self.view_is, c.in_err-flip_on.ensures.costs k))
