-- The snapshot is the image of the committed state, and the clean pieces are on the device: what a crash leaves recovers to it.
use Rattle.std.proofs.Common.{◌≡◌, false, Option, None, ℕ, List, length, refl, sym, ◌∙◌, ap, subst, arith}
use Rattle.std.proofs.lemmas.List.{length-replicate}
use Rattle.oplog.proofs.Results.{err_is}
use Rattle.affinity.specs.declared.geometry.Geometry.{Geometry}
use Rattle.recovery.specs.Recovery.{recovered_state}
use Rattle.disk.specs.Device.{moment_number}
use Rattle.image.specs.Image.{image_state}
use Rattle.image.specs.Pieces.{piece_count}
use Rattle.checkpoint.specs.Costs.{point_cost}
use Rattle.checkpoint.specs.Journal.{JournalView, committed}
use Rattle.checkpoint.specs.PointAndCut.{FitsCutState, IsPointed}
use Rattle.checkpoint.proofs.Costs.{few_writes}
use Rattle.checkpoint.proofs.JournalLemmas.{beyond_of, failed_kept, failed_view, fit_as, fits_of, recoverable_of, sound_along, still_of}
use Rattle.checkpoint.proofs.DirtyPieces.{whole_put}
use Rattle.recovery.specs.Version.{named_version}
use Rattle.checkpoint.proofs.PointOrCut.{agrees, is_alone, point_committed, point_sound, pointed_version, reads, Saves, saves}
use Rattle.device_map.specs.Layout.{device_size, image_size}
use Rattle.oplog.specs.Log.{Log, layout_of_log}
use Rattle.oplog.specs.Recovery.{records_in}
use Rattle.parcel.specs.Tree.{state_in}
use Rattle.checkpoint.proofs.journal.Journal.point.Given.{Over}
use Rattle.checkpoint.proofs.journal.Journal.point.Goals.{After-deref-3, After-swap_and_clear_dirty}
use Rattle.checkpoint.proofs.journal.Journal.point.Goals as goal

saved : (g : Over) (c : After-deref-3 g) → g.D.Disk.keeps
    → Saves c.self.inside.halves c.self.inside.buffers.snapshot.items c.update_snapshot.new.bytes c.self.inside.buffers.named_dirty.items c.self.inside.buffers.other_dirty.items
    c.self.inside.buffers.pending.items (g.D.Disk.medium c.self.inside.disk) (state_in c.args.tree.now)
saved g c k =
    saves {self = c.args.self.now} {tree = c.args.tree.now} c.self.invariant c.self.view_is k
    (record { not_failed = c.requires.not_failed; no_cut = c.requires.no_cut; geometry = c.requires.geometry; state = c.requires.whole.state; committed = c.requires.state k })
    (g.met.D.Disk.bytes c.self.inside.disk) c.deref.ensures.value c.deref_mut.ensures.value c.update_snapshot.ensures.image

made : (g : Over) (c : After-swap_and_clear_dirty g) → g.D.Disk.keeps
    → IsPointed c.self.inside.halves c.update_snapshot.new.bytes (g.D.Disk.medium c.self.inside.disk) (g.D.Disk.medium c.point_on.new.disk)
made g c k =
    subst (λ (l : List ℕ). IsPointed c.self.inside.halves l (g.D.Disk.medium c.self.inside.disk) (g.D.Disk.medium c.point_on.new.disk))
    (c.deref-2.ensures.value ∙ whole_put c.update_snapshot.new.bytes c.update_snapshot.ensures.size c.deref_mut.ensures.value c.deref_mut.ensures.len) (c.in_ok-point_on.ensures.pointed k)

pub update_snapshot-requires-clause-dirty : goal.update_snapshot-requires-clause-dirty
update_snapshot-requires-clause-dirty g c = ap length c.deref.ensures.value ∙ (fit_as c.self.invariant c.self.view_is c.requires.geometry).named_dirty

pub update_snapshot-requires-clause-size : goal.update_snapshot-requires-clause-size
update_snapshot-requires-clause-size g c = ap length c.deref_mut.ensures.value ∙ (fit_as c.self.invariant c.self.view_is c.requires.geometry).snapshot

pub point_on-requires-clause-current_is_named : goal.point_on-requires-clause-current_is_named
point_on-requires-clause-current_is_named g c =
    subst (λ (o : Option ℕ). FitsCutState c.self.inside.halves c.self.inside.buffers.pending.items o) (ap (λ (h : JournalView). h.pieces_left) c.self.view_is ∙ c.requires.no_cut)
    (fits_of c.self.invariant c.self.view_is c.requires.not_failed)

pub invariant_of-self : goal.invariant_of-self
invariant_of-self g c =
    let snapshot = whole_put c.update_snapshot.new.bytes c.update_snapshot.ensures.size c.deref_mut.ensures.value c.deref_mut.ensures.len in
    failed_kept c.self.invariant c.point_on.ensures.geometry c.in_err-point_on.ensures.used c.in_err-point_on.ensures.failed c.point_on.ensures.call.len
    (record { size = ap length snapshot ∙ c.update_snapshot.ensures.size ∙ ap length c.deref_mut.ensures.value; flags = refl })

pub returns-in_err-point_on-clause-after : goal.returns-in_err-point_on-clause-after
returns-in_err-point_on-clause-after g c =
    rw (err_is c.from_residual.ensures.1)
    (failed_view c.self.inside.halves c.point_on.new.halves c.point_on.ensures.geometry c.in_err-point_on.ensures.used c.in_err-point_on.ensures.failed c.self.view_is)

pub returns-in_err-point_on-clause-call : goal.returns-in_err-point_on-clause-call
returns-in_err-point_on-clause-call g c = rw (err_is c.from_residual.ensures.1, ← c.self.view_is) c.in_err-point_on.ensures.call

pub point_on-requires-clause-alone : goal.point_on-requires-clause-alone
point_on-requires-clause-alone g c = λ k. is_alone (saved g c k)

pub point_on-requires-clause-image : goal.point_on-requires-clause-image
point_on-requires-clause-image g c = λ k.
    let snapshot = whole_put c.update_snapshot.new.bytes c.update_snapshot.ensures.size c.deref_mut.ensures.value c.deref_mut.ensures.len in
    ap (image_state c.self.inside.halves.geometry) (c.deref-2.ensures.value ∙ snapshot) ∙ reads (saved g c k)

pub point_on-requires-clause-clean : goal.point_on-requires-clause-clean
point_on-requires-clause-clean g c = λ k.
    let snapshot = whole_put c.update_snapshot.new.bytes c.update_snapshot.ensures.size c.deref_mut.ensures.value c.deref_mut.ensures.len in
    let w0 = g.D.Disk.medium c.self.inside.disk in
    rw (c.deref-2.ensures.value ∙ snapshot, c.deref-3.ensures.value) (agrees (saved g c k))

pub returns-in_err-point_on-clause-any_moment : goal.returns-in_err-point_on-clause-any_moment
returns-in_err-point_on-clause-any_moment g c = λ k. still_of c.self.view_is (c.point_on.ensures.any_moment k)

pub returns-clause-any_moment : goal.returns-clause-any_moment
returns-clause-any_moment g c = λ k. still_of c.self.view_is (c.point_on.ensures.any_moment k)

pub returns-clause-committed : goal.returns-clause-committed
returns-clause-committed g c = λ k.
    ap (λ (x : Geometry). recovered_state x (g.D.Disk.medium c.point_on.new.disk).now) c.point_on.ensures.geometry
    ∙ point_committed (saved g (goal.at.returns-clause-committed g c).After-deref-3 k) (g.met.D.Disk.bytes c.point_on.new.disk) (made g c k) ∙ ap committed c.self.view_is

pub returns-clause-emptied : goal.returns-clause-emptied
returns-clause-emptied g c = λ k. ap (λ (x : Geometry). records_in x (g.D.Disk.medium c.point_on.new.disk).now) c.point_on.ensures.geometry ∙ (made g c k).emptied

pub returns-clause-version : goal.returns-clause-version
returns-clause-version g c = λ k.
    ap (λ (x : Geometry). named_version x (g.D.Disk.medium c.point_on.new.disk).now) c.point_on.ensures.geometry
    ∙ pointed_version c.self.inside.halves c.update_snapshot.new.bytes (g.D.Disk.medium c.self.inside.disk) (g.D.Disk.medium c.point_on.new.disk) (state_in c.args.tree.now)
    (g.met.D.Disk.bytes c.point_on.new.disk) (saved g (goal.at.returns-clause-version g c).After-deref-3 k).spelled
    (made g c k)

pub returns-clause-recoverable : goal.returns-clause-recoverable
returns-clause-recoverable g c = λ k.
    let no_cut : c.self.inside.pieces_left ≡ None = ap (λ (h : JournalView). h.pieces_left) c.self.view_is ∙ c.requires.no_cut in
    recoverable_of
    (sound_along c.in_ok-point_on.ensures.log (whole_put c.update_snapshot.new.bytes c.update_snapshot.ensures.size c.deref_mut.ensures.value c.deref_mut.ensures.len) refl refl no_cut
    (point_sound (saved g (goal.at.returns-clause-recoverable g c).After-deref-3 k) (g.met.D.Disk.bytes c.point_on.new.disk) {named' = c.swap_and_clear_dirty.new.named.items}
    (ap (λ v. v.items) c.swap_and_clear_dirty.ensures.kept) (made g c k)))

pub invariant_of-self-2 : goal.invariant_of-self-2
invariant_of-self-2 g c =
    let no_cut : c.self.inside.pieces_left ≡ None = ap (λ (h : JournalView). h.pieces_left) c.self.view_is ∙ c.requires.no_cut in
    let snapshot = whole_put c.update_snapshot.new.bytes c.update_snapshot.ensures.size c.deref_mut.ensures.value c.deref_mut.ensures.len in
    let log = c.in_ok-point_on.ensures.log in
    let same = c.point_on.ensures.geometry in
    record {
      long_enough = omega (arith, c.self.invariant.long_enough, c.point_on.ensures.call.len, ap (λ (l : Log). device_size (layout_of_log l)) log);
      used = omega (arith, ap (λ (l : Log). l.used) log);
      fit = record {
        snapshot = ap length snapshot ∙ c.update_snapshot.ensures.size ∙ ap length c.deref_mut.ensures.value ∙ c.self.invariant.fit.snapshot ∙ sym (ap image_size same);
        named_dirty = ap length c.swap_and_clear_dirty.ensures.written ∙ length-replicate _ false ∙ c.self.invariant.fit.other_dirty ∙ sym (ap piece_count same);
        other_dirty = ap (λ v. length v.items) c.swap_and_clear_dirty.ensures.kept ∙ c.self.invariant.fit.named_dirty ∙ sym (ap piece_count same);
        pending = c.self.invariant.fit.pending ∙ sym (ap piece_count same);
      };
      fits_cut_state = λ _.
          subst (λ (o : Option ℕ). FitsCutState c.point_on.new.halves c.self.inside.buffers.pending.items o) (sym no_cut) (ap (λ (l : Log). l.current) log ∙ sym (ap (λ (l : Log). l.named) log));
      sound = λ _ k.
          sound_along c.in_ok-point_on.ensures.log snapshot refl refl no_cut
          (point_sound (saved g (goal.at.invariant_of-self-2 g c).After-deref-3 k) (g.met.D.Disk.bytes c.point_on.new.disk) (ap (λ v. v.items) c.swap_and_clear_dirty.ensures.kept) (made g c k));
      next_pending = c.self.invariant.next_pending;
      clean_before = c.self.invariant.clean_before;
    }

pub returns-in_err-point_on-clause-beyond : goal.returns-in_err-point_on-clause-beyond
returns-in_err-point_on-clause-beyond g c = λ k. beyond_of c.self.view_is (c.point_on.ensures.beyond k)

pub returns-clause-beyond : goal.returns-clause-beyond
returns-clause-beyond g c = λ k. beyond_of c.self.view_is (c.point_on.ensures.beyond k)

pub returns-in_err-point_on-clause-costs : goal.returns-in_err-point_on-clause-costs
returns-in_err-point_on-clause-costs g c =
    rw (err_is c.from_residual.ensures.1) (λ k.
    let dirty = ap point_cost c.deref-3.ensures.value ∙ ap (λ (h : JournalView). point_cost h.dirty.other) c.self.view_is in
    omega (arith, dirty, ap (λ (h : JournalView). moment_number h.medium) c.self.view_is, c.in_err-point_on.ensures.costs k))

pub returns-clause-costs : goal.returns-clause-costs
returns-clause-costs g c = λ k.
    let dirty = ap point_cost c.deref-3.ensures.value ∙ ap (λ (h : JournalView). point_cost h.dirty.other) c.self.view_is in
    omega (arith, dirty, ap (λ (h : JournalView). moment_number h.medium) c.self.view_is, c.in_ok-point_on.ensures.costs k)

pub returns-in_err-point_on-clause-few : goal.returns-in_err-point_on-clause-few
returns-in_err-point_on-clause-few g c = rw (← c.self.view_is) (few_writes c.self.inside.halves.geometry c.self.inside.buffers.other_dirty.items c.self.invariant.fit.other_dirty)

pub returns-clause-few : goal.returns-clause-few
returns-clause-few g c = rw (← c.self.view_is) (few_writes c.self.inside.halves.geometry c.self.inside.buffers.other_dirty.items c.self.invariant.fit.other_dirty)
