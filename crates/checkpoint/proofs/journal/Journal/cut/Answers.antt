-- A snapshot of the committed state is made, the log goes on in the other half, and the other image's dirty pieces are left to write.
use Rattle.std.proofs.Common.{◌≡◌, ◌-◌, Bool, false, Option, Some, ℕ, List, length, replicate, refl, sym, ◌∙◌, ap, subst, arith}
use Rattle.std.proofs.lemmas.List.{length-replicate}
use Rattle.oplog.proofs.Results.{err_is}
use Rattle.affinity.specs.declared.geometry.Geometry.{Geometry}
use Rattle.recovery.specs.Recovery.{recovered_state}
use Rattle.disk.specs.Device.{moment_number}
use Rattle.image.specs.Pieces.{piece_count}
use Rattle.checkpoint.specs.Journal.{JournalView, records, committed, journal_view_of}
use Rattle.checkpoint.specs.PointAndCut.{FitsCutState}
use Rattle.checkpoint.specs.DirtyPieces.{count_dirty, cut_dirty}
use Rattle.checkpoint.proofs.JournalLemmas.{beyond_of, failed_kept, failed_view, fit_as, fits_of, recoverable_of, sound_along, still_of}
use Rattle.checkpoint.proofs.DirtyPieces.{count_most, whole_items, whole_put}
use Rattle.checkpoint.proofs.PointOrCut.{cut_committed, cut_sound, is_alone, Saves, saves}
use Rattle.device_map.specs.Layout.{device_size, image_size, other}
use Rattle.oplog.specs.Log.{Log, chained, layout_of_log}
use Rattle.oplog.specs.Recovery.{records_in}
use Rattle.parcel.specs.Tree.{state_in}
use Rattle.checkpoint.proofs.journal.Journal.cut.Given.{Over}
use Rattle.checkpoint.proofs.journal.Journal.cut.Goals.{After-update_snapshot}
use Rattle.checkpoint.proofs.journal.Journal.cut.Goals as goal

saved : (g : Over) (c : After-update_snapshot g) → g.D.Disk.keeps
    → Saves c.self.inside.halves c.self.inside.buffers.snapshot.items c.update_snapshot.new.bytes c.self.inside.buffers.named_dirty.items c.self.inside.buffers.other_dirty.items
    c.self.inside.buffers.pending.items (g.D.Disk.medium c.self.inside.disk) (state_in c.args.tree.now)
saved g c k =
    saves {self = c.args.self.now} {tree = c.args.tree.now} c.self.invariant c.self.view_is k
    (record { not_failed = c.requires.not_failed; no_cut = c.requires.no_cut; geometry = c.requires.geometry; state = c.requires.whole.state; committed = c.requires.state k })
    (g.met.D.Disk.bytes c.self.inside.disk) c.deref.ensures.value c.deref_mut.ensures.value c.update_snapshot.ensures.image

pub update_snapshot-requires-clause-dirty : goal.update_snapshot-requires-clause-dirty
update_snapshot-requires-clause-dirty g c = ap length c.deref.ensures.value ∙ (fit_as c.self.invariant c.self.view_is c.requires.geometry).named_dirty

pub update_snapshot-requires-clause-size : goal.update_snapshot-requires-clause-size
update_snapshot-requires-clause-size g c = ap length c.deref_mut.ensures.value ∙ (fit_as c.self.invariant c.self.view_is c.requires.geometry).snapshot

pub cut_on-requires-clause-current_is_named : goal.cut_on-requires-clause-current_is_named
cut_on-requires-clause-current_is_named g c =
    subst (λ (o : Option ℕ). FitsCutState c.self.inside.halves c.self.inside.buffers.pending.items o) (ap (λ (h : JournalView). h.pieces_left) c.self.view_is ∙ c.requires.no_cut)
    (fits_of c.self.invariant c.self.view_is c.requires.not_failed)

pub cut_on-requires-clause-alone : goal.cut_on-requires-clause-alone
cut_on-requires-clause-alone g c = λ k. is_alone (saved g (goal.at.cut_on-requires-clause-alone g c).After-update_snapshot k)

pub invariant_of-self : goal.invariant_of-self
invariant_of-self g c =
    let snapshot = whole_put c.update_snapshot.new.bytes c.update_snapshot.ensures.size c.deref_mut.ensures.value c.deref_mut.ensures.len in
    failed_kept c.self.invariant c.cut_on.ensures.geometry c.in_err-cut_on.ensures.used c.in_err-cut_on.ensures.failed c.cut_on.ensures.call.len
    (record { size = ap length snapshot ∙ c.update_snapshot.ensures.size ∙ ap length c.deref_mut.ensures.value; flags = refl })

pub returns-in_err-cut_on-clause-broken : goal.returns-in_err-cut_on-clause-broken
returns-in_err-cut_on-clause-broken g c =
    rw (err_is c.from_residual.ensures.1)
    (failed_view c.self.inside.halves c.cut_on.new.halves c.cut_on.ensures.geometry c.in_err-cut_on.ensures.used c.in_err-cut_on.ensures.failed c.self.view_is)

pub returns-in_err-cut_on-clause-costs : goal.returns-in_err-cut_on-clause-costs
returns-in_err-cut_on-clause-costs g c =
    rw (err_is c.from_residual.ensures.1) (λ k. omega (arith, ap (λ (h : JournalView). moment_number h.medium) c.self.view_is, c.in_err-cut_on.ensures.costs k))

pub returns-in_err-cut_on-clause-call : goal.returns-in_err-cut_on-clause-call
returns-in_err-cut_on-clause-call g c = rw (err_is c.from_residual.ensures.1, ← c.self.view_is) c.in_err-cut_on.ensures.call

pub returns-in_err-cut_on-clause-any_moment : goal.returns-in_err-cut_on-clause-any_moment
returns-in_err-cut_on-clause-any_moment g c = λ k. still_of c.self.view_is (c.cut_on.ensures.any_moment k)

pub returns-clause-any_moment : goal.returns-clause-any_moment
returns-clause-any_moment g c = λ k. still_of c.self.view_is (c.cut_on.ensures.any_moment k)

pub returns-clause-committed : goal.returns-clause-committed
returns-clause-committed g c = λ k.
    ap (λ (x : Geometry). recovered_state x (g.D.Disk.medium c.cut_on.new.disk).now) c.cut_on.ensures.geometry
    ∙ cut_committed (saved g (goal.at.returns-clause-committed g c).After-update_snapshot k) (g.met.D.Disk.bytes c.cut_on.new.disk) (c.in_ok-cut_on.ensures.begun k) ∙ ap committed c.self.view_is

pub returns-clause-recoverable : goal.returns-clause-recoverable
returns-clause-recoverable g c = λ k.
    recoverable_of
    (sound_along c.in_ok-cut_on.ensures.log (whole_put c.update_snapshot.new.bytes c.update_snapshot.ensures.size c.deref_mut.ensures.value c.deref_mut.ensures.len) refl refl refl
    (cut_sound (saved g (goal.at.returns-clause-recoverable g c).After-update_snapshot k) (g.met.D.Disk.bytes c.cut_on.new.disk)
    {others' = whole_items c.swap.new.y.len c.clear_dirty.new.dirty c.swap.new.y.items} (ap (λ v. v.items) c.swap.ensures.x_after) (c.in_ok-cut_on.ensures.begun k)))

pub returns-clause-begun : goal.returns-clause-begun
returns-clause-begun g c =
    let w1 = g.D.Disk.medium c.cut_on.new.disk in
    let count = c.count_dirty.ensures ∙ ap count_dirty c.deref-2.ensures.value ∙ ap (λ v. count_dirty v.items) c.swap.ensures.x_after in
    let all : c.self.inside.halves.geometry.half - 0 ≡ c.self.inside.halves.geometry.half = omega arith in
    let named = c.self.inside.buffers.named_dirty.items in
    let put = whole_put c.clear_dirty.new.dirty (ap length c.clear_dirty.ensures ∙ length-replicate _ false) c.deref_mut-2.ensures.value c.deref_mut-2.ensures.len in
    let long : length c.deref_mut-2.result.now ≡ length c.self.inside.buffers.other_dirty.items =
    ap length c.deref_mut-2.ensures.value ∙ ap (λ v. length v.items) c.swap.ensures.y_after ∙ c.self.invariant.fit.pending ∙ sym c.self.invariant.fit.other_dirty in
    let others = put ∙ c.clear_dirty.ensures ∙ ap (λ (n : ℕ). replicate n false) long in
    ap (λ (l : Log). journal_view_of l named (whole_items c.swap.new.y.len c.clear_dirty.new.dirty c.swap.new.y.items) (Some c.count_dirty.result) w1) c.in_ok-cut_on.ensures.log
    ∙ ap (λ (l : List Bool). journal_view_of (chained c.self.inside.halves) named l (Some c.count_dirty.result) w1) others
    ∙ ap (λ (n : ℕ). journal_view_of (chained c.self.inside.halves) named (replicate (length c.self.inside.buffers.other_dirty.items) false) (Some n) w1) count
    ∙ ap (λ (n : ℕ). record (journal_view_of (chained c.self.inside.halves) named (replicate (length c.self.inside.buffers.other_dirty.items) false)
    (Some (count_dirty c.self.inside.buffers.other_dirty.items)) w1) { room = n }) all
    ∙ ap (λ (h : JournalView). record h { room = h.geometry.half; pieces_left = Some (count_dirty h.dirty.other); dirty = cut_dirty h.dirty; medium = w1 }) c.self.view_is

pub returns-clause-few : goal.returns-clause-few
returns-clause-few g c = rw (← c.self.view_is) (omega (arith, count_most c.self.inside.buffers.other_dirty.items, c.self.invariant.fit.other_dirty))

pub returns-clause-records : goal.returns-clause-records
returns-clause-records g c = λ k.
    ap (λ (x : Geometry). records_in x (g.D.Disk.medium c.cut_on.new.disk).now) c.cut_on.ensures.geometry ∙ (c.in_ok-cut_on.ensures.begun k).same_records ∙ ap records c.self.view_is

pub returns-clause-images : goal.returns-clause-images
returns-clause-images g c = λ k. rw (← c.self.view_is) (c.in_ok-cut_on.ensures.begun k).images

pub invariant_of-self-2 : goal.invariant_of-self-2
invariant_of-self-2 g c =
    let snapshot = whole_put c.update_snapshot.new.bytes c.update_snapshot.ensures.size c.deref_mut.ensures.value c.deref_mut.ensures.len in
    let log = c.in_ok-cut_on.ensures.log in
    let same = c.cut_on.ensures.geometry in
    let cleared = whole_put c.clear_dirty.new.dirty (ap length c.clear_dirty.ensures ∙ length-replicate _ false) c.deref_mut-2.ensures.value c.deref_mut-2.ensures.len in
    record {
      long_enough = omega (arith, c.self.invariant.long_enough, c.cut_on.ensures.call.len, ap (λ (l : Log). device_size (layout_of_log l)) log);
      used = omega (arith, ap (λ (l : Log). l.used) log);
      fit = record {
        snapshot = ap length snapshot ∙ c.update_snapshot.ensures.size ∙ ap length c.deref_mut.ensures.value ∙ c.self.invariant.fit.snapshot ∙ sym (ap image_size same);
        named_dirty = c.self.invariant.fit.named_dirty ∙ sym (ap piece_count same);
        other_dirty = ap length cleared ∙ ap length c.clear_dirty.ensures ∙ length-replicate _ false ∙ ap length c.deref_mut-2.ensures.value
            ∙ ap (λ v. length v.items) c.swap.ensures.y_after ∙ c.self.invariant.fit.pending ∙ sym (ap piece_count same);
        pending = ap (λ v. length v.items) c.swap.ensures.x_after ∙ c.self.invariant.fit.other_dirty ∙ sym (ap piece_count same);
      };
      fits_cut_state = λ _. (
        ap (λ (l : Log). l.current) log ∙ sym (ap (λ (l : Log). other l.named) log),
        sym (c.count_dirty.ensures ∙ ap count_dirty c.deref-2.ensures.value),
      );
      sound = λ _ k.
          sound_along c.in_ok-cut_on.ensures.log snapshot refl refl refl
          (cut_sound (saved g (goal.at.invariant_of-self-2 g c).After-update_snapshot k) (g.met.D.Disk.bytes c.cut_on.new.disk)
          (ap (λ v. v.items) c.swap.ensures.x_after) (c.in_ok-cut_on.ensures.begun k));
      next_pending = omega arith;
      clean_before = λ i few. absurd (omega (arith, few));
    }

pub returns-in_err-cut_on-clause-beyond : goal.returns-in_err-cut_on-clause-beyond
returns-in_err-cut_on-clause-beyond g c = λ k. beyond_of c.self.view_is (c.cut_on.ensures.beyond k)

pub returns-clause-beyond : goal.returns-clause-beyond
returns-clause-beyond g c = λ k. beyond_of c.self.view_is (c.cut_on.ensures.beyond k)
