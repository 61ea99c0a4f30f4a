-- A piece is written into the image that isn't named, so what a crash leaves recovers to the same; one piece fewer is left.
use Rattle.std.proofs.Common.{◌≡◌, ◌≢◌, ◌<◌, ◌-◌, ℕ, Bool, true, false, List, length, get_or, Option, Some, is_some, option_map, set, unwrap_or, refl, sym, ◌∙◌, ap, subst, arith}
use Rattle.std.proofs.lemmas.List.{length-set}
use Rattle.affinity.specs.declared.geometry.Geometry.{Geometry}
use Rattle.disk.specs.Device.{moment_number}
use Rattle.image.specs.Pieces.{piece_count}
use Rattle.disk.proofs.IsTornFrom.{itself}
use Rattle.disk.proofs.CrashImagesAre.{started}
use Rattle.checkpoint.specs.Journal.{JournalView, IsRecoverable, records, committed}
use Rattle.checkpoint.specs.PointAndCut.{FitsCutState}
use Rattle.checkpoint.specs.IsSoundJournal.{IsSoundJournal}
use Rattle.checkpoint.specs.DirtyPieces.{count_dirty, AreCleanBefore}
use Rattle.checkpoint.proofs.Costs.{takes_all, takes_most}
use Rattle.checkpoint.proofs.JournalLemmas.{beyond_of, failed_kept, failed_view, fits_of, recoverable_of, sound_of, still_of}
use Rattle.checkpoint.proofs.IsPointed.{other_written}
use Rattle.checkpoint.proofs.DirtyPieces.{clear_set, count_cleared}
use Rattle.checkpoint.proofs.PatchesUnnamed.{IsPieced, piece_counted, piece_left, piece_moments, piece_records, none_due, patches_one, piece_same, piece_some, piece_sound, pieced_along, some_left}
use Rattle.oplog.proofs.Beyond.{beyond, beyond_none}
use Rattle.device_map.specs.Layout.{device_size, image_size, layout_of, other}
use Rattle.oplog.specs.Log.{Log}
use Rattle.oplog.proofs.Results.{on_ok}
use Rattle.checkpoint.proofs.journal.Journal.piece.Given.{Over}
use Rattle.checkpoint.proofs.journal.Journal.piece.Goals.{After-deref-2, In-Some-pieces_left, In_default}
use Rattle.checkpoint.proofs.journal.Journal.piece.Goals as goal

-- the piece that is written was pending
was_pending : (g : Over) (c : After-deref-2 g) → get_or c.self.inside.buffers.pending.items c.in-Some.n false ≡ true
was_pending g c = subst (λ (l : List Bool). get_or l c.in-Some.n false ≡ true) c.deref.ensures.value c.in-Some.ensures.dirty_at

some_due : (g : Over) (c : After-deref-2 g) → c.args.self.now.pieces_left ≢ Some 0
some_due g c none =
    piece_some c.self.inside.halves c.self.inside.buffers.pending.items c.self.inside.pieces_left c.in-Some.n (fits_of c.self.invariant c.self.view_is c.requires.not_failed) (was_pending g c)
    (ap (λ (h : JournalView). h.pieces_left) c.self.view_is ∙ none)

-- where no piece is pending, none is left
none_left : (g : Over) (c : In_default g) → c.args.self.now.pieces_left ≡ Some 0
none_left g c =
    sym (ap (λ (h : JournalView). h.pieces_left) c.self.view_is)
    ∙ none_due c.self.inside.halves c.self.inside.buffers.pending.items c.self.inside.pieces_left (ap (λ (h : JournalView). is_some h.pieces_left) c.self.view_is ∙ c.requires.running)
    (fits_of c.self.invariant c.self.view_is c.requires.not_failed) (sym (ap count_dirty c.deref.ensures.value) ∙ c.in_default.ensures.none refl)

running : (g : Over) (c : After-deref-2 g) → is_some c.self.inside.pieces_left ≡ true
running g c = ap (λ (h : JournalView). is_some h.pieces_left) c.self.view_is ∙ c.requires.running

-- as many are left as are pending once this piece isn't
counted : (g : Over) (c : After-deref-2 g) → {left : ℕ} → left ≡ unwrap_or c.self.inside.pieces_left 0 - 1 → left ≡ count_dirty (set c.self.inside.buffers.pending.items c.in-Some.n false)
counted g c =
    piece_counted c.self.inside.halves c.self.inside.buffers.pending.items c.self.inside.pieces_left c.in-Some.n (running g c) (fits_of c.self.invariant c.self.view_is c.requires.not_failed)
    (was_pending g c)

pieced : (g : Over) (c : In-Some-pieces_left g) → g.D.Disk.keeps → IsPieced c.self.inside.halves.geometry (other c.self.inside.halves.named) c.in-Some.n c.self.inside.buffers.snapshot.items
    (g.D.Disk.medium c.self.inside.disk) (g.D.Disk.medium c.write_extent.new.disk)
pieced g c k =
    let is = on_ok c.write_extent.result _ (sym c.is_err.ensures.value ∙ c.if-is_err.false) c.write_extent.ensures.written k in
    pieced_along c.geometry-g.ensures (c.other-area.ensures ∙ ap other c.named.ensures.named) c.deref-2.ensures.value
    (assumption (c.write_extent.ensures.any_moment k, c.write_extent.ensures.same k, is, c.write_extent.ensures.ready k))

kept : (g : Over) (c : In-Some-pieces_left g) → g.D.Disk.keeps → (left : ℕ)
    → IsSoundJournal c.self.inside.halves c.self.inside.buffers.snapshot.items c.self.inside.buffers.named_dirty.items c.self.inside.buffers.other_dirty.items
    (set c.self.inside.buffers.pending.items c.in-Some.n false) (Some left) (g.D.Disk.medium c.write_extent.new.disk)
kept g c k left =
    let due = some_left c.self.inside.pieces_left (ap (λ (h : JournalView). is_some h.pieces_left) c.self.view_is ∙ c.requires.running) in
    piece_sound _ (g.met.D.Disk.bytes c.self.inside.disk) (sound_of c.self.invariant c.self.view_is c.requires.not_failed k) (g.met.D.Disk.bytes c.write_extent.new.disk)
    c.in-Some.n due.0 left due.1 (subst (λ (l : List Bool). c.in-Some.n < length l) c.deref.ensures.value c.in-Some.ensures.inside) (pieced g c k)

pub first_dirty-requires-clause-inside : goal.first_dirty-requires-clause-inside
first_dirty-requires-clause-inside g c = omega (arith, c.self.invariant.next_pending, ap length c.deref.ensures.value)

pub first_dirty-requires-clause-clear : goal.first_dirty-requires-clause-clear
first_dirty-requires-clause-clear g c = subst (λ (l : List Bool). AreCleanBefore c.self.inside.next_pending l) (sym c.deref.ensures.value) c.self.invariant.clean_before

pub write_extent-requires-clause-n : goal.write_extent-requires-clause-n
write_extent-requires-clause-n g c = omega (arith, c.in-Some.ensures.inside, ap length c.deref.ensures.value, c.self.invariant.fit.pending, ap piece_count c.geometry-g.ensures)

pub write_extent-requires-clause-size : goal.write_extent-requires-clause-size
write_extent-requires-clause-size g c = ap length c.deref-2.ensures.value ∙ c.self.invariant.fit.snapshot ∙ sym (ap image_size c.geometry-g.ensures)

pub write_extent-requires-clause-long_enough : goal.write_extent-requires-clause-long_enough
write_extent-requires-clause-long_enough g c = omega (arith, c.self.invariant.long_enough, ap (λ (x : Geometry). device_size (layout_of x)) c.geometry-g.ensures)

pub invariant_of-self : goal.invariant_of-self
invariant_of-self g c =
    let log = c.fail.ensures.log in
    failed_kept c.self.invariant (ap (λ (l : Log). l.geometry) log) (ap (λ (l : Log). l.used) log) (ap (λ (l : Log). l.failed) log) c.write_extent.ensures.call.len
    (record { size = refl; flags = refl })

pub returns-then-is_err-clause-after : goal.returns-then-is_err-clause-after
returns-then-is_err-clause-after g c =
    let log = c.fail.ensures.log in
    failed_view c.self.inside.halves c.fail.new.self (ap (λ (l : Log). l.geometry) log) (ap (λ (l : Log). l.used) log) (ap (λ (l : Log). l.failed) log) c.self.view_is

pub returns-then-is_err-clause-costs : goal.returns-then-is_err-clause-costs
returns-then-is_err-clause-costs g c = λ some k.
    omega (arith, ap (λ (h : JournalView). moment_number h.medium) c.self.view_is, takes_most c.write_extent.result _ _ _ (c.write_extent.ensures.costs k))

pub returns-clause-costs : goal.returns-clause-costs
returns-clause-costs g c = λ some k.
    let wrote = takes_all c.write_extent.result _ _ _ (sym c.is_err.ensures.value ∙ c.if-is_err.false) (c.write_extent.ensures.costs k) in
    omega (arith, ap (λ (h : JournalView). moment_number h.medium) c.self.view_is, wrote)

pub returns-in_default-clause-pieces_left : goal.returns-in_default-clause-pieces_left
returns-in_default-clause-pieces_left g c = ap (option_map (λ (l : ℕ). l - 1)) (none_left g c)

pub returns-in_default-clause-after : goal.returns-in_default-clause-after
returns-in_default-clause-after g c =
    ap (λ (o : Option ℕ). record c.args.self.now { pieces_left = o }) (none_left g c ∙ sym (ap (option_map (λ (l : ℕ). l - 1)) (none_left g c)))

pub returns-in_default-clause-recoverable : goal.returns-in_default-clause-recoverable
returns-in_default-clause-recoverable g c = λ k. subst (λ (h : JournalView). IsRecoverable h) c.self.view_is (recoverable_of (sound_of c.self.invariant c.self.view_is c.requires.not_failed k))

pub returns-in_default-clause-any_moment : goal.returns-in_default-clause-any_moment
returns-in_default-clause-any_moment g c = λ k.
    started c.args.self.now.medium _ (subst (λ (h : JournalView). IsRecoverable h) c.self.view_is (recoverable_of (sound_of c.self.invariant c.self.view_is c.requires.not_failed k))).each

pub returns-then-is_err-clause-any_moment : goal.returns-then-is_err-clause-any_moment
returns-then-is_err-clause-any_moment g c = λ k.
    still_of c.self.view_is
    (piece_moments _ (g.met.D.Disk.bytes c.self.inside.disk) (sound_of c.self.invariant c.self.view_is c.requires.not_failed k)
    (other_written _ _ c.geometry-g.ensures c.other-area.ensures c.named.ensures.named (c.write_extent.ensures.any_moment k)))

pub returns-then-is_err-clause-none : goal.returns-then-is_err-clause-none
returns-then-is_err-clause-none g c = λ none. absurd (some_due g (goal.at.returns-then-is_err-clause-none g c).After-deref-2 none)

pub returns-clause-none : goal.returns-clause-none
returns-clause-none g c = λ none. absurd (some_due g (goal.at.returns-clause-none g c).After-deref-2 none)

pub returns-clause-any_moment : goal.returns-clause-any_moment
returns-clause-any_moment g c = λ k.
    still_of c.self.view_is
    (piece_moments _ (g.met.D.Disk.bytes c.self.inside.disk) (sound_of c.self.invariant c.self.view_is c.requires.not_failed k)
    (other_written _ _ c.geometry-g.ensures c.other-area.ensures c.named.ensures.named (c.write_extent.ensures.any_moment k)))

pub returns-clause-committed : goal.returns-clause-committed
returns-clause-committed g c = λ k.
    piece_same _ (g.met.D.Disk.bytes c.self.inside.disk) (sound_of c.self.invariant c.self.view_is c.requires.not_failed k) (g.met.D.Disk.bytes c.write_extent.new.disk)
    (other_written _ _ c.geometry-g.ensures c.other-area.ensures c.named.ensures.named (c.write_extent.ensures.any_moment k)) ∙ ap committed c.self.view_is

pub overflow_sub-left : goal.overflow_sub-left
overflow_sub-left g c =
    let placed = subst (λ (l : Option ℕ). FitsCutState c.self.inside.halves c.self.inside.buffers.pending.items l) c.in-Some-pieces_left.is
    (fits_of c.self.invariant c.self.view_is c.requires.not_failed) in
    omega (arith, count_cleared c.self.inside.buffers.pending.items c.in-Some.n (was_pending g (goal.at.overflow_sub-left g c).After-deref-2), placed.1)

pub returns-clause-recoverable : goal.returns-clause-recoverable
returns-clause-recoverable g c = λ k. recoverable_of (kept g (goal.at.returns-clause-recoverable g c).In-Some-pieces_left k (c.in-Some-pieces_left.before - 1))

pub returns-clause-pieces_left : goal.returns-clause-pieces_left
returns-clause-pieces_left g c =
    let here = (goal.at.returns-clause-pieces_left g c).After-deref-2 in
    sym (ap (λ (h : JournalView). option_map (λ (l : ℕ). l - 1) h.pieces_left) c.self.view_is)
    ∙ piece_left c.self.inside.halves c.self.inside.buffers.pending.items c.self.inside.pieces_left c.in-Some.n (running g here) (fits_of c.self.invariant c.self.view_is c.requires.not_failed)
    (was_pending g here)
    (counted g here (ap (λ (o : Option ℕ). unwrap_or o 0 - 1) (sym c.in-Some-pieces_left.is)))

pub returns-clause-after : goal.returns-clause-after
returns-clause-after g c =
    let here = (goal.at.returns-clause-after g c).After-deref-2 in
    let pieces_left = piece_left c.self.inside.halves c.self.inside.buffers.pending.items c.self.inside.pieces_left c.in-Some.n (running g here)
    (fits_of c.self.invariant c.self.view_is c.requires.not_failed) (was_pending g here)
    (counted g here (ap (λ (o : Option ℕ). unwrap_or o 0 - 1) (sym c.in-Some-pieces_left.is))) in
    ap (λ (h : JournalView). record h { pieces_left = Some (c.in-Some-pieces_left.before - 1); medium = g.D.Disk.medium c.write_extent.new.disk }) c.self.view_is
    ∙ ap (λ (l : Option ℕ). record c.args.self.now { pieces_left = l; medium = g.D.Disk.medium c.write_extent.new.disk })
    (sym pieces_left ∙ ap (λ (h : JournalView). option_map (λ (l : ℕ). l - 1) h.pieces_left) c.self.view_is)

pub returns-clause-records : goal.returns-clause-records
returns-clause-records g c = λ k.
    piece_records _ (g.met.D.Disk.bytes c.self.inside.disk) (sound_of c.self.invariant c.self.view_is c.requires.not_failed k) (g.met.D.Disk.bytes c.write_extent.new.disk)
    (other_written _ _ c.geometry-g.ensures c.other-area.ensures c.named.ensures.named (c.write_extent.ensures.any_moment k)) ∙ ap records c.self.view_is

pub returns-in_default-clause-one : goal.returns-in_default-clause-one
returns-in_default-clause-one g c = λ some. absurd (some (none_left g c))

pub returns-in_default-clause-costs : goal.returns-in_default-clause-costs
returns-in_default-clause-costs g c = λ some. absurd (some (none_left g c))

pub returns-clause-one : goal.returns-clause-one
returns-clause-one g c = λ some k.
    let w0 = g.D.Disk.medium c.self.inside.disk in
    let named = ((sound_of c.self.invariant c.self.view_is c.requires.not_failed k).recovers w0.now (itself w0.now w0.unsynced (g.met.D.Disk.bytes c.self.inside.disk))).named in
    rw (← c.self.view_is) (patches_one named (pieced g (goal.at.returns-clause-one g c).In-Some-pieces_left k))

pub invariant_of-self-2 : goal.invariant_of-self-2
invariant_of-self-2 g c =
    let here = (goal.at.invariant_of-self-2 g c).After-deref-2 in
    let few = subst (λ (l : List Bool). c.in-Some.n < length l) c.deref.ensures.value c.in-Some.ensures.inside in
    record {
      long_enough = omega (arith, c.self.invariant.long_enough, c.write_extent.ensures.call.len);
      used = c.self.invariant.used;
      fit = record {
        snapshot = c.self.invariant.fit.snapshot;
        named_dirty = c.self.invariant.fit.named_dirty;
        other_dirty = c.self.invariant.fit.other_dirty;
        pending = length-set c.self.inside.buffers.pending.items c.in-Some.n false ∙ c.self.invariant.fit.pending;
      };
      fits_cut_state = λ _.
          let due = some_left c.self.inside.pieces_left (running g here) in
          let placed = subst (λ (l : Option ℕ). FitsCutState c.self.inside.halves c.self.inside.buffers.pending.items l) due.1 (fits_of c.self.invariant c.self.view_is c.requires.not_failed) in
          (placed.0, sym (counted g here (ap (λ (o : Option ℕ). unwrap_or o 0 - 1) (sym c.in-Some-pieces_left.is))));
      sound = λ _ k. kept g (goal.at.invariant_of-self-2 g c).In-Some-pieces_left k (c.in-Some-pieces_left.before - 1);
      next_pending = let long = length-set c.self.inside.buffers.pending.items c.in-Some.n false in omega (arith, few, long);
      clean_before = clear_set c.in-Some.n c.self.inside.buffers.pending.items few (subst (λ (l : List Bool). AreCleanBefore c.in-Some.n l) c.deref.ensures.value c.in-Some.ensures.clear);
    }

pub returns-in_default-clause-beyond : goal.returns-in_default-clause-beyond
returns-in_default-clause-beyond g c = λ k. beyond_none (layout_of c.args.self.now.geometry) c.args.self.now.medium

pub returns-then-is_err-clause-beyond : goal.returns-then-is_err-clause-beyond
returns-then-is_err-clause-beyond g c = λ k.
    beyond_of c.self.view_is (beyond (layout_of c.self.inside.halves.geometry) _ _ _ (λ o d h. h.rest)
    (other_written _ _ c.geometry-g.ensures c.other-area.ensures c.named.ensures.named (c.write_extent.ensures.any_moment k)))

pub returns-clause-beyond : goal.returns-clause-beyond
returns-clause-beyond g c = λ k.
    beyond_of c.self.view_is (beyond (layout_of c.self.inside.halves.geometry) _ _ _ (λ o d h. h.rest)
    (other_written _ _ c.geometry-g.ensures c.other-area.ensures c.named.ensures.named (c.write_extent.ensures.any_moment k)))
