-- What a journal keeps true of its device, along its view and its parts.
use Rattle.std.proofs.Common.{◌≡◌, ℕ, ◌-◌, Bool, true, false, List, length, Option, sym, ◌∙◌, ap, subst, arith, true≢false}
use Rattle.affinity.specs.declared.geometry.Geometry.{Geometry}
use Rattle.recovery.specs.Recovery.{recovered_state}
use Rattle.disk.specs.Device.{Medium}
use Rattle.image.specs.Pieces.{piece_count}
use Rattle.checkpoint.specs.Journal.{JournalView, IsRecoverable, RecoversStill, journal_view_of}
use Rattle.checkpoint.specs.PointAndCut.{FitsCutState}
use Rattle.checkpoint.specs.IsSoundJournal.{IsSoundJournal}
use Rattle.checkpoint.specs.DirtyPieces.{AreCleanBefore}
use Rattle.checkpoint.specs.View.{IsJournal, journal_view}
use Rattle.checkpoint.specs.Buffers.{FitBuffers, KeepsBuffers}
use Rattle.checkpoint.specs.declared.journal.Buffers.{Buffers}
use Rattle.checkpoint.specs.declared.journal.Journal.TheInside.{Inside}
use Rattle.checkpoint.proofs.RecordsInForce.{used_most}
use Rattle.checkpoint.proofs.RecoversByArea.{holds_by}
use Rattle.oplog.specs.Beyond.{KeepsBeyond}
use Rattle.oplog.specs.Log.{Log}
use Rattle.device_map.specs.Layout.{layout_of, device_size, image_size}

-- the journal's facts, in the words of contracts
pub recoverable_of : {log : Log} {snapshot : List ℕ} {named others pending a b : List Bool} {pieces_left : Option ℕ} {m : Medium}
    → IsSoundJournal log snapshot named others pending pieces_left m → IsRecoverable (journal_view_of log a b pieces_left m)
recoverable_of {log} {m} sound = record {
  some = sound.some;
  each = λ c gone. holds_by log.geometry log.named log.current (recovered_state log.geometry m.now) c (sound.recovers c gone);
  same_records = sound.same_records;
  room = λ none.
      omega (arith, sound.count none, used_most (layout_of log.geometry) log.current log.used m sound.ready);
}

-- what holds of a journal that hasn't failed
module _ {D : Type 0} {medium : D → Medium} {keeps : Type 0} {j : Inside D} {self : JournalView} (kept : IsJournal medium keeps j) (view : journal_view medium j ≡ self)
    (fine : self.failed ≡ false) where
  pub sound_of : keeps → IsSoundJournal j.halves j.buffers.snapshot.items j.buffers.named_dirty.items j.buffers.other_dirty.items j.buffers.pending.items j.pieces_left (medium j.disk)
  sound_of = kept.sound (ap (λ (h : JournalView). h.failed) view ∙ fine)

  pub fits_of : FitsCutState j.halves j.buffers.pending.items j.pieces_left
  fits_of = kept.fits_cut_state (ap (λ (h : JournalView). h.failed) view ∙ fine)

-- the buffers are as long as a tree of the journal's geometry asks
pub fit_as : {D : Type 0} {medium : D → Medium} {keeps : Type 0} {j : Inside D} {self : JournalView} {g : Geometry} → IsJournal medium keeps j → journal_view medium j ≡ self
    → g ≡ self.geometry → FitBuffers g j.buffers
fit_as {j = j} kept view same = subst (λ (h : Geometry). FitBuffers h j.buffers) (ap (λ (h : JournalView). h.geometry) view ∙ sym same) kept.fit

-- what holds of a journal after a call in which the device failed
pub failed_kept : {D : Type 0} {medium : D → Medium} {keeps : Type 0} {j : Inside D} {disk : D} {halves : Log} {buffers : Buffers} → IsJournal medium keeps j
    → halves.geometry ≡ j.halves.geometry → halves.used ≡ j.halves.used → halves.failed ≡ true → length (medium disk).now ≡ length (medium j.disk).now → KeepsBuffers j.buffers buffers
    → IsJournal medium keeps (record j { disk = disk; halves = halves; buffers = buffers })
failed_kept {j} kept geometry used failed long same = record {
  long_enough = omega (arith, kept.long_enough, long, ap (λ (g : Geometry). device_size (layout_of g)) geometry);
  used = omega (arith, kept.used, used, ap (λ (g : Geometry). g.half) geometry);
  fit = record {
    snapshot = same.size ∙ kept.fit.snapshot ∙ sym (ap image_size geometry);
    named_dirty = ap (λ (b : Buffers). length b.named_dirty.items) same.flags ∙ kept.fit.named_dirty ∙ sym (ap piece_count geometry);
    other_dirty = ap (λ (b : Buffers). length b.other_dirty.items) same.flags ∙ kept.fit.other_dirty ∙ sym (ap piece_count geometry);
    pending = ap (λ (b : Buffers). length b.pending.items) same.flags ∙ kept.fit.pending ∙ sym (ap piece_count geometry);
  };
  fits_cut_state = λ fine. absurd (true≢false (sym failed ∙ fine));
  sound = λ fine k. absurd (true≢false (sym failed ∙ fine));
  next_pending = omega (arith, kept.next_pending, ap (λ (b : Buffers). length b.pending.items) same.flags);
  clean_before = subst (λ (b : Buffers). AreCleanBefore j.next_pending b.pending.items) (sym same.flags) kept.clean_before;
}

pub failed_view : (log log' : Log) {named others : List Bool} {pieces_left : Option ℕ} {m m' : Medium} {self : JournalView} → log'.geometry ≡ log.geometry → log'.used ≡ log.used
    → log'.failed ≡ true → journal_view_of log named others pieces_left m ≡ self → journal_view_of log' named others pieces_left m' ≡ record self { failed = true; medium = m' }
failed_view log log' {named} {others} {pieces_left} {m} {m'} geometry used failed view =
    (λ i. record (journal_view_of log named others pieces_left m) { geometry = geometry i; room = (geometry i).half - used i; failed = failed i; medium = m' })
    ∙ ap (λ (h : JournalView). record h { failed = true; medium = m' }) view

-- what a step leaves of the device, in the words of contracts
pub still_of : {h self : JournalView} {w1 : Medium} → h ≡ self → RecoversStill h.geometry h.medium w1 → RecoversStill self.geometry self.medium w1
still_of {w1} view = subst (λ (h : JournalView). RecoversStill h.geometry h.medium w1) view

pub beyond_of : {h self : JournalView} {w1 : Medium} → h ≡ self → KeepsBeyond (layout_of h.geometry) h.medium w1 → KeepsBeyond (layout_of self.geometry) self.medium w1
beyond_of {w1} view = subst (λ (h : JournalView). KeepsBeyond (layout_of h.geometry) h.medium w1) view

-- a journal is sound if one with an equal log, snapshot, flags and count of pieces left is
pub sound_along : {log log' : Log} {snapshot snapshot' : List ℕ} {named named' others others' pending : List Bool} {pieces_left pieces_left' : Option ℕ} {m : Medium} → log' ≡ log
    → snapshot' ≡ snapshot → named' ≡ named → others' ≡ others → pieces_left' ≡ pieces_left → IsSoundJournal log snapshot named others pending pieces_left m
    → IsSoundJournal log' snapshot' named' others' pending pieces_left' m
sound_along {pending} {m} log bytes row row' pieces_left sound = subst (λ (t : Type 0). t) (sym (λ i. IsSoundJournal (log i) (bytes i) (row i) (row' i) pending (pieces_left i) m)) sound
