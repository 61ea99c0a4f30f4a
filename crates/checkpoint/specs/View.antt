-- Statement for engineers: The fields of a journal as contracts see them, and what it keeps true of them between calls.
use Rattle.std.specs.Prelude.{◌≡◌, ◌≤◌, false, length}
use Rattle.disk.specs.Device.{Medium}
use Rattle.checkpoint.specs.Buffers.{FitBuffers}
use Rattle.checkpoint.specs.Journal.{JournalView, journal_view_of}
use Rattle.checkpoint.specs.DirtyPieces.{AreCleanBefore}
use Rattle.checkpoint.specs.PointAndCut.{FitsCutState}
use Rattle.checkpoint.specs.IsSoundJournal.{IsSoundJournal}
use Rattle.checkpoint.specs.declared.journal.Journal.TheInside.{Inside}
use Rattle.oplog.specs.Calls.{IsLongEnough}

module _ {D : Type 0} (medium : D → Medium) where
  abbrev pub journal_view : Inside D → JournalView
  journal_view j = journal_view_of j.halves j.buffers.named_dirty.items j.buffers.other_dirty.items j.pieces_left (medium j.disk)

  -- `keeps`: the device keeps its bytes. `geometry.half` is how many records a half holds.
  pub record IsJournal (keeps : Type 0) (j : Inside D) : Type 0 where
    pub long_enough : IsLongEnough j.halves (medium j.disk)
    pub used : j.halves.used ≤ j.halves.geometry.half
    pub fit : FitBuffers j.halves.geometry j.buffers
    -- not only of a cut: without one, the current half is the named one
    pub fits_cut_state : j.halves.failed ≡ false → FitsCutState j.halves j.buffers.pending.items j.pieces_left
    pub sound : j.halves.failed ≡ false → keeps
        → IsSoundJournal j.halves j.buffers.snapshot.items j.buffers.named_dirty.items j.buffers.other_dirty.items j.buffers.pending.items
        j.pieces_left (medium j.disk)
    pub next_pending : j.next_pending ≤ length j.buffers.pending.items
    pub clean_before : AreCleanBefore j.next_pending j.buffers.pending.items
