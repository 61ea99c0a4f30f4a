-- Inner: What a journal keeps true of its device between calls.
use Rattle.std.specs.Prelude.{◌≡◌, ℕ, Bool, true, List, length, Option, Some, None, is_some}
use Rattle.recovery.specs.Recovery.{recovered_state}
use Rattle.disk.specs.CrashImages.{IsCrashImage}
use Rattle.disk.specs.Device.{Medium}
use Rattle.checkpoint.specs.RecoversByArea.{RecoversByArea}
use Rattle.checkpoint.specs.PointAndCut.{IsCutIfRunning, image_after_cut}
use Rattle.checkpoint.specs.Images.{image_in}
use Rattle.checkpoint.specs.Extents.{IsUpToDate}
use Rattle.oplog.specs.Calls.{IsReadyFor}
use Rattle.oplog.specs.Log.{Log}
use Rattle.oplog.specs.Recovery.{records_in}
use Rattle.meaning.specs.State.{State, IsState}

-- What holds of a journal whose device has not failed and keeps its bytes. `named` and `others` are the dirty flags of the named
-- image and of the other one; `pending` flags the pieces of a cut that are still to be written.
pub record IsSoundJournal (log : Log) (snapshot : List ℕ) (named others pending : List Bool)
    (pieces_left : Option ℕ) (m : Medium) : Type 0 where
  pub some : is_some (recovered_state log.geometry m.now) ≡ true
  pub recovers : RecoversByArea log.geometry log.named log.current (recovered_state log.geometry m.now) m
  pub ready : IsReadyFor log m
  pub same_records : (c : List ℕ) → IsCrashImage m c → records_in log.geometry c ≡ records_in log.geometry m.now
  pub count : pieces_left ≡ None → length (records_in log.geometry m.now) ≡ log.used
  pub state : (x : State) → recovered_state log.geometry m.now ≡ Some x → IsState log.geometry x
  pub named_up_to_date : IsUpToDate log.geometry (recovered_state log.geometry m.now) named (image_in log.geometry log.named m)
  -- while no cut is in progress, the last snapshot is the named image, so that the same flags hold of it
  pub snapshot_up_to_date : pieces_left ≡ None → IsUpToDate log.geometry (recovered_state log.geometry m.now) named snapshot
  pub other_up_to_date : IsUpToDate log.geometry (recovered_state log.geometry m.now) others (image_after_cut log snapshot pieces_left m)
  pub by_cut : IsCutIfRunning log snapshot pending pieces_left m
