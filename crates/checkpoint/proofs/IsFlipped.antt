-- What the end of a cut asks of a journal, and what the journal keeps after it.
use Rattle.std.proofs.Common.{◌≡◌, ℕ, Bool, List, length, Option, Some, None, is_some, sym, ◌∙◌, ap, subst, arith}
use Rattle.recovery.specs.Recovery.{recovered_state}
use Rattle.recovery.specs.Version.{named_version}
use Rattle.disk.specs.CrashImages.{AreBytes}
use Rattle.disk.specs.Device.{Medium}
use Rattle.disk.proofs.IsTornFrom.{itself}
use Rattle.image.specs.Image.{version_in}
use Rattle.image.specs.Pieces.{piece_count}
use Rattle.checkpoint.specs.PointAndCut.{FitsCutState, IsFlipped, IsCutWritten, flipped_log}
use Rattle.checkpoint.specs.IsSoundJournal.{IsSoundJournal}
use Rattle.checkpoint.specs.RecoversByArea.{RecoversByArea}
use Rattle.checkpoint.specs.Images.{image_in}
use Rattle.checkpoint.proofs.RecordsInForce.{forced_synced, front_count}
use Rattle.checkpoint.proofs.Patches.{image_long}
use Rattle.checkpoint.proofs.ExtentLemmas.{all_agree}
use Rattle.checkpoint.proofs.DirtyPieces.{no_dirty}
use Rattle.checkpoint.proofs.RecoversByArea.{holds_now, named_below}
use Rattle.oplog.specs.Calls.{IsLongEnough}
use Rattle.oplog.specs.Changes.{IsReady}
use Rattle.device_map.specs.Layout.{layout_of, image_size, other}
use Rattle.oplog.specs.Log.{Log}

module _ {log : Log} {snapshot : List ℕ} {named others pending : List Bool} {pieces_left : Option ℕ} {w0 : Medium} (none_left : pieces_left ≡ Some 0) where
  pub flip_asks : IsLongEnough log w0 → length snapshot ≡ image_size log.geometry → length pending ≡ piece_count log.geometry → AreBytes w0.now
      → FitsCutState log pending pieces_left → IsSoundJournal log snapshot named others pending pieces_left w0 → IsCutWritten log snapshot w0
  flip_asks whole size size' are placed' sound =
      let placed = subst (λ (l : Option ℕ). FitsCutState log pending l) none_left placed' in
      let sound' = subst (λ (l : Option ℕ). IsSoundJournal log snapshot named others pending l w0) none_left sound in
      record {
        by = record {
          some = sound'.some;
          recovers = subst (λ (h : ℕ). RecoversByArea log.geometry log.named h (recovered_state log.geometry w0.now) w0) placed.0 sound'.recovers;
        };
        ready = subst (λ (h : ℕ). IsReady (layout_of log.geometry) h log.used w0) placed.0 sound'.ready;
        is = all_agree log.geometry (image_in log.geometry (other log.named) w0) snapshot (λ n few. sound'.by_cut.written n few (no_dirty pending n placed.1 (omega (arith, few, size'))))
            (image_long log.geometry (other log.named) w0 (omega arith) whole) size;
        behind = sound'.by_cut.behind;
      }

  pub flip_sound : {w1 : Medium} → AreBytes w0.now → AreBytes w1.now → FitsCutState log pending pieces_left → IsCutWritten log snapshot w0
      → IsSoundJournal log snapshot named others pending pieces_left w0 → IsFlipped log w0 w1 → IsSoundJournal (flipped_log log) snapshot others named pending None w1
  flip_sound {w1} are are' placed' written sound flipped =
      let placed = subst (λ (l : Option ℕ). FitsCutState log pending l) none_left placed' in
      let sound' = subst (λ (l : Option ℕ). IsSoundJournal log snapshot named others pending l w0) none_left sound in
      let is_area = named_below log.geometry log.named log.current (recovered_state log.geometry w0.now) w0 are sound.recovers in
      let same = holds_now log.geometry (other log.named) (other log.named) (recovered_state log.geometry w0.now) w1 are' flipped.at.recovers in
      let back : other (other log.named) ≡ log.named = omega (arith, is_area) in
      record {
        some = ap is_some same ∙ sound.some;
        recovers = rw (placed.0, same) flipped.at.recovers;
        ready = rw placed.0 flipped.at.ready;
        same_records = forced_synced log.geometry w1 flipped.at.synced;
        count = λ none. ap length flipped.alone ∙ front_count (layout_of log.geometry) (other log.named) log.used w1 flipped.at.ready;
        state = λ x is. sound.state x (sym same ∙ is);
        named_up_to_date = rw (same, flipped.images (other log.named) (omega arith) ∙ written.is) sound'.other_up_to_date;
        snapshot_up_to_date = λ none. rw same sound'.other_up_to_date;
        other_up_to_date = rw (same, back, flipped.images log.named is_area) sound.named_up_to_date;
        by_cut = tt;
      }

  pub flip_version : {w1 : Medium} → AreBytes w1.now → IsCutWritten log snapshot w0 → IsSoundJournal log snapshot named others pending pieces_left w0 → IsFlipped log w0 w1
      → named_version log.geometry w1.now ≡ 2
  flip_version {w1} are' written sound flipped =
      let sound' = subst (λ (l : Option ℕ). IsSoundJournal log snapshot named others pending l w0) none_left sound in
      ap (λ (n : ℕ). version_in (image_in log.geometry n w1)) (flipped.at.recovers w1.now (itself w1.now w1.unsynced are')).named
      ∙ ap version_in (flipped.images (other log.named) (omega arith) ∙ written.is) ∙ sound'.by_cut.version
