-- What a crash leaves at each moment while a cut that was in progress is finished, and what is on the device at its end.
use Rattle.std.proofs.Common.{◌≡◌, ◌<◌, ℕ, true, false, eqb, cond, not, ◌&&◌, nat_le, List, ◌++◌, Option, None, sym, ◌∙◌, ap, arith}
use Rattle.recovery.specs.Header.{is_header}
use Rattle.recovery.specs.Recovery.{recovered_state, decoding}
use Rattle.disk.specs.CrashImages.{AreBytes, CrashImagesAre, CrashesChangeOnly}
use Rattle.disk.specs.Device.{Medium}
use Rattle.disk.proofs.IsSynced.{synced_left}
use Rattle.disk.proofs.IsTornFrom.{itself}
use Rattle.disk.proofs.CrashImagesAre.{leaves_now, then, weaker}
use Rattle.image.specs.Image.{image_state}
use Rattle.checkpoint.specs.PointAndCut.{IsCutFinished, IsCutUnfinished}
use Rattle.checkpoint.specs.RecoversByArea.{RecoversByArea, run_on}
use Rattle.checkpoint.specs.Images.{Imaged, image_in}
use Rattle.checkpoint.proofs.RecoversByArea.{as_other, both_of, chain_other, half_same, holds_by, holds_moments, shut_current, shut_force}
use Rattle.oplog.specs.Changes.{Flipped, IsSameBut, IsSameButRoot}
use Rattle.oplog.specs.Crash.{RecoversBy, RecoversEitherWay}
use Rattle.oplog.specs.HalfContent.{chain, front}
use Rattle.device_map.specs.Layout.{layout_of, device_size, half_part, header_part, image_part, other}
use Rattle.oplog.specs.Log.{Log}
use Rattle.oplog.specs.Recovery.{is_laid_out, named_area, recovers_by_area}
use Rattle.oplog.proofs.AfterCrash.{flip_by_area, image_by_area, torn_root_recovers}
use Rattle.oplog.proofs.SameRecovery.{run-append}
use Rattle.meaning.specs.State.{State}

module _ (log : Log) (bytes : List ℕ) (w0 : Medium) (is_area : log.named < 2) (unfinished : IsCutUnfinished log bytes w0) where
  abbrev n : ℕ
  n = log.named

  abbrev x : Option State
  x = recovered_state log.geometry w0.now

  by_both : (c : List ℕ) → c ≡ w0.now → RecoversBy (decoding log.geometry) (layout_of log.geometry) n (other n) x c
  by_both c same = record {
    named = ap (λ (l : List ℕ). named_area (layout_of log.geometry) l) same ∙ unfinished.named;
    current = λ i. cond ((ap (λ (l : List ℕ). eqb (chain (layout_of log.geometry) n l) 1) same ∙ unfinished.chained) i) (other n) n;
    is = λ i. recovers_by_area (decoding log.geometry) (layout_of log.geometry) (sym unfinished.named i) (same i);
  }

  module _ (w1 : Medium) (writes : CrashesChangeOnly w0 w1 (IsSameBut (layout_of log.geometry) (image_part (other n)))) where
    by_image : CrashImagesAre w0 w1 (RecoversBy (decoding log.geometry) (layout_of log.geometry) n (other n) x)
    by_image = image_by_area (decoding log.geometry) (layout_of log.geometry) n (other n) x w0 w1 is_area (λ c left. by_both c (synced_left w0 c unfinished.synced left)) writes

    pub finish_image_moments : CrashImagesAre w0 w1 (λ c. recovered_state log.geometry c ≡ x)
    finish_image_moments = holds_moments log.geometry n (other n) x w0 w1 by_image

    module _ (are : AreBytes w1.now) (imaged : Imaged log.geometry (other n) bytes w0 w1) where
      image_recovers : RecoversByArea log.geometry n (other n) x w1
      image_recovers = leaves_now w0 w1 _ by_image

      half_kept : (front (layout_of log.geometry) (other n) w1.now ≡ front (layout_of log.geometry) (other n) w0.now)
          × (chain (layout_of log.geometry) (other n) w1.now ≡ chain (layout_of log.geometry) (other n) w0.now)
      half_kept = half_same (layout_of log.geometry) (other n) w0.now w1.now (imaged.same.others (half_part (other n)) (λ is. omega (arith, is)))

      laid : is_laid_out (decoding log.geometry) (layout_of log.geometry) w1.now ≡ true
      laid =
          let first = (half_same (layout_of log.geometry) 0 w0.now w1.now (imaged.same.others (half_part 0) (λ is. omega (arith, is)))).1 in
          let second = (half_same (layout_of log.geometry) 1 w0.now w1.now (imaged.same.others (half_part 1) (λ is. omega (arith, is)))).1 in
          let head = imaged.same.others header_part (λ is. omega (arith, is)) in
          (λ i. is_header log.geometry (head i) && nat_le (device_size (layout_of log.geometry)) (imaged.same.size i) && not (eqb (first i) 1 && eqb (second i) 1))
          ∙ unfinished.laid

      no_chain : eqb (chain (layout_of log.geometry) (other n) w1.now) 1 ≡ false
      no_chain = chain_other log.geometry n w1.now is_area laid (image_recovers w1.now (itself w1.now w1.unsynced are)).current

      both_lead : run_on log.geometry (image_state log.geometry (image_in log.geometry n w0)) (front (layout_of log.geometry) n w0.now ++ front (layout_of log.geometry) (other n) w0.now) ≡ x
      both_lead =
          sym (λ i. cond (unfinished.laid i) (run_on log.geometry (image_state log.geometry (image_in log.geometry n w0))
          (cond (unfinished.chained i) (front (layout_of log.geometry) n w0.now ++ front (layout_of log.geometry) (other n) w0.now) (front (layout_of log.geometry) n w0.now))) None)
          ∙ sym (ap (λ (k : ℕ). recovers_by_area (decoding log.geometry) (layout_of log.geometry) k w0.now) unfinished.named)

      leads : run_on log.geometry (image_state log.geometry bytes) (front (layout_of log.geometry) (other n) w0.now) ≡ x
      leads =
          ap (λ (o : Option State). run_on log.geometry o (front (layout_of log.geometry) (other n) w0.now)) unfinished.reads
          ∙ sym (run-append (decoding log.geometry) (image_state log.geometry (image_in log.geometry n w0)) (front (layout_of log.geometry) n w0.now) (front (layout_of log.geometry) (other n) w0.now))
          ∙ both_lead

      other_recovers : recovers_by_area (decoding log.geometry) (layout_of log.geometry) (other n) w1.now ≡ x
      other_recovers =
          as_other log.geometry (other n) w1.now laid imaged.is (shut_force (layout_of log.geometry) (other n) w1.now no_chain ∙ half_kept.0) leads

      either_way : RecoversEitherWay (decoding log.geometry) (layout_of log.geometry) x w1
      either_way c left =
          both_of (λ (k : ℕ). recovers_by_area (decoding log.geometry) (layout_of log.geometry) k c ≡ x) n is_area (image_recovers c left).is
          (ap (λ (l : List ℕ). recovers_by_area (decoding log.geometry) (layout_of log.geometry) (other n) l) (synced_left w1 c imaged.synced left) ∙ other_recovers)

      module _ (w2 : Medium) where
        pub finish_moments : CrashesChangeOnly w1 w2 (IsSameButRoot (layout_of log.geometry)) → CrashImagesAre w0 w2 (λ c. recovered_state log.geometry c ≡ x)
        finish_moments flips =
            then w0 w1 w2 _ finish_image_moments
            (weaker w1 w2 _ _ (torn_root_recovers (decoding log.geometry) (layout_of log.geometry) x w1 w2 either_way flips) (λ c recovered_before. holds_by log.geometry _ _ x c recovered_before))

        pub finished : Flipped (layout_of log.geometry) (other n) w1 w2 → IsCutFinished log w0 w2
        finished flipped = record {
          recovers = flip_by_area (decoding log.geometry) (layout_of log.geometry) (other n) (other n) x w1 w2 flipped (shut_current (layout_of log.geometry) (other n) w1.now no_chain) other_recovers;
          front = (half_same (layout_of log.geometry) (other n) w1.now w2.now (flipped.same.same.others (half_part (other n)) (λ is. omega (arith, is)))).0 ∙ half_kept.0;
          named = flipped.named;
          reads = ap (λ (l : List ℕ). image_state log.geometry l) (flipped.same.same.others (image_part (other n)) (λ is. omega (arith, is)) ∙ imaged.is) ∙ unfinished.reads;
          synced = flipped.synced;
        }
