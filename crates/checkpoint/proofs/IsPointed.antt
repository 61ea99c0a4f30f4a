-- What a crash leaves at each moment of a point, and what is on the device at its end.
use Rattle.std.proofs.Common.{◌≡◌, ◌<◌, ◌≤◌, ℕ, Bool, false, eqb, List, [], length, Option, refl, ◌∙◌, ap, subst, arith}
use Rattle.affinity.specs.declared.geometry.Geometry.{Geometry}
use Rattle.recovery.specs.Recovery.{recovered_state, decoding}
use Rattle.disk.specs.CrashImages.{AreBytes, CrashImagesAre, CrashesChangeOnly}
use Rattle.disk.specs.Device.{Medium}
use Rattle.disk.proofs.IsSynced.{synced_left}
use Rattle.disk.proofs.IsTornFrom.{itself}
use Rattle.disk.proofs.CrashImagesAre.{leaves_now, then, weaker}
use Rattle.image.specs.Image.{image_state}
use Rattle.checkpoint.specs.PointAndCut.{IsPointed}
use Rattle.checkpoint.specs.RecoversByArea.{RecoversByArea, RecoversByNamedAlone}
use Rattle.checkpoint.specs.Extents.{AgreeOnClean}
use Rattle.checkpoint.specs.Images.{Imaged, image_in}
use Rattle.checkpoint.proofs.RecoversByArea.{as_other, both_of, half_same, holds_by, holds_moments, laid_by, not_one, ready_none, run_none, shut_current, shut_force}
use Rattle.oplog.specs.Beyond.{KeepsBeyond}
use Rattle.oplog.specs.Changes.{Cleared, Flipped, IsSameBut, IsSameButChainAndGates, IsSameButRoot}
use Rattle.oplog.specs.Crash.{RecoversBy, RecoversEitherWay}
use Rattle.oplog.specs.HalfContent.{chain, front}
use Rattle.oplog.specs.Log.{Log, layout_of_log}
use Rattle.device_map.specs.Layout.{layout_of, device_size, part_bytes, half_part, image_part, other}
use Rattle.oplog.specs.Recovery.{in_force, recovers_by_area}
use Rattle.oplog.proofs.AfterCrash.{clear_by_area, flip_by_area, image_by_area, torn_root_recovers}
use Rattle.oplog.proofs.Beyond.{beyond, beyond_then}
use Rattle.oplog.proofs.Ready.{ready_kept}
use Rattle.meaning.specs.State.{State}

module _ (log : Log) (is_area : log.named < 2) (w0 w1 : Medium) (alone : RecoversByNamedAlone log w0)
    (clears : CrashesChangeOnly w0 w1 (IsSameButChainAndGates (layout_of_log log) (other log.named))) where
  abbrev g : Geometry
  g = log.geometry

  abbrev n : ℕ
  n = log.named

  abbrev x : Option State
  x = recovered_state log.geometry w0.now

  by_clear : CrashImagesAre w0 w1 (RecoversBy (decoding g) (layout_of g) n n x)
  by_clear = clear_by_area (decoding g) (layout_of g) n x w0 w1 is_area alone.recovers clears

  pub clear_moments : CrashImagesAre w0 w1 (λ c. recovered_state g c ≡ x)
  clear_moments = holds_moments g n n x w0 w1 by_clear

  pub clear_beyond : KeepsBeyond (layout_of g) w0 w1
  clear_beyond = beyond (layout_of g) w0 w1 _ (λ o d h. h.same.rest) clears

  pub clear_recovers : RecoversByArea g n n x w1
  clear_recovers = leaves_now w0 w1 _ by_clear

  module _ (w2 : Medium) (writes : CrashesChangeOnly w1 w2 (IsSameBut (layout_of g) (image_part (other n)))) where
    by_image : CrashImagesAre w0 w2 (RecoversBy (decoding g) (layout_of g) n n x)
    by_image = then w0 w1 w2 _ by_clear (image_by_area (decoding g) (layout_of g) n n x w1 w2 is_area clear_recovers writes)

    pub image_moments : CrashImagesAre w0 w2 (λ c. recovered_state g c ≡ x)
    image_moments = holds_moments g n n x w0 w2 by_image

    pub image_beyond : KeepsBeyond (layout_of g) w0 w2
    image_beyond = beyond_then (layout_of g) w0 w1 w2 clear_beyond (beyond (layout_of g) w1 w2 _ (λ o d h. h.rest) writes)

    pub flip_beyond : (w3 : Medium) → CrashesChangeOnly w2 w3 (IsSameButRoot (layout_of g)) → KeepsBeyond (layout_of g) w0 w3
    flip_beyond w3 flips = beyond_then (layout_of g) w0 w2 w3 image_beyond (beyond (layout_of g) w2 w3 _ (λ o d h. h.same.rest) flips)

    module _ (bytes : List ℕ) (reads : image_state g bytes ≡ x) (cleared : Cleared (layout_of g) (other n) w0 w1) (imaged : Imaged g (other n) bytes w1 w2) where
      image_recovers : RecoversByArea g n n x w2
      image_recovers = leaves_now w0 w2 _ by_image

      half_kept : (front (layout_of g) (other n) w2.now ≡ front (layout_of g) (other n) w1.now) × (chain (layout_of g) (other n) w2.now ≡ chain (layout_of g) (other n) w1.now)
      half_kept = half_same (layout_of g) (other n) w1.now w2.now (imaged.same.others (half_part (other n)) (λ is. omega (arith, is)))

      no_chain : eqb (chain (layout_of g) (other n) w2.now) 1 ≡ false
      no_chain = not_one _ (half_kept.1 ∙ cleared.chain)

      no_force : in_force (layout_of g) (other n) w2.now ≡ []
      no_force = shut_force (layout_of g) (other n) w2.now no_chain ∙ half_kept.0 ∙ ready_none (layout_of g) (other n) w1 cleared.ready

      other_recovers : (c : List ℕ) → c ≡ w2.now → recovers_by_area (decoding g) (layout_of g) n c ≡ x → recovers_by_area (decoding g) (layout_of g) (other n) c ≡ x
      other_recovers c is own =
          as_other g (other n) c (laid_by g n x c own alone.some) (ap (λ (l : List ℕ). image_of_area l) is ∙ imaged.is)
          (ap (λ (l : List ℕ). in_force (layout_of g) (other n) l) is ∙ no_force) (run_none g (image_state g bytes) ∙ reads)
        where
          image_of_area : List ℕ → List ℕ
          image_of_area l = part_bytes (layout_of g) (image_part (other n)) l

      either_way : RecoversEitherWay (decoding g) (layout_of g) x w2
      either_way c left =
          let own = (image_recovers c left).is in
          both_of (λ (k : ℕ). recovers_by_area (decoding g) (layout_of g) k c ≡ x) n is_area own (other_recovers c (synced_left w2 c imaged.synced left) own)

      pub flip_moments : (w3 : Medium) → CrashesChangeOnly w2 w3 (IsSameButRoot (layout_of g)) → CrashImagesAre w0 w3 (λ c. recovered_state g c ≡ x)
      flip_moments w3 flips =
          then w0 w2 w3 _ image_moments
          (weaker w2 w3 _ _ (torn_root_recovers (decoding g) (layout_of g) x w2 w3 either_way flips) (λ c recovered_before. holds_by g _ _ x c recovered_before))

      module _ (w3 : Medium) (are : AreBytes w2.now) (fits : device_size (layout_of g) ≤ length w0.now) (flipped : Flipped (layout_of g) (other n) w2 w3) where
        long_1 : length w1.now ≡ length w0.now
        long_1 = cleared.same.same.size

        long_2 : length w2.now ≡ length w1.now
        long_2 = imaged.same.size

        long_3 : length w3.now ≡ length w2.now
        long_3 = flipped.same.same.size

        half_still : (front (layout_of g) (other n) w3.now ≡ front (layout_of g) (other n) w2.now) × (chain (layout_of g) (other n) w3.now ≡ chain (layout_of g) (other n) w2.now)
        half_still = half_same (layout_of g) (other n) w2.now w3.now (flipped.same.same.others (half_part (other n)) (λ is. omega (arith, is)))

        pub pointed : IsPointed log bytes w0 w3
        pointed = record {
          at = record {
            recovers = flip_by_area (decoding g) (layout_of g) (other n) (other n) x w2 w3 flipped (shut_current (layout_of g) (other n) w2.now no_chain)
                (other_recovers w2.now refl (image_recovers w2.now (itself w2.now w2.unsynced are)).is);
            ready = ready_kept {w = w2} (omega arith) (λ is. omega (arith, is)) (omega (arith, fits, long_1, long_2, long_3))
                (ready_kept (omega arith) (λ is. omega (arith, is)) (omega (arith, fits, long_1, long_2)) cleared.ready imaged.same imaged.synced)
                flipped.same.same flipped.synced;
            synced = flipped.synced;
          };
          emptied = ap (λ (k : ℕ). in_force (layout_of g) k w3.now) flipped.named
              ∙ shut_force (layout_of g) (other n) w3.now (not_one _ (half_still.1 ∙ half_kept.1 ∙ cleared.chain))
              ∙ half_still.0 ∙ half_kept.0 ∙ ready_none (layout_of g) (other n) w1 cleared.ready;
          is = flipped.same.same.others (image_part (other n)) (λ is. omega (arith, is)) ∙ imaged.is;
          kept = flipped.same.same.others (image_part n) (λ is. omega (arith, is)) ∙ imaged.same.others (image_part n) (λ is. omega (arith, is, is_area))
              ∙ cleared.same.same.others (image_part n) (λ is. omega (arith, is));
        }

-- extents that are on the device before the other half is cleared are there afterwards
pub still_clean : (g : Geometry) (n : ℕ) (dirty : List Bool) (bytes : List ℕ) → {h : ℕ} {w0 w1 : Medium} → h < 2 → Cleared (layout_of g) h w0 w1
    → AgreeOnClean g dirty (image_in g n w0) bytes → AgreeOnClean g dirty (image_in g n w1) bytes
still_clean g n dirty bytes is_half cleared agree = rw (cleared.same.same.others (image_part n) (λ is. omega (arith, is, is_half))) agree

-- what was written of the image that isn't named, in the words of the log
pub other_written : {g g' : Geometry} {n n' area : ℕ} → (w0 w1 : Medium) → g' ≡ g → area ≡ other n' → n' ≡ n → CrashesChangeOnly w0 w1 (IsSameBut (layout_of g') (image_part area))
    → CrashesChangeOnly w0 w1 (IsSameBut (layout_of g) (image_part (other n)))
other_written w0 w1 same is named = subst (λ (t : Type 0). t) (λ i. CrashesChangeOnly w0 w1 (IsSameBut (layout_of (same i)) (image_part ((is ∙ ap other named) i))))

pub other_imaged : {g g' : Geometry} {n n' area : ℕ} → (bytes : List ℕ) (w0 w1 : Medium) → g' ≡ g → area ≡ other n' → n' ≡ n
    → Imaged g' area bytes w0 w1 → Imaged g (other n) bytes w0 w1
other_imaged bytes w0 w1 same is named = subst (λ (t : Type 0). t) (λ i. Imaged (same i) ((is ∙ ap other named) i) bytes w0 w1)
