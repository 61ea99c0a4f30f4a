-- What a crash leaves at each moment of the beginning of a cut and of its end, and what is on the device afterwards.
use Rattle.std.proofs.Common.{◌≡◌, ◌≢◌, ◌<◌, ◌≤◌, ℕ, false, eqb, List, [], ◌++◌, length, Option, Result, refl, sym, ◌∙◌, ap, subst, arith}
use Rattle.std.proofs.lemmas.List.{append-nil}
use Rattle.affinity.specs.declared.geometry.Geometry.{Geometry}
use Rattle.recovery.specs.Recovery.{recovered_state, decoding}
use Rattle.disk.specs.declared.fault.DiskFault.{DiskFault}
use Rattle.disk.specs.CrashImages.{AreBytes, IsCrashImage, CrashImagesAre, CrashesChangeOnly}
use Rattle.disk.specs.Device.{Medium, Syncs, synced}
use Rattle.disk.proofs.Calls.{after_sync}
use Rattle.disk.proofs.IsSynced.{synced_left}
use Rattle.disk.proofs.IsTornFrom.{itself}
use Rattle.disk.proofs.CrashImagesAre.{started, then, weaker}
use Rattle.checkpoint.specs.PointAndCut.{IsCutBegun, IsCutWritten, IsFlipped}
use Rattle.checkpoint.specs.RecoversByArea.{RecoversByNamedAlone}
use Rattle.checkpoint.proofs.RecordsInForce.{forced_alone, forced_both}
use Rattle.checkpoint.proofs.IsPointed.{clear_beyond, clear_moments, clear_recovers}
use Rattle.checkpoint.proofs.RecoversByArea.{as_other, both_of, chain_other, half_same, holds_by, laid_by, ready_none, shut_current, shut_force}
use Rattle.oplog.specs.Beyond.{KeepsBeyond}
use Rattle.oplog.specs.Changes.{Chained, Cleared, Flipped, IsSameButChain, IsSameButChainAndGates, IsSameButRoot}
use Rattle.oplog.specs.Crash.{RecoversBy, RecoversEitherWay}
use Rattle.oplog.specs.HalfContent.{chain, front}
use Rattle.oplog.specs.Log.{Log, layout_of_log}
use Rattle.device_map.specs.Layout.{layout_of, device_size, part_bytes, half_part, image_part, root_part, other}
use Rattle.oplog.specs.Recovery.{in_force, recovers_by_area, records_in}
use Rattle.oplog.proofs.AfterCrash.{chain_by_area, chained_by_area, flip_by_area, torn_root_recovers}
use Rattle.oplog.proofs.SameRecovery.{front_beside}
use Rattle.oplog.proofs.Beyond.{beyond, beyond_then}
use Rattle.oplog.proofs.Ready.{ready_kept}
use Rattle.oplog.proofs.PartLemmas.{same_but_none}
use Rattle.meaning.specs.State.{State}

module _ (log : Log) (w0 : Medium) where
  abbrev g : Geometry
  g = log.geometry

  abbrev n : ℕ
  n = log.named

  abbrev x : Option State
  x = recovered_state log.geometry w0.now

  -- ---- the beginning

  module _ (is_area : log.named < 2) (w1 w2 : Medium) (alone : RecoversByNamedAlone log w0) (clears : CrashesChangeOnly w0 w1 (IsSameButChainAndGates (layout_of_log log) (other log.named)))
      (cleared : Cleared (layout_of log.geometry) (other log.named) w0 w1) (chains : CrashesChangeOnly w1 w2 (IsSameButChain (layout_of_log log) log.named)) where
    empty : (c : List ℕ) → IsCrashImage w1 c → (front (layout_of g) (other n) c ≡ []) × (chain (layout_of g) (other n) c ≢ 1)
    empty c left =
        let is : c ≡ w1.now = synced_left w1 c cleared.synced left in (
          ap (λ (l : List ℕ). front (layout_of g) (other n) l) is ∙ ready_none (layout_of g) (other n) w1 cleared.ready,
          λ one. let shut : chain (layout_of g) (other n) c ≡ 0 = ap (λ (l : List ℕ). chain (layout_of g) (other n) l) is ∙ cleared.chain in absurd (omega (arith, one, shut)),
        )

    pub chain_moments : CrashImagesAre w0 w2 (λ c. recovered_state g c ≡ x)
    chain_moments =
        then w0 w1 w2 _ (clear_moments log is_area w0 w1 alone clears)
        (weaker w1 w2 _ _ (chain_by_area (decoding g) (layout_of g) n x w1 w2 is_area (clear_recovers log is_area w0 w1 alone clears) empty chains)
        (λ c recovered_before. holds_by g _ _ x c recovered_before))

    pub chain_beyond : KeepsBeyond (layout_of g) w0 w2
    chain_beyond = beyond_then (layout_of g) w0 w1 w2 (clear_beyond log is_area w0 w1 alone clears) (beyond (layout_of g) w1 w2 _ (λ o d h. h.same.rest) chains)

    module _ (are : AreBytes w1.now) (fits : device_size (layout_of g) ≤ length w0.now) (chained : Chained (layout_of g) n w1 w2) where
      long_1 : length w1.now ≡ length w0.now
      long_1 = cleared.same.same.size

      long_2 : length w2.now ≡ length w1.now
      long_2 = chained.same.same.size

      none : front (layout_of g) (other n) w2.now ≡ []
      none =
          (half_same (layout_of g) (other n) w1.now w2.now (chained.same.same.others (half_part (other n)) (λ is. omega (arith, is, is_area)))).0
          ∙ ready_none (layout_of g) (other n) w1 cleared.ready

      first_same : front (layout_of g) n w2.now ≡ front (layout_of g) n w0.now
      first_same =
          front_beside g.half (part_bytes (layout_of g) (half_part n) w1.now) (part_bytes (layout_of g) (half_part n) w2.now) chained.same.beside
          ∙ (half_same (layout_of g) n w0.now w1.now (cleared.same.same.others (half_part n) (λ is. omega (arith, is, is_area)))).0

      pub begun : AreBytes w0.now → AreBytes w2.now → IsCutBegun log w0 w2
      begun are_0 are_2 =
          let left = itself w1.now w1.unsynced are in
          let recovers = chained_by_area (decoding g) (layout_of g) n x w1 w2 is_area (clear_recovers log is_area w0 w1 alone clears w1.now left) (empty w1.now left) chained in
          record {
            at = record {
              recovers = recovers;
              ready = ready_kept (omega arith) (λ is. omega (arith, is, is_area)) (omega (arith, fits, long_1, long_2)) cleared.ready chained.same.same chained.synced;
              synced = chained.synced;
            };
            none = none;
            same_records = forced_both g n x w2.now is_area (recovers w2.now (itself w2.now w2.unsynced are_2))
                ∙ (λ i. first_same i ++ none i) ∙ append-nil (front (layout_of g) n w0.now)
                ∙ sym (forced_alone g n x w0.now is_area (alone.recovers w0.now (itself w0.now w0.unsynced are_0)));
            images = λ i is_image. chained.same.same.others (image_part i) (λ is. omega (arith, is, is_area)) ∙ cleared.same.same.others (image_part i) (λ is. omega (arith, is));
          }

  -- ---- the end

  module _ (bytes : List ℕ) (written : IsCutWritten log bytes w0) where
    pub sync_moments : (w1 : Medium) (r : Result (Unit {0}) DiskFault) → Syncs r w0 w1 → CrashImagesAre w0 w1 (λ c. recovered_state g c ≡ x)
    sync_moments w1 r syncs = weaker w0 w1 _ _ (after_sync w0 w0 w1 _ (started w0 _ written.by.recovers) r syncs) (holds_by g n (other n) x)

    module _ (is_area : n < 2) (w2 : Medium) where
      own_recovers : (c : List ℕ) → c ≡ w0.now → RecoversBy (decoding g) (layout_of g) n (other n) x c
          → (recovers_by_area (decoding g) (layout_of g) (other n) c ≡ x) × (eqb (chain (layout_of g) (other n) c) 1 ≡ false)
      own_recovers c same recovered_before =
          let laid = laid_by g n x c recovered_before.is written.by.some in
          let shut = chain_other g n c is_area laid recovered_before.current in (
            as_other g (other n) c laid (ap (λ (l : List ℕ). part_bytes (layout_of g) (image_part (other n)) l) same ∙ written.is)
                (shut_force (layout_of g) (other n) c shut ∙ ap (λ (l : List ℕ). front (layout_of g) (other n) l) same) written.behind,
            shut,
          )

      still_left : (c : List ℕ) → IsCrashImage (synced w0) c → c ≡ w0.now
      still_left c left = synced_left (synced w0) c refl left

      module _ (are : AreBytes w0.now) where
        now_own : RecoversBy (decoding g) (layout_of g) n (other n) x w0.now
        now_own = written.by.recovers w0.now (itself w0.now w0.unsynced are)

        either_way : RecoversEitherWay (decoding g) (layout_of g) x (synced w0)
        either_way c left =
            let same = still_left c left in
            let recovered_before : RecoversBy (decoding g) (layout_of g) n (other n) x c = subst (λ (l : List ℕ). RecoversBy (decoding g) (layout_of g) n (other n) x l) (sym same) now_own in
            both_of (λ (k : ℕ). recovers_by_area (decoding g) (layout_of g) k c ≡ x) n is_area recovered_before.is (own_recovers c same recovered_before).0

        pub name_moments : CrashImagesAre w0 (synced w0) (λ c. recovered_state g c ≡ x) → CrashesChangeOnly (synced w0) w2 (IsSameButRoot (layout_of g))
            → CrashImagesAre w0 w2 (λ c. recovered_state g c ≡ x)
        name_moments so_far flips =
            then w0 (synced w0) w2 _ so_far
            (weaker (synced w0) w2 _ _ (torn_root_recovers (decoding g) (layout_of g) x (synced w0) w2 either_way flips) (λ c recovered_before. holds_by g _ _ x c recovered_before))

        module _ (flipped : Flipped (layout_of g) (other n) (synced w0) w2) where
          half_named : (front (layout_of g) (other n) w2.now ≡ front (layout_of g) (other n) w0.now) × (chain (layout_of g) (other n) w2.now ≡ chain (layout_of g) (other n) w0.now)
          half_named = half_same (layout_of g) (other n) w0.now w2.now (flipped.same.same.others (half_part (other n)) (λ is. omega (arith, is)))

          alone : records_in g w2.now ≡ front (layout_of g) (other n) w2.now
          alone =
              ap (λ (k : ℕ). in_force (layout_of g) k w2.now) flipped.named
              ∙ shut_force (layout_of g) (other n) w2.now (ap (λ (b : ℕ). eqb b 1) half_named.1 ∙ (own_recovers w0.now refl now_own).1)

          pub named : device_size (layout_of g) ≤ length w0.now → IsFlipped log w0 w2
          named fits =
              let own = own_recovers w0.now refl now_own in
              record {
                at = record {
                  recovers = flip_by_area (decoding g) (layout_of g) (other n) (other n) x (synced w0) w2 flipped (shut_current (layout_of g) (other n) w0.now own.1) own.0;
                  ready = ready_kept (omega arith) (λ is. omega (arith, is)) (omega (arith, fits, flipped.same.same.size))
                      (ready_kept {w' = synced w0} (omega arith) (λ is. omega (arith, is)) fits written.ready (same_but_none (layout_of g) root_part w0.now) refl)
                      flipped.same.same flipped.synced;
                  synced = flipped.synced;
                };
                before = forced_both g n x w0.now is_area now_own ∙ ap (λ rs. front (layout_of g) n w0.now ++ rs) (sym half_named.0 ∙ sym alone);
                alone = alone;
                images = λ i is_image. flipped.same.same.others (image_part i) (λ is. omega (arith, is));
              }
