-- The header of a device is written: all behind its first byte, and then that one, the format byte.
use Rattle.std.proofs.Common.{◌≡◌, ◌⊎◌, ℕ, ◌≤◌, List, [], ◌∷◌, length, drop, get_or, Some, inl, inr, ⊎_elim, sym, ◌∙◌, ap, subst, arith}
use Rattle.affinity.specs.declared.geometry.Geometry.{Geometry}
use Rattle.recovery.specs.Formatting.{FormatCrashImages, IsAllButHeader, HasNoFormatByte, StaysUnformatted}
use Rattle.recovery.specs.Header.{header_of}
use Rattle.recovery.specs.Recovery.{recovered_state}
use Rattle.recovery.specs.Version.{named_version}
use Rattle.recovery.proofs.LaidOut.{IsAllButFormatByte, headed, headed_kept, holds_empty, torn_open, version_empty}
use Rattle.recovery.proofs.Unformatted.{shut_unformatted, still_shut}
use Rattle.disk.specs.Device.{Medium, SameOutside}
use Rattle.disk.specs.CrashImages.{IsCrashImage, CrashImagesAre, CrashesChangeOnly}
use Rattle.disk.proofs.IsSynced.{synced_left}
use Rattle.disk.proofs.CrashImagesAre.{then, weaker}
use Rattle.disk.proofs.Overlays.{item-overlaid, length-overlaid, overlaid_outside}
use Rattle.disk.specs.Store.{Stored}
use Rattle.device_map.specs.Layout.{device_size, layout_of}
use Rattle.meaning.specs.State.{empty}

module _ (g : Geometry) (w0 w1 : Medium) (bytes : List ℕ) (are : bytes ≡ drop 1 (header_of g)) (whole : device_size (layout_of g) ≤ length w0.now)
    (shut : StaysUnformatted (length w0.now) w0) (laid : IsAllButHeader g w0.now) (first : CrashesChangeOnly w0 w1 (SameOutside 1 (length bytes))) where
  pub numbers_moments : CrashImagesAre w0 w1 (λ c. HasNoFormatByte (length w0.now) c ⊎ (recovered_state g c ≡ Some empty))
  numbers_moments = weaker w0 w1 _ _ (still_shut (length w0.now) w0 w1 1 (length bytes) (omega arith) shut first) (λ c still. inl still)

  module _ (stored : Stored 1 bytes w0 w1) where
    size : length w1.now ≡ length w0.now
    size = ap (λ (l : List ℕ). length l) stored.now ∙ length-overlaid w0.now 1 bytes

    has : IsAllButFormatByte g w1.now
    has = subst (λ (l : List ℕ). IsAllButFormatByte g l) (sym stored.now) (headed g w0.now bytes are (omega (arith, whole)) laid)

    pub gate_moments : (w2 : Medium) → CrashesChangeOnly w1 w2 (SameOutside 0 1) → CrashImagesAre w0 w2 (λ c. HasNoFormatByte (length w0.now) c ⊎ (recovered_state g c ≡ Some empty))
    gate_moments w2 second =
        then w0 w1 w2 _ numbers_moments
        (weaker w1 w2 _ _ second
        (λ c after.
        let change = subst (λ (l : List ℕ). SameOutside 0 1 l c) (synced_left w1 after.old stored.synced after.left) after.change in
        subst (λ (n : ℕ). HasNoFormatByte n c ⊎ (recovered_state g c ≡ Some empty)) size (torn_open g w1.now c (omega (arith, whole, size)) has change)))

    pub recovers : (w2 : Medium) → Stored 0 (1 ∷ []) w1 w2 → recovered_state g w2.now ≡ Some empty
    recovers w2 last =
        let same = subst (λ (l : List ℕ). SameOutside 0 1 w1.now l) (sym last.now) (overlaid_outside w1.now 0 (1 ∷ [])) in
        holds_empty g w2.now (omega (arith, whole, size, same.size)) (headed_kept g w1.now w2.now same has)
        (ap (λ (l : List ℕ). get_or l 0 0) last.now ∙ item-overlaid w1.now 0 1 0 [] (omega (arith, whole, size)))

    pub version : (w2 : Medium) → Stored 0 (1 ∷ []) w1 w2 → named_version g w2.now ≡ 2
    version w2 last =
        let same = subst (λ (l : List ℕ). SameOutside 0 1 w1.now l) (sym last.now) (overlaid_outside w1.now 0 (1 ∷ [])) in
        version_empty g w2.now (headed_kept g w1.now w2.now same has).laid

-- ---- the three steps of `format`

module _ (g : Geometry) (w0 : Medium) (whole : device_size (layout_of g) ≤ length w0.now) where
  pub shut_moments : (w1 : Medium) → CrashImagesAre w0 w1 (λ c. IsCrashImage w0 c ⊎ HasNoFormatByte (length w0.now) c) → CrashImagesAre w0 w1 (FormatCrashImages g w0)
  shut_moments w1 moments =
      weaker w0 w1 _ _ moments
      (λ c either. ⊎_elim (λ (left : IsCrashImage w0 c). inl left) (λ (shut : HasNoFormatByte (length w0.now) c). inr (inl (shut_unformatted (length w0.now) c (omega (arith, whole)) shut))) either)

  module _ (w1 w2 : Medium) (first : CrashImagesAre w0 w1 (λ c. IsCrashImage w0 c ⊎ HasNoFormatByte (length w0.now) c)) (shut : StaysUnformatted (length w0.now) w1)
      (at k : ℕ) (behind : 1 ≤ at) (second : CrashesChangeOnly w1 w2 (SameOutside at k)) where
    pub laid_moments : CrashImagesAre w0 w2 (FormatCrashImages g w0)
    laid_moments =
        then w0 w1 w2 _ (shut_moments w1 first)
        (weaker w1 w2 _ _ (still_shut (length w0.now) w1 w2 at k behind shut second) (λ c still. inr (inl (shut_unformatted (length w0.now) c (omega (arith, whole)) still))))

    pub opened_moments : (w3 : Medium) → CrashImagesAre w2 w3 (λ c. HasNoFormatByte (length w0.now) c ⊎ (recovered_state g c ≡ Some empty)) → CrashImagesAre w0 w3 (FormatCrashImages g w0)
    opened_moments w3 third =
        then w0 w2 w3 _ laid_moments
        (weaker w2 w3 _ _ third
        (λ c either.
        ⊎_elim (λ (still : HasNoFormatByte (length w0.now) c). inr (inl (shut_unformatted (length w0.now) c (omega (arith, whole)) still)))
        (λ (is : recovered_state g c ≡ Some empty). inr (inr is)) either))
