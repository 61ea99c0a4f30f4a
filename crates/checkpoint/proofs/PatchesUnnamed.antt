-- What a crash leaves while a piece of a cut is written, and what the journal keeps once it is.
use Rattle.std.proofs.Common.{◌≡◌, ◌≢◌, ◌<◌, ◌-◌, ℕ, Bool, true, false, List, length, get_or, set, Option, Some, None, is_some, option_map, unwrap_or, ⊎_elim, refl, sym, ◌∙◌, ap, subst, arith, true≢false}
use Rattle.std.proofs.lemmas.Bool.{cases_eq}
use Rattle.std.proofs.lemmas.List.{get_or-set_other}
use Rattle.affinity.specs.declared.geometry.Geometry.{Geometry}
use Rattle.recovery.specs.Recovery.{recovered_state, decoding}
use Rattle.disk.specs.CrashImages.{AreBytes, IsCrashImage, CrashImagesAre, CrashesChangeOnly}
use Rattle.disk.specs.Device.{Medium}
use Rattle.disk.proofs.IsTornFrom.{itself}
use Rattle.disk.proofs.CrashImagesAre.{leaves_now}
use Rattle.image.specs.Image.{image_state}
use Rattle.checkpoint.specs.Images.{PatchesUnnamed, IsPatchedAt, image_in}
use Rattle.checkpoint.specs.PointAndCut.{FitsCutState}
use Rattle.checkpoint.specs.IsSoundJournal.{IsSoundJournal}
use Rattle.checkpoint.specs.DirtyPieces.{count_dirty}
use Rattle.checkpoint.specs.RecoversByArea.{RecoversByArea, run_on}
use Rattle.checkpoint.specs.Extents.{extent_in}
use Rattle.checkpoint.proofs.RecordsInForce.{forced_kept}
use Rattle.checkpoint.proofs.DirtyPieces.{count_cleared}
use Rattle.checkpoint.proofs.RecoversByArea.{half_same, holds_moments, holds_now, named_below, half_below}
use Rattle.oplog.specs.Changes.{IsReady, IsSameBut}
use Rattle.oplog.specs.Crash.{RecoversBy}
use Rattle.oplog.specs.Recovery.{named_area, records_in}
use Rattle.device_map.specs.Layout.{layout_of, half_part, image_part, other}
use Rattle.oplog.specs.Log.{Log}
use Rattle.oplog.proofs.AfterCrash.{image_by_area}

-- ---- how many are left

pub piece_left : (log : Log) (pending : List Bool) (pieces_left : Option ℕ) (n : ℕ) → {count : ℕ} → is_some pieces_left ≡ true → FitsCutState log pending pieces_left
    → get_or pending n false ≡ true → count ≡ count_dirty (set pending n false) → option_map (λ l. l - 1) pieces_left ≡ Some count
piece_left log pending None n some placed dirty_at is = absurd (true≢false (sym some))
piece_left log pending (Some l) n {count} some placed dirty_at is =
    let fewer = count_cleared pending n dirty_at in
    let one : l - 1 ≡ count = omega (arith, fewer, is, placed.1) in
    ap (λ (k : ℕ). Some k) one

-- one fewer is left: as many as are pending once this one isn't
pub piece_counted : (log : Log) (pending : List Bool) (pieces_left : Option ℕ) (n : ℕ) → {fewer : ℕ} → is_some pieces_left ≡ true → FitsCutState log pending pieces_left
    → get_or pending n false ≡ true → fewer ≡ unwrap_or pieces_left 0 - 1 → fewer ≡ count_dirty (set pending n false)
piece_counted log pending None n some placed dirty_at is = absurd (true≢false (sym some))
piece_counted log pending (Some l) n some placed dirty_at is = let one = count_cleared pending n dirty_at in omega (arith, one, is, placed.1)

-- where none is pending, none is left
pub none_due : (log : Log) (pending : List Bool) (pieces_left : Option ℕ) → is_some pieces_left ≡ true → FitsCutState log pending pieces_left → count_dirty pending ≡ 0 → pieces_left ≡ Some 0
none_due log pending None some placed none = absurd (true≢false (sym some))
none_due log pending (Some l) some placed none = ap (λ (k : ℕ). Some k) (sym placed.1 ∙ none)

pub piece_some : (log : Log) (pending : List Bool) (pieces_left : Option ℕ) (n : ℕ) → FitsCutState log pending pieces_left → get_or pending n false ≡ true → pieces_left ≡ Some 0 → ⊥
piece_some log pending pieces_left n placed dirty_at none =
    omega (arith, count_cleared pending n dirty_at, (subst (λ (l : Option ℕ). FitsCutState log pending l) none placed).1)

-- ---- the write of one extent

pub record IsPieced (g : Geometry) (area n : ℕ) (bytes : List ℕ) (old new : Medium) : Type 0 where
  pub moments : CrashesChangeOnly old new (IsSameBut (layout_of g) (image_part area))
  pub same : IsSameBut (layout_of g) (image_part area) old.now new.now
  pub is : IsPatchedAt g n bytes (image_in g area old) (image_in g area new)
  pub ready : (h k : ℕ) → h < 2 → IsReady (layout_of g) h k old → IsReady (layout_of g) h k new

pub pieced_along : {g g' : Geometry} {a a' n : ℕ} {bytes bytes' : List ℕ} {w0 w1 : Medium} → g ≡ g' → a ≡ a' → bytes ≡ bytes'
    → IsPieced g a n bytes w0 w1 → IsPieced g' a' n bytes' w0 w1
pieced_along {g'} {a} {a'} {n} {bytes} {w0} {w1} same same' are held = rw (← are, ← same', ← same) held

module _ {log : Log} {snapshot : List ℕ} {named others pending : List Bool} {pieces_left : Option ℕ} {w0 : Medium} (w1 : Medium) (are : AreBytes w0.now)
    (sound : IsSoundJournal log snapshot named others pending pieces_left w0) where
  is_area : log.named < 2
  is_area = named_below log.geometry log.named log.current (recovered_state log.geometry w0.now) w0 are sound.recovers

  by_piece : CrashesChangeOnly w0 w1 (IsSameBut (layout_of log.geometry) (image_part (other log.named)))
      → CrashImagesAre w0 w1 (RecoversBy (decoding log.geometry) (layout_of log.geometry) log.named log.current (recovered_state log.geometry w0.now))
  by_piece moments = image_by_area (decoding log.geometry) (layout_of log.geometry) log.named log.current (recovered_state log.geometry w0.now) w0 w1 is_area sound.recovers moments

  pub piece_moments : CrashesChangeOnly w0 w1 (IsSameBut (layout_of log.geometry) (image_part (other log.named)))
      → CrashImagesAre w0 w1 (λ c. recovered_state log.geometry c ≡ recovered_state log.geometry w0.now)
  piece_moments moments = holds_moments log.geometry log.named log.current (recovered_state log.geometry w0.now) w0 w1 (by_piece moments)

  module _ (are' : AreBytes w1.now) where
    recovers : CrashesChangeOnly w0 w1 (IsSameBut (layout_of log.geometry) (image_part (other log.named))) → RecoversByArea log.geometry log.named log.current (recovered_state log.geometry w0.now) w1
    recovers moments = leaves_now w0 w1 _ (by_piece moments)

    pub piece_same : CrashesChangeOnly w0 w1 (IsSameBut (layout_of log.geometry) (image_part (other log.named))) → recovered_state log.geometry w1.now ≡ recovered_state log.geometry w0.now
    piece_same moments = holds_now log.geometry log.named log.current (recovered_state log.geometry w0.now) w1 are' (recovers moments)

    each_forced : CrashesChangeOnly w0 w1 (IsSameBut (layout_of log.geometry) (image_part (other log.named))) → (c : List ℕ)
        → IsCrashImage w1 c → records_in log.geometry c ≡ records_in log.geometry w0.now
    each_forced moments c left =
        let after = leaves_now w0 w1 _ moments c left in
        forced_kept log.geometry (image_part (other log.named)) after.old c (λ is. omega (arith, is)) (λ h is_half is. omega (arith, is, is_half)) after.change
        ∙ sound.same_records after.old after.left

    pub piece_records : CrashesChangeOnly w0 w1 (IsSameBut (layout_of log.geometry) (image_part (other log.named))) → records_in log.geometry w1.now ≡ records_in log.geometry w0.now
    piece_records moments = each_forced moments w1.now (itself w1.now w1.unsynced are')

    pub piece_sound : (n l count : ℕ) → pieces_left ≡ Some l → n < length pending → IsPieced log.geometry (other log.named) n snapshot w0 w1
        → IsSoundJournal log snapshot named others (set pending n false) (Some count) w1
    piece_sound n l count is_left few pieced =
        let same = piece_same pieced.moments in
        let sound' = subst (λ (o : Option ℕ). IsSoundJournal log snapshot named others pending o w0) is_left sound in
        let other_half = half_same (layout_of log.geometry) (other log.named) w0.now w1.now (pieced.same.others (half_part (other log.named)) (λ is. omega (arith, is))) in
        record {
          some = ap is_some same ∙ sound.some;
          recovers = rw same (recovers pieced.moments);
          ready = pieced.ready log.current log.used (half_below log.geometry log.named log.current (recovered_state log.geometry w0.now) w0 are sound.recovers) sound.ready;
          same_records = λ c left. each_forced pieced.moments c left ∙ sym (piece_records pieced.moments);
          count = λ none. absurd (true≢false (ap is_some none));
          state = λ x is. sound.state x (sym same ∙ is);
          named_up_to_date = rw (same, pieced.same.others (image_part log.named) (λ is. omega (arith, is, is_area))) sound.named_up_to_date;
          snapshot_up_to_date = λ none. absurd (true≢false (ap is_some none));
          other_up_to_date = rw same sound'.other_up_to_date;
          by_cut = record {
            behind = ap (λ (rs : List (List ℕ)). run_on log.geometry (image_state log.geometry snapshot) rs) other_half.0 ∙ sound'.by_cut.behind ∙ sym same;
            written = λ i few' clean.
                ⊎_elim
                (λ (here : i ≡ n). ap (λ (j : ℕ). extent_in log.geometry (image_in log.geometry (other log.named) w1) j) here ∙ pieced.is.is
                ∙ sym (ap (λ (j : ℕ). extent_in log.geometry snapshot j) here))
                (λ (elsewhere : i ≢ n). pieced.is.others i few' elsewhere ∙ sound'.by_cut.written i few' (sym (get_or-set_other pending n i false true elsewhere) ∙ clean))
                (cases_eq i n);
            version = sound'.by_cut.version;
          };
        }

-- the write changes one piece of the image that isn't named, in the words of contracts
pub patches_one : {g : Geometry} {n k : ℕ} {bytes : List ℕ} {w0 w1 : Medium} → named_area (layout_of g) w0.now ≡ n → IsPieced g (other n) k bytes w0 w1
    → PatchesUnnamed g w0.now w1.now
patches_one {g} {k} {w0} {w1} named pieced = rw named (record { piece = k; same = pieced.same; others = pieced.is.others })

pub some_left : (o : Option ℕ) → is_some o ≡ true → (l : ℕ) × (o ≡ Some l)
some_left None some = absurd (true≢false (sym some))
some_left (Some l) some = (l, refl)
