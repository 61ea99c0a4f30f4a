-- What a crash leaves while messages are logged, and what the journal keeps once they are.
use Rattle.std.proofs.Common.{◌≡◌, ℕ, zero, suc, ◌+◌, ◌<◌, Bool, true, false, ◌&&◌, cond, List, [], ◌∷◌, ◌++◌, length, take, Option, Some, None, is_some, option_map, unwrap_or, refl, sym, ◌∙◌, ap, subst, arith, true≢false, length-append}
use Rattle.std.proofs.lemmas.List.{length-map, take-map}
use Rattle.std.proofs.lemmas.Slice.Eq.{bytes_eq-Decides}
use Rattle.std.specs.Str.{bytes_eq}
use Rattle.affinity.specs.declared.geometry.Geometry.{Geometry}
use Rattle.recovery.specs.Recovery.{after_record, apply_decoded, recovered_state, decoding}
use Rattle.disk.specs.CrashImages.{AreBytes, IsCrashImage, CrashImagesAre}
use Rattle.disk.specs.Device.{Medium}
use Rattle.disk.proofs.IsTornFrom.{itself}
use Rattle.disk.proofs.CrashImagesAre.{weaker}
use Rattle.image.specs.Image.{image_head, image_state}
use Rattle.image.specs.Touched.{may_change}
use Rattle.image.proofs.Untouched.{piece_stays}
use Rattle.image.specs.declared.layout.TheConstants.{VERSION}
use Rattle.meaning.proofs.IsState.{step_kept}
use Rattle.std.specs.List.{AllByRecursion}
use Rattle.checkpoint.specs.Journal.{AreCarriedOut, RecoversWithPrefix}
use Rattle.checkpoint.specs.PointAndCut.{IsCutIfRunning, FitsCutState, image_after_cut}
use Rattle.checkpoint.specs.Extents.{IsUpToDate, AgreeOnClean, extent_of}
use Rattle.checkpoint.specs.IsSoundJournal.{IsSoundJournal}
use Rattle.checkpoint.specs.DirtyPieces.{AreBothTouched, DirtiesTouched}
use Rattle.checkpoint.specs.RecoversByArea.{RecoversByArea, run_on}
use Rattle.checkpoint.specs.Images.{image_in}
use Rattle.checkpoint.proofs.RecordsInForce.{forced_more}
use Rattle.checkpoint.proofs.RecoversByArea.{holds_by, holds_now, half_below, named_below}
use Rattle.protocol.specs.declared.messages.Msg.{Msg}
use Rattle.protocol.specs.Messages.{is_in_range}
use Rattle.message.specs.Records.{message_in_fields, record_of}
use Rattle.message.proofs.RecordLemmas.{record_says}
use Rattle.oplog.specs.Calls.{Grows, HasAdded}
use Rattle.oplog.specs.HalfContent.{front}
use Rattle.device_map.specs.Layout.{layout_of, image_part, other}
use Rattle.oplog.specs.Log.{Log}
use Rattle.oplog.specs.ChangeRecords.{records_of}
use Rattle.oplog.specs.Recovery.{run, records_in}
use Rattle.oplog.proofs.AfterCrash.{append_recovers, all_by_area}
use Rattle.oplog.proofs.SameRecovery.{run-append}
use Rattle.meaning.specs.Step.{state_after_all, is_recorded, next_state, reply_to}
use Rattle.meaning.specs.State.{State, IsState}

-- ---- messages and their records

-- the record of a message that is carried out leads to the state after it
applied : (g : Geometry) (x : State) (m : Msg) → message_in_fields (record_of m) ≡ Some m → is_in_range g m ≡ true → is_recorded m (reply_to g x m)
    ≡ true → after_record g x (record_of m) ≡ Some (next_state g x m)
applied g x m says in_range recorded =
    let same : bytes_eq (record_of m) (record_of m) ≡ true = (bytes_eq-Decides (record_of m) (record_of m)).1 refl in
    ap (apply_decoded g x (record_of m)) says ∙ (λ i. cond (same i && in_range i && recorded i) (Some (next_state g x m)) None)

pub run_records : (g : Geometry) (x : State) (ms : List Msg) → AreCarriedOut g x ms → run_on g (Some x) (records_of ms) ≡ Some (state_after_all g x ms)
run_records g x [] out = refl
run_records g x (m ∷ ms) out =
    ap (λ (o : Option State). run (decoding g) o (records_of ms)) (applied g x m (record_says g m out.0 out.1.1) out.1.1 out.2)
    ∙ run_records g (next_state g x m) ms out.3

pub first_carried : (g : Geometry) (n : ℕ) (x : State) (ms : List Msg) → AreCarriedOut g x ms → AreCarriedOut g x (take n ms)
first_carried g zero x ms out = tt
first_carried g (suc n) x [] out = tt
first_carried g (suc n) x (m ∷ ms) out = (out.0, out.1, out.2, first_carried g n (next_state g x m) ms out.3)

-- ---- what is known of a journal

pub some_value : (o : Option State) → is_some o ≡ true → (x : State) × (o ≡ Some x)
some_value None some = absurd (true≢false (sym some))
some_value (Some x) some = (x, refl)

-- an extent that none of these messages touches stays; and what they make of a state of this geometry is one, too (`IsState`)
one_stays : (g : Geometry) (x : State) (m : Msg) (n : ℕ) → IsState g x → may_change g m n ≡ false → extent_of g (next_state g x m) n ≡ extent_of g x n
one_stays g x m zero is off = ap (λ (l : List ℕ). image_head VERSION ++ l) (piece_stays VERSION g x is m 0 off)
one_stays g x m (suc n) is off = piece_stays VERSION g x is m (suc n) off

all_stay : (g : Geometry) (x : State) (ms : List Msg) (n : ℕ) → IsState g x → AreCarriedOut g x ms → AllByRecursion (λ m. may_change g m n ≡ false) ms → extent_of g (state_after_all g x ms) n
    ≡ extent_of g x n
all_stay g x [] n is out off = refl
all_stay g x (m ∷ ms) n is out off = all_stay g (next_state g x m) ms n (step_kept g x m is out.0) out.3 off.1 ∙ one_stays g x m n is off.0

carried_state : (g : Geometry) (x : State) (ms : List Msg) → IsState g x → AreCarriedOut g x ms → IsState g (state_after_all g x ms)
carried_state g x [] is out = is
carried_state g x (m ∷ ms) is out = carried_state g (next_state g x m) ms (step_kept g x m is out.0) out.3

pub fresh_more : {g : Geometry} {x : State} → (ms : List Msg) (old new : List Bool) (bytes : List ℕ) → IsState g x → AreCarriedOut g x ms
    → DirtiesTouched g ms old new → IsUpToDate g (Some x) old bytes → IsUpToDate g (Some (state_after_all g x ms)) new bytes
fresh_more {g} {x} ms old new bytes is_state out touched fresh y is n few clean =
    let kept = (touched n few).0 clean in
    fresh x refl n few kept.0 ∙ sym (all_stay g x ms n is_state out kept.1) ∙ ap (λ (o : Option State). extent_of g (unwrap_or o x) n) is

-- what holds of a cut doesn't depend on how many records the log counts in the current half
cut_used : (log : Log) (used : ℕ) (snapshot : List ℕ) (pending : List Bool) (pieces_left : Option ℕ) (m : Medium) → IsCutIfRunning log snapshot pending pieces_left m
    → IsCutIfRunning (record log { used = used }) snapshot pending pieces_left m
cut_used log used snapshot pending None m cut = tt
cut_used log used snapshot pending (Some k) m cut = record { behind = cut.behind; written = cut.written; version = cut.version }

coming_used : (log : Log) (used : ℕ) (snapshot : List ℕ) (pieces_left : Option ℕ) (m : Medium) → image_after_cut (record log { used = used }) snapshot pieces_left m
    ≡ image_after_cut log snapshot pieces_left m
coming_used log used snapshot None m = refl
coming_used log used snapshot (Some k) m = refl

-- ---- logging

module _ {log : Log} {snapshot : List ℕ} {named others pending : List Bool} {pieces_left : Option ℕ} (ms : List Msg) {w0 : Medium} (w1 : Medium) (are : AreBytes w0.now)
    (sound : IsSoundJournal log snapshot named others pending pieces_left w0) where
  is_area : log.named < 2
  is_area = named_below log.geometry log.named log.current (recovered_state log.geometry w0.now) w0 are sound.recovers

  is_half : log.current < 2
  is_half = half_below log.geometry log.named log.current (recovered_state log.geometry w0.now) w0 are sound.recovers

  pub log_moments : Grows log ms w0 w1 → (x : State) → recovered_state log.geometry w0.now ≡ Some x → AreCarriedOut log.geometry x ms → CrashImagesAre w0 w1 (RecoversWithPrefix log.geometry x ms)
  log_moments grows x is out =
      weaker w0 w1 _ _ (append_recovers (decoding log.geometry) (layout_of log.geometry) log.named log.current (recovered_state log.geometry w0.now)
      (records_of ms) w0 w1 is_area is_half sound.recovers grows)
      (λ c some. record {
        added = some.added;
        at_most = let most = some.at_most in omega (arith, most, length-map ms record_of);
        is = holds_by log.geometry log.named log.current (run_on log.geometry (recovered_state log.geometry w0.now) (take some.added (records_of ms))) c some.by
            ∙ (λ i. run_on log.geometry (is i) (take-map record_of some.added ms i))
            ∙ run_records log.geometry x (take some.added ms) (first_carried log.geometry some.added x ms out);
      })

  pub log_records : HasAdded log ms w0 w1 → records_in log.geometry w1.now ≡ records_in log.geometry w0.now ++ records_of ms
  log_records has =
      forced_more log.geometry is_area is_half (sound.recovers w0.now (itself w0.now w0.unsynced are)) has.has

  log_forced : HasAdded log ms w0 w1 → (c : List ℕ) → IsCrashImage w1 c → records_in log.geometry c ≡ records_in log.geometry w1.now
  log_forced has c left =
      let after = has.left c left in
      forced_more log.geometry is_area is_half (sound.recovers after.old after.left) after.change
      ∙ ap (λ rs. rs ++ records_of ms) (sound.same_records after.old after.left) ∙ sym (log_records has)

  log_count : HasAdded log ms w0 w1 → pieces_left ≡ None → length (records_in log.geometry w1.now) ≡ log.used + length ms
  log_count has none =
      omega (arith, sound.count none, ap length (log_records has) ∙ length-append (records_in log.geometry w0.now) (records_of ms), length-map ms record_of)

  module _ (x : State) (is : recovered_state log.geometry w0.now ≡ Some x) (out : AreCarriedOut log.geometry x ms) (has : HasAdded log ms w0 w1) (are' : AreBytes w1.now) where
    leads : run_on log.geometry (recovered_state log.geometry w0.now) (records_of ms) ≡ Some (state_after_all log.geometry x ms)
    leads = ap (λ (o : Option State). run_on log.geometry o (records_of ms)) is ∙ run_records log.geometry x ms out

    recovers : RecoversByArea log.geometry log.named log.current (Some (state_after_all log.geometry x ms)) w1
    recovers =
        subst (λ (o : Option State). RecoversByArea log.geometry log.named log.current o w1) leads
        (all_by_area (decoding log.geometry) (layout_of log.geometry) log.named log.current log.used (recovered_state log.geometry w0.now) (records_of ms) w0 w1 is_area is_half sound.recovers has)

    pub log_committed : recovered_state log.geometry w1.now ≡ Some (state_after_all log.geometry x ms)
    log_committed = holds_now log.geometry log.named log.current (Some (state_after_all log.geometry x ms)) w1 are' recovers

    images : (i : ℕ) → i < 2 → image_in log.geometry i w1 ≡ image_in log.geometry i w0
    images i is_image = has.has.same.others (image_part i) (λ same. omega (arith, same, is_half))

    -- the image after the cut stays, be it the other image or, during a cut, the snapshot
    still_coming : (pieces_left : Option ℕ) → image_after_cut log snapshot pieces_left w1 ≡ image_after_cut log snapshot pieces_left w0
    still_coming None = images (other log.named) (omega arith)
    still_coming (Some k) = refl

    cut_more : (pieces_left : Option ℕ) → FitsCutState log pending pieces_left → IsCutIfRunning log snapshot pending pieces_left w0 → IsCutIfRunning log snapshot pending pieces_left w1
    cut_more None placed cut = tt
    cut_more (Some k) placed cut = record {
      behind =
          ap (λ (rs : List (List ℕ)). run_on log.geometry (image_state log.geometry snapshot) rs)
          (subst (λ (h : ℕ). front (layout_of log.geometry) h w1.now ≡ front (layout_of log.geometry) h w0.now ++ records_of ms) placed.0 has.has.front)
          ∙ run-append (decoding log.geometry) (image_state log.geometry snapshot) (front (layout_of log.geometry) (other log.named) w0.now) (records_of ms)
          ∙ ap (λ (o : Option State). run_on log.geometry o (records_of ms)) cut.behind ∙ leads ∙ sym log_committed;
      written = subst (λ (l : List ℕ). AgreeOnClean log.geometry pending l snapshot) (sym (images (other log.named) (omega arith))) cut.written;
      version = cut.version;
    }

    pub log_sound : {named' others' : List Bool} → FitsCutState log pending pieces_left
        → AreBothTouched log.geometry ms (record { named = named; other = others }) (record { named = named'; other = others' })
        → IsSoundJournal (record log { used = log.used + length ms }) snapshot named' others' pending pieces_left w1
    log_sound {named'} {others'} placed touched =
        record {
          some = ap is_some log_committed;
          recovers = rw log_committed recovers;
          ready = rw (← ap (λ (n : ℕ). log.used + n) (length-map ms record_of)) has.ready;
          same_records = log_forced has;
          count = log_count has;
          state = λ z is'. rw (← ap (λ (o : Option State). unwrap_or o x) (sym log_committed ∙ is'))
              (carried_state log.geometry x ms (sound.state x is) out);
          named_up_to_date =
              rw log_committed (fresh_more ms named named' (image_in log.geometry log.named w1) (sound.state x is) out touched.named
              (subst (λ (l : List ℕ). IsUpToDate log.geometry (Some x) named l) (sym (images log.named is_area))
              (subst (λ (o : Option State). IsUpToDate log.geometry o named (image_in log.geometry log.named w0)) is sound.named_up_to_date)));
          snapshot_up_to_date = λ none.
              rw log_committed (fresh_more ms named named' snapshot (sound.state x is) out touched.named
              (subst (λ (o : Option State). IsUpToDate log.geometry o named snapshot) is (sound.snapshot_up_to_date none)));
          other_up_to_date =
              rw (coming_used log (log.used + length ms) snapshot pieces_left w1, log_committed)
              (fresh_more ms others others' (image_after_cut log snapshot pieces_left w1) (sound.state x is) out touched.other
              (subst (λ (l : List ℕ). IsUpToDate log.geometry (Some x) others l) (sym (still_coming pieces_left))
              (subst (λ (o : Option State). IsUpToDate log.geometry o others (image_after_cut log snapshot pieces_left w0)) is sound.other_up_to_date)));
          by_cut = cut_used log (log.used + length ms) snapshot pending pieces_left w1 (cut_more pieces_left placed sound.by_cut);
        }

-- ---- the same in the words of the code

pub placed_used : (log : Log) (used : ℕ) (pending : List Bool) (pieces_left : Option ℕ) → FitsCutState log pending pieces_left → FitsCutState (record log { used = used }) pending pieces_left
placed_used log used pending None placed = placed
placed_used log used pending (Some k) placed = placed

pub touched_along : {g g' : Geometry} → (ms : List Msg) → {old old' new new' : List Bool} → g ≡ g' → old ≡ old' → new' ≡ new → DirtiesTouched g ms old new → DirtiesTouched g' ms old' new'
touched_along {g} ms {old} {old'} {new'} same was is touched = rw (← same, ← was, is) touched

pub log_kept : {log : Log} {snapshot : List ℕ} {named others pending named' others' : List Bool} {pieces_left : Option ℕ} → (ms : List Msg) → {w0 w1 : Medium} → AreBytes w0.now
    → AreBytes w1.now → IsSoundJournal log snapshot named others pending pieces_left w0
    → ((x : State) → recovered_state log.geometry w0.now ≡ Some x → AreCarriedOut log.geometry x ms) → HasAdded log ms w0 w1 → FitsCutState log pending pieces_left
    → AreBothTouched log.geometry ms (record { named = named; other = others }) (record { named = named'; other = others' })
    → IsSoundJournal (record log { used = log.used + length ms }) snapshot named' others' pending pieces_left w1
log_kept {log} ms {w0} {w1} are are' sound out has placed touched =
    let value = some_value (recovered_state log.geometry w0.now) sound.some in
    log_sound ms w1 are sound value.0 value.1 (out value.0 value.1) has are' placed touched

pub log_told : {log : Log} {snapshot : List ℕ} {named others pending : List Bool} {pieces_left : Option ℕ} → (ms : List Msg) → {w0 w1 : Medium} → AreBytes w0.now
    → AreBytes w1.now → IsSoundJournal log snapshot named others pending pieces_left w0
    → ((x : State) → recovered_state log.geometry w0.now ≡ Some x → AreCarriedOut log.geometry x ms) → HasAdded log ms w0 w1 → recovered_state log.geometry w1.now
    ≡ option_map (λ x. state_after_all log.geometry x ms) (recovered_state log.geometry w0.now)
log_told {log} ms {w0} {w1} are are' sound out has =
    let value = some_value (recovered_state log.geometry w0.now) sound.some in
    log_committed ms w1 are sound value.0 value.1 (out value.0 value.1) has are'
    ∙ sym (ap (λ (o : Option State). option_map (λ x. state_after_all log.geometry x ms) o) value.1)
