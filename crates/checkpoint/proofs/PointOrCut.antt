-- What a point and the beginning of a cut ask of a journal, and what the journal keeps after them.
use Rattle.std.proofs.Common.{◌≡◌, ◌<◌, ℕ, Bool, false, List, length, Option, Some, None, is_some, unwrap_or, sym, ◌∙◌, ap, subst, arith, true≢false}
use Rattle.affinity.specs.declared.geometry.Geometry.{Geometry}
use Rattle.recovery.specs.Recovery.{recovered_state}
use Rattle.disk.specs.CrashImages.{AreBytes}
use Rattle.disk.specs.Device.{Medium}
use Rattle.recovery.specs.Version.{named_version}
use Rattle.disk.proofs.IsTornFrom.{itself}
use Rattle.image.specs.Image.{image_of, image_state, version_in}
use Rattle.image.specs.declared.layout.TheConstants.{VERSION}
use Rattle.checkpoint.specs.View.{IsJournal, journal_view}
use Rattle.checkpoint.specs.Journal.{JournalView, committed}
use Rattle.checkpoint.specs.Extents.{IsUpToDate, AgreeOnClean, AreCleanExtentsOf}
use Rattle.checkpoint.specs.PointAndCut.{FitsCutState, IsCutBegun, IsPointed, pointed_log}
use Rattle.checkpoint.specs.IsSoundJournal.{IsSoundJournal}
use Rattle.checkpoint.specs.declared.journal.Journal.TheInside.{Inside}
use Rattle.checkpoint.specs.RecoversByArea.{RecoversByNamedAlone, RecoversByArea, run_on}
use Rattle.checkpoint.specs.Images.{image_in}
use Rattle.checkpoint.proofs.RecordsInForce.{forced_synced}
use Rattle.checkpoint.proofs.RecoversByArea.{holds_now, run_none, named_below}
use Rattle.checkpoint.proofs.Snapshots.{snapshot_reads, snapshot_up_to_date, snapshot_agrees}
use Rattle.device_map.specs.Layout.{other}
use Rattle.oplog.specs.Log.{Log, chained}
use Rattle.parcel.specs.Tree.{TreeView, state_in}
use Rattle.meaning.specs.State.{State, IsState}

-- ---- a point

-- A device recovers to this state by the named area and its half alone.
pub record HoldsAlone (log : Log) (x : State) (m : Medium) : Type 0 where
  pub alone : RecoversByNamedAlone log m
  pub is : recovered_state log.geometry m.now ≡ Some x
  pub state : IsState log.geometry x

-- What a point leaves is sound, if the other image's clean pieces are those of the state.
pub pointed_sound : {log : Log} {snapshot : List ℕ} {named others pending : List Bool} {w0 w1 : Medium} {y : State} → HoldsAlone log y w0
    → snapshot ≡ image_of VERSION log.geometry y
    → AreBytes w1.now → IsPointed log snapshot w0 w1
    → IsUpToDate log.geometry (recovered_state log.geometry w0.now) others (image_in log.geometry (other (other log.named)) w1)
    → IsSoundJournal (pointed_log log) snapshot named others pending None w1
pointed_sound {log} {snapshot} {named} {w0} {w1} {y} held spelled are made others_right =
    let same = holds_now log.geometry (other log.named) (other log.named) (recovered_state log.geometry w0.now) w1 are made.at.recovers in
    let fresh = snapshot_up_to_date log.geometry (recovered_state log.geometry w0.now) y snapshot held.is held.state spelled named in
    record {
      some = ap is_some same ∙ held.alone.some;
      recovers = rw same made.at.recovers;
      ready = made.at.ready;
      same_records = forced_synced log.geometry w1 made.at.synced;
      count = λ none. ap length made.emptied;
      state = λ x is. rw (← ap (λ (o : Option State). unwrap_or o y) (sym held.is ∙ sym same ∙ is)) held.state;
      named_up_to_date = rw (same, made.is) fresh;
      snapshot_up_to_date = λ none. rw same fresh;
      other_up_to_date = rw same others_right;
      by_cut = tt;
    }

-- ---- of a journal with no cut in progress

-- the clean pieces of the last snapshot are those of the state
pub snapshot_right : {log : Log} {snapshot : List ℕ} {named others pending : List Bool} {pieces_left : Option ℕ} {w0 : Medium} {y : State} {g : Geometry} {dirty : List Bool} {bytes : List ℕ}
    → pieces_left ≡ None → IsSoundJournal log snapshot named others pending pieces_left w0 → recovered_state log.geometry w0.now ≡ Some y
    → g ≡ log.geometry → dirty ≡ named → bytes ≡ snapshot → AreCleanExtentsOf g y dirty bytes
snapshot_right {log} {named} {y} {dirty} {bytes} alone sound is same same' same'' = rw (same, same', same'') (sound.snapshot_up_to_date alone y is)

-- What `point` and `cut` ask of a journal and of the tree.
pub record AsksToSave (self : JournalView) (tree : TreeView) : Type 0 where
  pub not_failed : self.failed ≡ false
  pub no_cut : self.pieces_left ≡ None
  pub geometry : tree.geometry ≡ self.geometry
  pub state : IsState tree.geometry (state_in tree)
  pub committed : committed self ≡ Some (state_in tree)

-- What they find: no cut is in progress, the device recovers to y, and `snapshot'` is the image of y.
pub record Saves (log : Log) (snapshot snapshot' : List ℕ) (named others pending : List Bool) (w0 : Medium) (y : State) : Type 0 where
  pub current_is_named : log.current ≡ log.named
  pub sound : IsSoundJournal log snapshot named others pending None w0
  pub is : recovered_state log.geometry w0.now ≡ Some y
  pub is_state : IsState log.geometry y
  pub spelled : snapshot' ≡ image_of VERSION log.geometry y
  pub are : AreBytes w0.now

pub saves : {D : Type 0} {medium : D → Medium} {keeps : Type 0} {j : Inside D} {self : JournalView} {tree : TreeView} {dirty : List Bool} {old new : List ℕ}
    → IsJournal medium keeps j → journal_view medium j ≡ self → keeps → AsksToSave self tree → AreBytes (medium j.disk).now → dirty ≡ j.buffers.named_dirty.items → old ≡ j.buffers.snapshot.items
    → (AreCleanExtentsOf tree.geometry (state_in tree) dirty old → new ≡ image_of VERSION tree.geometry (state_in tree))
    → Saves j.halves j.buffers.snapshot.items new j.buffers.named_dirty.items j.buffers.other_dirty.items j.buffers.pending.items (medium j.disk) (state_in tree)
saves {medium = medium} {j = j} {tree = tree} kept view keeps asks are same same' image =
    let fine : j.halves.failed ≡ false = ap (λ (h : JournalView). h.failed) view ∙ asks.not_failed in
    let no_cut : j.pieces_left ≡ None = ap (λ (h : JournalView). h.pieces_left) view ∙ asks.no_cut in
    let geometry : tree.geometry ≡ j.halves.geometry = asks.geometry ∙ sym (ap (λ (h : JournalView). h.geometry) view) in
    let is : recovered_state j.halves.geometry (medium j.disk).now ≡ Some (state_in tree) = ap committed view ∙ asks.committed in
    let sound = kept.sound fine keeps in
    record {
      current_is_named = subst (λ (l : Option ℕ). FitsCutState j.halves j.buffers.pending.items l) no_cut (kept.fits_cut_state fine);
      sound = subst (λ (l : Option ℕ). IsSoundJournal j.halves j.buffers.snapshot.items j.buffers.named_dirty.items j.buffers.other_dirty.items j.buffers.pending.items l (medium j.disk)) no_cut sound;
      is = is;
      is_state = subst (λ (g : Geometry). IsState g (state_in tree)) geometry asks.state;
      spelled = image (snapshot_right no_cut sound is geometry same same') ∙ ap (λ (g : Geometry). image_of VERSION g (state_in tree)) geometry;
      are = are;
    }

module _ {log : Log} {snapshot snapshot' : List ℕ} {named others pending : List Bool} {w0 : Medium} {y : State} (f : Saves log snapshot snapshot' named others pending w0 y) where
  is_area : log.named < 2
  is_area = named_below log.geometry log.named log.current (recovered_state log.geometry w0.now) w0 f.are f.sound.recovers

  pub is_alone : RecoversByNamedAlone log w0
  is_alone = record {
    some = f.sound.some;
    recovers = subst (λ (h : ℕ). RecoversByArea log.geometry log.named h (recovered_state log.geometry w0.now) w0) f.current_is_named f.sound.recovers;
  }

  pub reads : image_state log.geometry snapshot' ≡ recovered_state log.geometry w0.now
  reads = snapshot_reads log.geometry (recovered_state log.geometry w0.now) y snapshot' f.is f.is_state f.spelled

  pub agrees : AgreeOnClean log.geometry others (image_in log.geometry (other log.named) w0) snapshot'
  agrees = snapshot_agrees log.geometry (recovered_state log.geometry w0.now) y snapshot' f.is f.is_state f.spelled others (image_in log.geometry (other log.named) w0) f.sound.other_up_to_date

  module _ {w1 : Medium} (are' : AreBytes w1.now) where
    pub point_committed : IsPointed log snapshot' w0 w1 → recovered_state log.geometry w1.now ≡ recovered_state log.geometry w0.now
    point_committed made = holds_now log.geometry (other log.named) (other log.named) (recovered_state log.geometry w0.now) w1 are' made.at.recovers

    pub point_sound : {named' others' : List Bool} → others' ≡ named → IsPointed log snapshot' w0 w1 → IsSoundJournal (pointed_log log) snapshot' named' others' pending None w1
    point_sound same_dirty made =
        let back : other (other log.named) ≡ log.named = omega (arith, is_area) in
        pointed_sound (record { alone = is_alone; is = f.is; state = f.is_state }) f.spelled are' made
        (rw (back, made.kept, same_dirty) f.sound.named_up_to_date)

    pub cut_committed : IsCutBegun log w0 w1 → recovered_state log.geometry w1.now ≡ recovered_state log.geometry w0.now
    cut_committed begun = holds_now log.geometry log.named (other log.named) (recovered_state log.geometry w0.now) w1 are' begun.at.recovers

    pub cut_sound : {others' pending' : List Bool} {count : ℕ} → pending' ≡ others → IsCutBegun log w0 w1 → IsSoundJournal (chained log) snapshot' named others' pending' (Some count) w1
    cut_sound {others'} same_dirty begun =
        let same = cut_committed begun in
        record {
          some = ap is_some same ∙ f.sound.some;
          recovers = rw same begun.at.recovers;
          ready = begun.at.ready;
          same_records = forced_synced log.geometry w1 begun.at.synced;
          count = λ none. absurd (true≢false (ap is_some none));
          state = λ x is'. f.sound.state x (sym same ∙ is');
          named_up_to_date = rw (same, begun.images log.named is_area) f.sound.named_up_to_date;
          snapshot_up_to_date = λ none. absurd (true≢false (ap is_some none));
          other_up_to_date = rw same (snapshot_up_to_date log.geometry (recovered_state log.geometry w0.now) y snapshot' f.is f.is_state f.spelled others');
          by_cut = record {
            behind = ap (λ (rs : List (List ℕ)). run_on log.geometry (image_state log.geometry snapshot') rs) begun.none
                ∙ run_none log.geometry (image_state log.geometry snapshot') ∙ reads ∙ sym same;
            written = rw (same_dirty, begun.images (other log.named) (omega arith)) agrees;
            version = ap version_in f.spelled;
          };
        }

-- The image of a point is named, and has version 2.
pub pointed_version : (log : Log) (bytes : List ℕ) (w0 w1 : Medium) (y : State) → AreBytes w1.now → bytes ≡ image_of VERSION log.geometry y → IsPointed log bytes w0 w1
    → named_version log.geometry w1.now ≡ 2
pointed_version log bytes w0 w1 y are spelled made =
    ap (λ (n : ℕ). version_in (image_in log.geometry n w1)) (made.at.recovers w1.now (itself w1.now w1.unsynced are)).named
    ∙ ap version_in (made.is ∙ spelled)
