-- What a crash leaves while a device is opened, from step to step, and what a refusal leaves.
use Rattle.std.proofs.Common.{◌≡◌, ◌≢◌, ◌<◌, ◌≤◌, ℕ, Bool, false, replicate, List, [], ◌∷◌, length, Option, Some, None, is_some, inl, inr, ⊎_elim, refl, sym, ◌∙◌, ap, subst, arith}
use Rattle.affinity.specs.declared.geometry.Geometry.{Geometry}
use Rattle.recovery.specs.declared.fault.OpenFault.{OpenFault}
use Rattle.recovery.specs.declared.fault.OpenFault.TheVariants.{Device, OutOfMemory, BadRecord}
use Rattle.recovery.specs.Header.{HasHeader}
use Rattle.recovery.specs.Recovery.{recovered_state}
use Rattle.recovery.specs.OpenFaults.{IsConsistentFault, IsOfHalf}
use Rattle.recovery.specs.Refusals.{IsRefused, fault_or_later, refused}
use Rattle.recovery.proofs.OneGeometry.{one_geometry, same_geometry}
use Rattle.recovery.proofs.Refusals.{records_half}
use Rattle.recovery.proofs.Replays.{same_bytes}
use Rattle.disk.specs.CrashImages.{AreBytes, IsCrashImage, IsTornFrom, CrashImagesAre, left_since}
use Rattle.disk.specs.Device.{IsSynced, Medium, Moment, moments}
use Rattle.disk.proofs.IsSynced.{synced_left}
use Rattle.disk.proofs.IsTornFrom.{itself}
use Rattle.disk.proofs.CrashImagesAre.{leaves_now, same, started, then, weaker}
use Rattle.image.specs.Image.{image_state}
use Rattle.checkpoint.specs.RecoversByArea.{area_state, RecoversByNamedAlone, RecoversByArea}
use Rattle.checkpoint.specs.Opening.{IsBadAfterCut, IsLeftByRefusal, IsUnwritten, OpeningCrashImages, RecoversAsBefore}
use Rattle.checkpoint.specs.OpeningSteps.{IsFaultAfterCut, IsRefusedAlike}
use Rattle.checkpoint.specs.PointAndCut.{IsCutFinished, finished_log}
use Rattle.checkpoint.specs.Journal.{RecoversStill}
use Rattle.checkpoint.specs.Images.{image_in}
use Rattle.device_map.specs.Layout.{device_size, layout_of, other}
use Rattle.oplog.specs.Log.{Log}
use Rattle.oplog.specs.Recovery.{named_area}
use Rattle.meaning.specs.State.{State}

-- ---- moments

-- a device of which nothing is unsynced, and which is only read
pub still_read : (g : Geometry) (w0 w1 : Medium) → IsSynced w0 → moments w1 ≡ moments w0 → RecoversStill g w0 w1
still_read g w0 w1 synced only =
    same w0 w0 w1 _ (started w0 _ (λ c left. ap (recovered_state g) (synced_left w0 c synced left))) only

-- one sequence of calls after another: what is left recovers to the same as before the first one
pub still_then : (g : Geometry) (w0 w1 w2 : Medium) → AreBytes w1.now → RecoversStill g w0 w1 → RecoversStill g w1 w2 → RecoversStill g w0 w2
still_then g w0 w1 w2 are first second =
    then w0 w1 w2 _ first
    (weaker w1 w2 _ _ second (λ c is. is ∙ leaves_now w0 w1 _ first w1.now (itself w1.now w1.unsynced are)))

pub still_now : (g : Geometry) (w0 w1 : Medium) → AreBytes w1.now → RecoversStill g w0 w1 → recovered_state g w1.now ≡ recovered_state g w0.now
still_now g w0 w1 are moments = leaves_now w0 w1 _ moments w1.now (itself w1.now w1.unsynced are)

-- what recovers to the same and is refused for the same fault by the geometry of the header does so by any geometry
recovers_by_area : (g : Geometry) (before c : List ℕ) → HasHeader g before → device_size (layout_of g) ≤ length before → recovered_state g c ≡ recovered_state g before
    → ((fault : OpenFault) → refused g before ≡ Some fault → HasHeader g c × (refused g c ≡ Some fault)) → RecoversAsBefore before c
recovers_by_area g before c head fits is alike = record {
  same = λ h x held.
      let one = one_geometry g h before head x held in
      ap (λ (k : Geometry). recovered_state k c) (sym one) ∙ is ∙ ap (λ (k : Geometry). recovered_state k before) one ∙ held;
  alike = λ h fault head' was.
      let one = same_geometry g h (sym head ∙ head') in
      subst (λ (k : Geometry). HasHeader k c × (refused k c ≡ Some fault)) one (alike fault (ap (λ (k : Geometry). refused k before) one ∙ was));
  kept = λ none. absurd (none (record { geometry = g; header = head; parts = fits }));
}

both_leave : (w0 w1 : Medium) (P Q : List ℕ → Type 0) → CrashImagesAre w0 w1 P → CrashImagesAre w0 w1 Q → CrashImagesAre w0 w1 (λ c. P c × Q c)
both_leave w0 w1 P Q first second = record {
  later = first.later;
  each = λ c left. (first.each c left, second.each c left);
  before = λ t c early left.
      ⊎_elim (λ (was : left_since w0 t c). inl was) (λ (p : P c). ⊎_elim (λ (was : left_since w0 t c). inl was) (λ (q : Q c). inr (p, q)) (second.before t c early left)) (first.before t c early left);
}

-- a device that is only read
pub as_before : (w0 w1 : Medium) → IsSynced w0 → moments w1 ≡ moments w0 → CrashImagesAre w0 w1 (RecoversAsBefore w0.now)
as_before w0 w1 synced only =
    same w0 w0 w1 _
    (started w0 _
    (λ c left.
    let is = synced_left w0 c synced left in
    record {
      same = λ h x held. ap (recovered_state h) is ∙ held;
      alike = λ h fault head was. (subst (λ (l : List ℕ). HasHeader h l) (sym is) head, ap (λ (l : List ℕ). refused h l) is ∙ was);
      kept = λ none. is;
    }))
    only

pub alike_read : (g : Geometry) (w0 w1 : Medium) → HasHeader g w0.now → IsSynced w0 → moments w1 ≡ moments w0 → CrashImagesAre w0 w1 (IsRefusedAlike g w0.now)
alike_read g w0 w1 head synced only =
    same w0 w0 w1 _
    (started w0 _
    (λ c left.
    let is = synced_left w0 c synced left in
    record { header = subst (λ (l : List ℕ). HasHeader g l) (sym is) head; refused = ap (λ (l : List ℕ). refused g l) is }))
    only

pub alike_after : (g : Geometry) (w0 w1 w2 : Medium) → HasHeader g w0.now → IsSynced w0 → moments w1 ≡ moments w0
    → CrashImagesAre w1 w2 (IsRefusedAlike g w1.now) → CrashImagesAre w0 w2 (IsRefusedAlike g w0.now)
alike_after g w0 w1 w2 head synced only later =
    then w0 w1 w2 _ (alike_read g w0 w1 head synced only)
    (weaker w1 w2 _ _ later (λ c is. record { header = is.header; refused = is.refused ∙ ap (λ (l : List ℕ). refused g l) (same_bytes w0 w1 only) }))

-- a device, refused or not, of which what a crash leaves recovers to the same and is refused alike
pub as_alike : (g : Geometry) (w0 w1 : Medium) → HasHeader g w0.now → device_size (layout_of g) ≤ length w0.now → RecoversStill g w0 w1
    → CrashImagesAre w0 w1 (IsRefusedAlike g w0.now) → CrashImagesAre w0 w1 (RecoversAsBefore w0.now)
as_alike g w0 w1 head fits still alike =
    weaker w0 w1 _ _ (both_leave w0 w1 _ _ still alike) (λ c is. recovers_by_area g w0.now c head fits is.0 (λ fault was. (is.1.header, is.1.refused ∙ was)))

-- a device that isn't refused, of which what a crash leaves recovers to the same
pub as_still : (g : Geometry) (w0 w1 : Medium) → HasHeader g w0.now → device_size (layout_of g) ≤ length w0.now → refused g w0.now ≡ None
    → RecoversStill g w0 w1 → CrashImagesAre w0 w1 (RecoversAsBefore w0.now)
as_still g w0 w1 head fits fine still = weaker w0 w1 _ _ still (λ c is. recovers_by_area g w0.now c head fits is (λ fault was. none_some (sym fine ∙ was)))
  where
    none_some : {T : Type 0} {fault : OpenFault} → None ≡ Some fault → T
    none_some is = cc

-- calls after a read: from before the read on, what a crash leaves recovers to the same
pub still_after : (g : Geometry) (w0 w1 w2 : Medium) → IsSynced w0 → moments w1 ≡ moments w0 → RecoversStill g w1 w2 → RecoversStill g w0 w2
still_after g w0 w1 w2 synced only still =
    then w0 w1 w2 _ (still_read g w0 w1 synced only) (weaker w1 w2 _ _ still (λ c is. is ∙ ap (recovered_state g) (same_bytes w0 w1 only)))

-- ---- refusals

pub unread : (w0 w1 : Medium) → moments w1 ≡ moments w0 → IsUnwritten w0 w1
unread w0 w1 only = record {
  now = same_bytes w0 w1 only;
  later = same w0 w0 w1 _ (started w0 _ (λ c left. left)) only;
}

pub all_unwritten : (e : OpenFault) (w0 w1 : Medium) → IsUnwritten w0 w1 → ((g : Geometry) → IsOfHalf (named_area (layout_of g) w0.now) e) → IsLeftByRefusal w0 e w1
all_unwritten Device w0 w1 is own = tt
all_unwritten (BadRecord h i) w0 w1 is own = λ g head. ((λ named. is), (λ behind. absurd (behind (own g))))
all_unwritten e w0 w1 is own = is

-- what a bad record after a cut leaves of w1 (`IsBadAfterCut`), it leaves of w0, which has the same bytes
pub behind_from : (g : Geometry) (h i : ℕ) (w0 w1 w2 : Medium) → w1.now ≡ w0.now → IsBadAfterCut g h i w1 w2 → IsBadAfterCut g h i w0 w2
behind_from g h i w0 w1 w2 now b = assumption (b.image ∙ ap (λ (c : List ℕ). area_state g (named_area (layout_of g) c) c) now, b)

-- the same of any fault after a cut (`IsFaultAfterCut`)
pub bad_from : (g : Geometry) (h : ℕ) (e : OpenFault) (w0 w1 w2 : Medium) → w1.now ≡ w0.now → IsFaultAfterCut g h w1 w2 e → IsFaultAfterCut g h w0 w2 e
bad_from g h Device w0 w1 w2 now bad = tt
bad_from g h (BadRecord k i) w0 w1 w2 now bad = (bad.0, behind_from g k i w0 w1 w2 now bad.1)
bad_from g h e w0 w1 w2 now bad = bad

-- a fault after a cut leaves what a refusal may leave (`IsLeftByRefusal`)
pub bad_behind : {n : ℕ} → (e : OpenFault) (w0 w1 : Medium) (g : Geometry) → n < 2 → n ≡ named_area (layout_of g) w0.now → HasHeader g w0.now → IsFaultAfterCut g (other n) w0 w1 e
    → IsLeftByRefusal w0 e w1
bad_behind Device w0 w1 g is_area named head bad = tt
bad_behind (BadRecord h i) w0 w1 g is_area named head bad =
    λ k head'. ((λ here. absurd (omega (arith, is_area, bad.0, here, named))), (λ behind. subst (λ (x : Geometry). IsBadAfterCut x h i w0 w1) (same_geometry g k (sym head ∙ head')) bad.1))
bad_behind e w0 w1 g is_area named head bad = absurd bad

-- after a fault that follows a cut nothing is unsynced, unless the device failed
pub bad_synced : (g : Geometry) (h : ℕ) (e : OpenFault) (w0 w1 : Medium) → e ≢ Device → IsFaultAfterCut g h w0 w1 e → IsSynced w1
bad_synced g h Device w0 w1 other bad = absurd (other refl)
bad_synced g h (BadRecord k i) w0 w1 other bad = bad.1.synced
bad_synced g h e w0 w1 other bad = absurd bad

-- what a refusal leaves of w1 (`IsLeftByRefusal`), it leaves of w0, which has the same bytes, if `IsUnwritten` is handed on so
pub unwritten_from : (e : OpenFault) (w0 w1 w2 : Medium) → w1.now ≡ w0.now → (IsUnwritten w1 w2 → IsUnwritten w0 w2) → IsLeftByRefusal w1 e w2 → IsLeftByRefusal w0 e w2
unwritten_from Device w0 w1 w2 now from is = tt
unwritten_from (BadRecord h i) w0 w1 w2 now from is =
    λ g head.
    let at_first = is g (subst (λ (c : List ℕ). HasHeader g c) (sym now) head) in
    let names = ap (λ (c : List ℕ). named_area (layout_of g) c) now in (
      (λ here. from (at_first.0 (here ∙ sym names))),
      (λ behind. behind_from g h i w0 w1 w2 now (at_first.1 (λ here. behind (here ∙ names)))),
    )
unwritten_from e w0 w1 w2 now from is = from is

pub unwritten_then : (w0 w1 w2 : Medium) → AreBytes w0.now → IsSynced w1 → w1.now ≡ w0.now → CrashImagesAre w0 w1 (IsCrashImage w0) → IsUnwritten w1 w2 → IsUnwritten w0 w2
unwritten_then w0 w1 w2 are synced now first is = record {
  now = is.now ∙ now;
  later = then w0 w1 w2 _ first (weaker w1 w2 _ _ is.later (λ c left. subst (λ (l : List ℕ). IsCrashImage w0 l) (sym (synced_left w1 c synced left ∙ now)) (itself w0.now w0.unsynced are)));
}

-- ---- the first sync

pub never_synced : (w0 w1 : Medium) → CrashImagesAre w0 w1 (IsCrashImage w0) → OpeningCrashImages w0 w1
never_synced w0 w1 first = record { synced = w1; first = first; rest = inl refl }

pub synced_then : (w0 w1 w2 : Medium) → IsSynced w1 → w1.now ≡ w0.now → CrashImagesAre w0 w1 (IsCrashImage w0) → CrashImagesAre w1 w2 (RecoversAsBefore w1.now) → OpeningCrashImages w0 w2
synced_then w0 w1 w2 synced now first later = record {
  synced = w1;
  first = first;
  rest = inr (record { is_synced = synced; now = now; later = subst (λ (c : List ℕ). CrashImagesAre w1 w2 (RecoversAsBefore c)) now later });
}

-- ---- what a read leaves

unsynced_in : List Moment → List Bool
unsynced_in [] = []
unsynced_in (m ∷ ms) = m.unsynced

pub still_synced : (w0 w1 : Medium) → moments w1 ≡ moments w0 → IsSynced w0 → IsSynced w1
unfolding unsynced_in
still_synced w0 w1 only synced = ap (λ (ms : List Moment). unsynced_in ms) only ∙ synced ∙ ap (λ (l : List ℕ). replicate (length l) false) (sym (same_bytes w0 w1 only))

pub same_unsynced : (w0 w1 : Medium) → moments w1 ≡ moments w0 → w1.unsynced ≡ w0.unsynced
unfolding unsynced_in
same_unsynced w0 w1 only = ap (λ (ms : List Moment). unsynced_in ms) only

pub leaves_read : (w0 w1 : Medium) → moments w1 ≡ moments w0 → (c : List ℕ) → IsCrashImage w1 c → IsCrashImage w0 c
leaves_read w0 w1 only c left = subst (λ (l : List Bool). IsTornFrom w0.now l c) (same_unsynced w0 w1 only) (subst (λ (l : List ℕ). IsTornFrom l w1.unsynced c) (same_bytes w0 w1 only) left)

-- once a cut was finished and the records behind it were run
pub alone_finished : {log : Log} {w0 w1 w2 : Medium} {y : State} → AreBytes w2.now → RecoversStill log.geometry w0 w2 → recovered_state log.geometry w0.now
    ≡ Some y → IsCutFinished log w0 w1 → moments w2 ≡ moments w1 → RecoversByNamedAlone (finished_log log) w2
alone_finished {log} {w0} {w1} {w2} are still held finished only =
    let now = still_now log.geometry w0 w2 are still in
    record {
      some = ap is_some (now ∙ held);
      recovers = subst (λ (o : Option State). RecoversByArea log.geometry (other log.named) (other log.named) o w2) (sym now) (λ c left. finished.recovers c (leaves_read w1 w2 only c left));
    }

-- ---- the result of a call, from which a weaker fact follows

-- A cut was finished: the area of half h is named, with the image of what the area named before had by itself, nothing is unsynced,
-- and the device is refused as it was.
pub record FinishedAndRefused (g : Geometry) (h : ℕ) (old new : Medium) : Type 0 where
  pub alike : IsRefusedAlike g old.now new.now
  pub named : named_area (layout_of g) new.now ≡ h
  pub image : image_state g (image_in g h new) ≡ area_state g (named_area (layout_of g) old.now) old.now
  pub synced : IsSynced new

-- A cut was finished, and a record of half h behind it can't be run, or the device failed. In the first case the area of half h is named
-- now, and the device is refused for this record, as it was before.
pub bad_half : {g : Geometry} {h : ℕ} → (o : Option ℕ) → {w0 w2 : Medium} → (e : OpenFault) → e ≢ OutOfMemory
    → IsConsistentFault (fault_or_later (BadRecord h) o None) e → HasHeader g w0.now → IsRefused w0.now e → FinishedAndRefused g h w0 w2 → IsFaultAfterCut g h w0 w2 e
bad_half o Device some is head why done = tt
bad_half o OutOfMemory some is head why done = absurd (some refl)
bad_half {g} {h} o {w0} {w2} (BadRecord k j) some is head why done =
    let own : k ≡ h = records_half h o (BadRecord k j) is in (
      own,
      record {
        named = done.named ∙ sym own;
        image = ap (λ (n : ℕ). image_state g (image_in g n w2)) own ∙ done.image;
        synced = done.synced;
        header = done.alike.header;
        refused = done.alike.refused ∙ ap (λ (x : Geometry). refused x w0.now) (same_geometry g why.geometry (sym head ∙ why.header)) ∙ why.is;
      },
    )
bad_half None e some is head why done = first_of (cc, assumption)
bad_half (Some i) e some is head why done = first_of (cc, assumption)
