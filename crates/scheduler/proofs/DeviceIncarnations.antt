-- What the incarnations of a device leave.
use Rattle.std.proofs.Common.{◌≡◌, ◌⊎◌, ℕ, ◌≤◌, List, [], ◌∷◌, ◌++◌, Some, None, refl, ap, sym, ◌∙◌, subst, append_assoc, inl, inr, ⊎_elim}
use Rattle.std.proofs.lemmas.List.{append-nil}
use Rattle.std.proofs.lemmas.Option.{same_Some}
use Rattle.affinity.specs.declared.geometry.Geometry.{Geometry}
use Rattle.recovery.proofs.NotRefused.{is_not_refused, has_header}
use Rattle.recovery.proofs.OneGeometry.{one_geometry}
use Rattle.recovery.specs.Header.{HasHeader}
use Rattle.recovery.specs.Recovery.{recovered_state}
use Rattle.recovery.specs.Refusals.{refused}
use Rattle.disk.proofs.IsSynced.{synced_left}
use Rattle.disk.proofs.IsTornFrom.{itself}
use Rattle.disk.proofs.CrashImagesAre.{bytes_since, counts_now, only_now}
use Rattle.disk.specs.CrashImages.{AreBytes, IsCrashImage, left_since}
use Rattle.disk.specs.Device.{IsSynced, Medium, moment_number}
use Rattle.checkpoint.specs.Opening.{IsPastSync, OpeningCrashImages, RecoversAsBefore}
use Rattle.histories.proofs.Incarnations.{all_answered, incarnation_of_run, next_incarnation, no_incarnation}
use Rattle.histories.specs.Events.{Event}
use Rattle.histories.specs.MachineState.{MachineState}
use Rattle.histories.specs.Incarnations.{IsLeftByIncarnations, Incarnation, Ran, Unopened}
use Rattle.scheduler.specs.DeviceIncarnations.{DeviceIncarnation, HasIncarnations, HaveGeometry, IsIncarnationOf, IsOfGeometry, IsPassedOn, IsRunIncarnation, LeftByLast, RecoversForIncarnations, incarnations_of}
use Rattle.meaning.specs.State.{State, empty}

-- What a crash leaves while a device is opened, it might have left before, or it recovers to the same.
opening_leaves : (old new : Medium) (c : List ℕ) → OpeningCrashImages old new → left_since new (moment_number old) c → IsCrashImage old c ⊎ RecoversAsBefore old.now c
opening_leaves old new c h since = ⊎_elim
    (λ (same : new ≡ h.synced). inl (h.first.each c (subst (λ (m : Medium). left_since m (moment_number old) c) same since)))
    (λ (past : IsPastSync old h.synced new). ⊎_elim (λ (was : left_since h.synced (moment_number old) c). inl (h.first.each c was))
    (λ (k : RecoversAsBefore old.now c). inr k) (past.later.before (moment_number old) c h.first.later since)) h.rest

module _ (g : Geometry) where
  -- The bytes recover to a state that these incarnations may leave.
  record Recovers (incarnations : List Incarnation) (c : List ℕ) : Type 0 where
    pub state : State
    pub is : recovered_state g c ≡ Some state
    pub left : IsLeftByIncarnations g incarnations state

  -- ---- one incarnation more

  module _ (incarnations : List Incarnation) (m : Medium) (t : ℕ) (so_far : (c : List ℕ) → left_since m t c → Recovers incarnations c) (l : DeviceIncarnation)
      (passed : IsPassedOn m t l.at_open) where
    at_first : Recovers incarnations l.at_open.now
    at_first = ⊎_elim (λ (crashed : left_since m t l.at_open.now × IsSynced l.at_open). so_far l.at_open.now crashed.0)
        (λ (handed : (l.at_open ≡ m) × (t ≤ moment_number m) × AreBytes m.now).
        rw handed.0 (so_far m.now (counts_now m t m.now handed.1 (itself m.now m.unsynced handed.2)))) passed

    at_once : (c : List ℕ) → IsCrashImage l.at_open c → Recovers incarnations c
    at_once c left = ⊎_elim
        (λ (crashed : left_since m t l.at_open.now × IsSynced l.at_open). subst (Recovers incarnations) (sym (synced_left l.at_open c crashed.1 left)) at_first)
        (λ (handed : (l.at_open ≡ m) × (t ≤ moment_number m) × AreBytes m.now). so_far c
        (counts_now m t c handed.1 (subst (λ (n : Medium). IsCrashImage n c) handed.0 left))) passed

    -- An incarnation in which nothing is logged leaves the state as it was.
    nothing_more : (c : List ℕ) → Recovers incarnations c → Recovers (incarnations ++ Unopened ∷ []) c
    nothing_more c h = record { state = h.state; is = h.is; left = next_incarnation g incarnations Unopened h.state [] h.left refl }

    -- The header gives the geometry, so an incarnation that has a run has the geometry g, too.
    run_geometry : (start : MachineState) (events : List Event) (k : ℕ) → IsRunIncarnation l start events k → l.geometry ≡ g
    run_geometry start events k run = one_geometry l.geometry g l.at_open.now run.header at_first.state at_first.is

    of_geometry : (incarnation : Incarnation) → IsIncarnationOf l incarnation → IsOfGeometry g l.geometry incarnation
    of_geometry Unopened h = tt
    of_geometry (Ran start events k) h = run_geometry start events k h

    run_left : (start : MachineState) (events : List Event) (k : ℕ) → IsRunIncarnation l start events k → (c : List ℕ) → left_since l.at_end l.earliest_crash c
        → Recovers (incarnations ++ Ran start events k ∷ []) c
    run_left start events k run c since =
        let one = run_geometry start events k run in
        let ran = rw one at (run.crash c since) in
        let x = start.core.committed in
        let same : at_first.state ≡ x = same_Some _ _ (sym at_first.is ∙ rw one at run.recovered_before) in
        let incarnation = incarnation_of_run g start events k ran.state run.idle (rw one at run.legal) ran.left in
        let left = next_incarnation g incarnations (Ran start events k) x incarnation.0
        (subst (IsLeftByIncarnations g incarnations) same at_first.left) incarnation.1 in
        record { state = ran.state; is = ran.is; left = rw incarnation.2 left }

    one_more : (incarnation : Incarnation) → IsIncarnationOf l incarnation → (c : List ℕ) → left_since l.at_end l.earliest_crash c → Recovers (incarnations ++ incarnation ∷ []) c
    one_more Unopened h c since = nothing_more c (⊎_elim (at_once c)
        (λ (k : RecoversAsBefore l.at_open.now c). record { state = at_first.state; is = k.same g at_first.state at_first.is; left = at_first.left })
        (opening_leaves l.at_open l.at_end c h.0 (subst (λ (n : ℕ). left_since l.at_end n c) h.1 since)))
    one_more (Ran start events k) h c since = run_left start events k h c since

  -- ---- all incarnations

  all_incarnations : (before : List Incarnation) (m : Medium) (t : ℕ) → ((c : List ℕ) → left_since m t c → Recovers before c) → (ls : List DeviceIncarnation)
      → HasIncarnations m t ls → (c : List ℕ) → LeftByLast m t ls c → Recovers (before ++ incarnations_of ls) c
  all_incarnations before m t so_far [] h c left = subst (λ (incarnations : List Incarnation). Recovers incarnations c) (sym (append-nil before)) (so_far c left)
  all_incarnations before m t so_far (l ∷ ls) h c left =
      subst (λ (incarnations : List Incarnation). Recovers incarnations c) (append_assoc before (l.incarnation ∷ []) (incarnations_of ls))
      (all_incarnations (before ++ l.incarnation ∷ []) l.at_end l.earliest_crash (one_more before m t so_far l h.0 l.incarnation h.1) ls h.2 c left)

  all_geometry : (before : List Incarnation) (m : Medium) (t : ℕ) → ((c : List ℕ) → left_since m t c → Recovers before c) → (ls : List DeviceIncarnation)
      → HasIncarnations m t ls → HaveGeometry g ls
  all_geometry before m t so_far [] h = tt
  all_geometry before m t so_far (l ∷ ls) h = (
    of_geometry before m t so_far l h.0 l.incarnation h.1,
    all_geometry (before ++ l.incarnation ∷ []) l.at_end l.earliest_crash (one_more before m t so_far l h.0 l.incarnation h.1) ls h.2,
  )

  begun : (formatted : Medium) → recovered_state g formatted.now ≡ Some empty → IsSynced formatted
      → (c : List ℕ) → left_since formatted (moment_number formatted) c → Recovers [] c
  begun formatted recovered_before synced c since =
      search (ap (recovered_state g) (synced_left formatted c synced (only_now formatted c since)) ∙ recovered_before, no_incarnation g)

  pub incarnations_agree : (formatted : Medium) (ls : List DeviceIncarnation) → recovered_state g formatted.now ≡ Some empty → IsSynced formatted
      → HasIncarnations formatted (moment_number formatted) ls → HaveGeometry g ls
  incarnations_agree formatted ls recovered_before synced h = all_geometry [] formatted (moment_number formatted) (begun formatted recovered_before synced) ls h

  pub incarnations_recover : (formatted : Medium) (ls : List DeviceIncarnation) (c : List ℕ) → recovered_state g formatted.now ≡ Some empty → IsSynced formatted
      → HasIncarnations formatted (moment_number formatted) ls → LeftByLast formatted (moment_number formatted) ls c → RecoversForIncarnations g (incarnations_of ls) c
  incarnations_recover formatted ls c recovered_before synced h left =
      let k = all_incarnations [] formatted (moment_number formatted) (begun formatted recovered_before synced) ls h c left in
      record {
        logs = k.left.logs;
        are_logs = k.left.are_logs;
        answered = all_answered g empty (incarnations_of ls) k.left.logs k.left.are_logs;
        is = k.is ∙ ap (λ (x : State). Some x) k.left.state;
      }

  left_bytes : (m : Medium) (t : ℕ) (ls : List DeviceIncarnation) (c : List ℕ) → LeftByLast m t ls c → AreBytes c
  left_bytes m t [] c left = bytes_since m t c left
  left_bytes m t (l ∷ ls) c left = left_bytes l.at_end l.earliest_crash ls c left

  -- What recovers to a state isn't refused.
  pub incarnations_open : (formatted : Medium) (ls : List DeviceIncarnation) (c : List ℕ) → recovered_state g formatted.now ≡ Some empty → IsSynced formatted
      → HasIncarnations formatted (moment_number formatted) ls → LeftByLast formatted (moment_number formatted) ls c → HasHeader g c × (refused g c ≡ None)
  incarnations_open formatted ls c recovered_before synced h left =
      let k = all_incarnations [] formatted (moment_number formatted) (begun formatted recovered_before synced) ls h c left in
      let are = left_bytes formatted (moment_number formatted) ls c left in
      (has_header g c k.state are k.is, is_not_refused g c k.state are k.is)
