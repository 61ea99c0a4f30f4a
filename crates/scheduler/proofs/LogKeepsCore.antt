-- A core that logs: what it hands to the journal, and what holds afterwards.
use Rattle.std.proofs.Common.{◌≡◌, ℕ, ◌+◌, ◌-◌, ◌≤◌, Bool, true, false, List, [], ◌∷◌, ◌++◌, map, length, take, drop, Some, refl, ap, sym, subst, ◌∙◌, arith}
use Rattle.std.specs.Prelude.{if◌then◌else◌, cond, filter}
use Rattle.std.specs.List.{AllByRecursion}
use Rattle.std.proofs.lemmas.Bool.{and_parts, cond-false, true≢false}
use Rattle.std.proofs.lemmas.List.Elements.{All-from_recursion}
use Rattle.std.proofs.lemmas.List.{drop-map, length-append, map-append, take-append-drop, take-map}
use Rattle.affinity.specs.Kind.{is_changing}
use Rattle.affinity.specs.declared.geometry.Geometry.{Geometry}
use Rattle.affinity.proofs.Elements.{all_join, all_weaker}
use Rattle.histories.proofs.Entries.{all_recorded}
use Rattle.recovery.specs.Recovery.{recovered_state}
use Rattle.disk.proofs.CrashImagesAre.{leaves_now}
use Rattle.disk.specs.CrashImages.{IsCrashImage, CrashImagesAre}
use Rattle.disk.specs.Device.{Medium}
use Rattle.checkpoint.specs.Journal.{AreCarriedOut, RecoversWithPrefix, committed}
use Rattle.checkpoint.specs.DirtyPieces.{DirtyPieces}
use Rattle.histories.proofs.Lists.{all_back, all_front, before_back, before_front}
use Rattle.histories.proofs.Room.{log_has_room}
use Rattle.histories.proofs.IsSoundCoreState.{log_sound}
use Rattle.histories.proofs.SerialReplies.{state_after_all-joined, still_replied}
use Rattle.histories.specs.Eligible.{unlogged_changes}
use Rattle.histories.specs.Events.{batch, log, recorded}
use Rattle.histories.specs.IsSoundCoreState.{HaveRepliesAt, IsSoundCoreState}
use Rattle.histories.specs.CoreState.{Replied, CoreState, entries, AreUnrelated}
use Rattle.protocol.specs.Messages.{IsMessage, is_in_range, kind}
use Rattle.protocol.specs.declared.messages.Msg.{Msg}
use Rattle.oplog.specs.ChangeRecords.{AreChangesInRange, IsChangeInRange}
use Rattle.parcel.specs.TreeHolds.{TreeHolds}
use Rattle.parcel.specs.Tree.{tree_nodes}
use Rattle.meaning.proofs.IsRecorded.{unrecorded_changes_nothing}
use Rattle.meaning.specs.Step.{state_after_all, is_recorded, next_state}
use Rattle.meaning.specs.State.{State}
use Rattle.scheduler.proofs.UnloggedChanges.{AreClaimed, HasHeld, changing, changing-append, unlogged_of}
use Rattle.scheduler.proofs.JournalKeepsCore.{with_none}
use Rattle.scheduler.proofs.HeldAny.{any_logged}
use Rattle.scheduler.proofs.Trees.{log_reaches}
use Rattle.scheduler.specs.CoreView.{CoreView, RecoversNow, RecoversThroughout}
use Rattle.scheduler.specs.Parts.{Parts}
use Rattle.scheduler.specs.View.{core_view_of, core_state_in}
use Rattle.scheduler.specs.IsCore.{IsCore, is_below, reached}
use Rattle.scheduler.specs.Slots.{SlotView, IsPlaced, entry_of, replied_of}

-- ---- from what ran to what the journal asks for

abbrev pub AreKnown : Geometry → List Replied → Type 0
AreKnown g as' = AllByRecursion (λ a. IsMessage a.1 × (is_in_range g a.1 ≡ true)) as'

pub known_from : (g : Geometry) (ys : List SlotView) → AllByRecursion (IsPlaced g) ys → AreKnown g (map replied_of ys)
known_from g [] all = tt
known_from g (y ∷ ys) all = ((all.0.message, all.0.range), known_from g ys all.1)

module _ (g : Geometry) where
  pub carried_out : (x : State) (first rest : List Replied) → AreUnrelated g (entries (first ++ rest)) → HaveRepliesAt g x (first ++ rest) → AreKnown g first
      → AreCarriedOut g x (recorded first)
  carried_out x [] rest apart h known = tt
  carried_out x (a ∷ first) rest apart h known =
      let k = carried_out (next_state g x a.1) first rest apart.1 (still_replied g x a (first ++ rest) apart.0 h.1) known.1 in
      elim (is_recorded a.1 a.2) as (λ b. is_recorded a.1 a.2 ≡ b
      → AreCarriedOut g x (map (λ (a : Replied). a.1) (cond b (a ∷ filter (λ a. is_recorded a.1 a.2) first) (filter (λ a. is_recorded a.1 a.2) first)))) [
        | true ↦ λ e. (known.0.0, ((and_parts (is_changing (kind a.1)) _ e).0, known.0.1), ap (is_recorded a.1) (sym h.0) ∙ e, k)
        | false ↦ λ e. subst (λ y. AreCarriedOut g y (recorded first)) (unrecorded_changes_nothing g x a.1 (ap (is_recorded a.1) (sym h.0) ∙ e)) k
      ] refl

  pub each_changes : (first : List Replied) → AreKnown g first → AllByRecursion (λ m. IsChangeInRange g m) (recorded first)
  each_changes first known = all_recorded (λ m. IsChangeInRange g m) first (all_weaker (λ a. IsMessage a.1 × (is_in_range g a.1 ≡ true)) _
      (λ a is made. ((and_parts (is_changing (kind a.1)) _ made).0, is.1)) first known)

-- the changes that a log step of n hands to the journal, as they are in the slots
abbrev pub batch_at : Parts → ℕ → List Msg
batch_at p n = recorded (map replied_of (take n p.phases.ran))

module _ (keeps : Type 0) (p : Parts) (k : IsCore keeps p) (n : ℕ) where
  abbrev g : Geometry
  g = p.journal.geometry

  abbrev w : CoreState
  w = core_state_in p

  pub same_batch : batch_at p n ≡ batch w n
  same_batch = ap recorded (sym (take-map replied_of n p.phases.ran))

  known : AreKnown g (take n w.ran)
  known = subst (AreKnown g) (sym (take-map replied_of n p.phases.ran))
      (known_from g (take n p.phases.ran) (all_front (IsPlaced g) (take n p.phases.ran) (drop n p.phases.ran)
      (subst (AllByRecursion (IsPlaced g)) (sym (take-append-drop n p.phases.ran)) k.placed.ran)))

  pub batch_changes : AreChangesInRange g (batch_at p n)
  batch_changes = subst (AreChangesInRange g) (sym same_batch) (All-from_recursion (λ m. IsChangeInRange g m) (batch w n) (each_changes g (take n w.ran) known))

  pub batch_carried : AreCarriedOut g w.committed (batch_at p n)
  batch_carried =
      let whole : take n w.ran ++ drop n w.ran ≡ w.ran = take-append-drop n w.ran in
      subst (AreCarriedOut g w.committed) (sym same_batch) (carried_out g w.committed (take n w.ran) (drop n w.ran)
      (subst (λ r. AreUnrelated g (entries r)) (sym whole) (before_front _ (entries w.ran) w.in_flight (before_back _ (entries w.logged) _ k.sound.apart)))
      (subst (HaveRepliesAt g w.committed) (sym whole) k.sound.replied) known)

  pub batch_fits : length (batch_at p n) ≤ p.journal.room
  batch_fits = subst (λ ms. length ms ≤ p.journal.room) (sym same_batch) (log_has_room w n k.sound.room)

-- ---- what holds afterwards

abbrev pub with_log : Parts → ℕ → ℕ → ℕ → DirtyPieces → Medium → Parts
with_log p n unlogged room dirty medium = record p {
  phases = record p.phases { ran = drop n p.phases.ran; logged = p.phases.logged ++ take n p.phases.ran };
  journal = record p.journal { room = room; dirty = dirty; medium = medium };
  batch = [];
  unlogged = unlogged;
  since_open = p.since_open ++ batch_at p n;
}

abbrev pub with_doubt : Parts → ℕ → Medium → Parts
with_doubt p n medium = record p { journal = record p.journal { failed = true; medium = medium }; batch = batch_at p n }

module _ (keeps : Type 0) (p : Parts) (k : IsCore keeps p) (works : p.journal.failed ≡ false) (n unlogged : ℕ) (dirty : DirtyPieces) (medium : Medium) where
  abbrev room : ℕ
  room = p.journal.room - length (batch_at p n)

  abbrev after : Parts
  after = with_log p n unlogged room dirty medium

  pub log_state : core_state_in after ≡ log p.journal.geometry (core_state_in p) n
  log_state = λ i. record (core_state_in after) {
    ran = sym (drop-map replied_of n p.phases.ran) i;
    logged = (map-append replied_of p.phases.logged (take n p.phases.ran) ∙ ap (λ as'. map replied_of p.phases.logged ++ as') (sym (take-map replied_of n p.phases.ran))) i;
    committed = (state_after_all-joined p.journal.geometry _ p.since_open (batch_at p n) ∙ ap (state_after_all p.journal.geometry (core_state_in p).committed) (same_batch keeps p k n)) i;
    room = p.journal.room - length (same_batch keeps p k n i);
    doubt = sym (k.no_doubt works) i;
  }

  module _ (unlogged_is : unlogged + changing (take n p.phases.ran) ≡ p.unlogged)
      (is_committed : keeps → committed (record p.journal { room = room; dirty = dirty; medium = medium }) ≡ Some (core_state_in after).committed)
      (recovers : keeps → (c : List ℕ) → IsCrashImage medium c → recovered_state p.journal.geometry c ≡ committed (record p.journal { room = room; dirty = dirty; medium = medium })) where
    pub log_core : IsCore keeps after
    log_core =
        let whole = sym (take-append-drop n p.phases.ran) in
        let counts = ap length whole ∙ length-append (take n p.phases.ran) (drop n p.phases.ran) in
        let more = length-append p.phases.logged (take n p.phases.ran) in
        let claimed = k.claimed in
        let unlogged_was = k.unlogged_is ∙ unlogged_of p in
        let unlogged_now = unlogged_of after in
        let ran = ap changing whole ∙ changing-append (take n p.phases.ran) (drop n p.phases.ran) in
        let placed = subst (AllByRecursion (IsPlaced p.journal.geometry)) whole k.placed.ran in
        let slots : AreClaimed after = omega (arith, counts, more, claimed) in
        let rest = all_back (IsPlaced p.journal.geometry) (take n p.phases.ran) (drop n p.phases.ran) placed in
        let logged = all_join (IsPlaced p.journal.geometry) p.phases.logged (take n p.phases.ran) k.placed.logged
        (all_front (IsPlaced p.journal.geometry) (take n p.phases.ran) (drop n p.phases.ran) placed) in
        let queue_held : HasHeld after = λ test. k.queue_held test ∙ any_logged test p.phases (take n p.phases.ran) (drop n p.phases.ran) whole in
        let still_unlogged : after.unlogged ≡ unlogged_changes (core_state_in after) = omega (arith, unlogged_was, unlogged_now, ran, unlogged_is) in
        let sound = subst (IsSoundCoreState p.journal.geometry) (sym log_state) (log_sound p.journal.geometry (core_state_in p) k.sound n) in
        let holds = subst (λ s. TreeHolds p.journal.geometry (is_below p.journal.geometry (map entry_of p.phases.in_flight)) (tree_nodes p.tree) s)
        (sym (log_reaches p.journal.geometry (core_state_in p) n k.sound) ∙ ap (reached p.journal.geometry) (sym log_state)) k.tree in
        let is_committed_now : keeps → p.journal.failed ≡ false → committed after.journal ≡ Some
        (core_state_in after).committed = λ keep fine. is_committed keep in
        let recovers_now : keeps → RecoversNow (core_view_of after) =
        λ keep c leaves. with_none p.journal.geometry (core_state_in after).committed [] c (recovers keep c leaves ∙ is_committed keep) in
        let no_doubt : p.journal.failed ≡ false → after.batch ≡ [] = λ fine. refl in
        assumption (slots, rest, logged, queue_held, still_unlogged, sound, holds, is_committed_now, recovers_now, no_doubt, k)

  module _ (any : keeps → CrashImagesAre p.journal.medium medium (RecoversWithPrefix p.journal.geometry (core_state_in p).committed (batch_at p n))) where
    -- at each moment of the call
    pub log_throughout : (new : CoreView) → new.medium ≡ medium → keeps → RecoversThroughout (batch (core_state_in p) n) (core_view_of p) new
    log_throughout new same keep =
        subst (λ (m : Medium). CrashImagesAre p.journal.medium m (RecoversWithPrefix p.journal.geometry (core_state_in p).committed
        (if p.journal.failed then p.batch else batch (core_state_in p) n))) (sym same)
        (subst (λ ds. CrashImagesAre p.journal.medium medium (RecoversWithPrefix p.journal.geometry (core_state_in p).committed ds))
        (same_batch keeps p k n ∙ sym (cond-false p.journal.failed p.batch (batch (core_state_in p) n) works)) (any keep))

    -- the device failed
    pub doubt_core : IsCore keeps (with_doubt p n medium)
    doubt_core =
        let is_committed : keeps → ◌≡◌ {A = Bool} true false → committed (with_doubt p n medium).journal ≡ Some (core_state_in p).committed =
        λ keep fine. absurd (true≢false fine) in
        let recovers : keeps → RecoversNow (core_view_of (with_doubt p n medium)) = λ keep c leaves. leaves_now p.journal.medium medium _ (any keep) c leaves in
        let no_doubt : ◌≡◌ {A = Bool} true false → batch_at p n ≡ [] = λ fine. absurd (true≢false fine) in
        assumption (is_committed, recovers, no_doubt, k)
