-- A core whose journal was called: what holds afterwards, and at each moment.
use Rattle.std.proofs.Common.{◌≡◌, ◌≤◌, ℕ, Bool, true, false, List, [], take, Option, Some, refl, ap, sym, subst, ◌∙◌, arith}
use Rattle.std.specs.Prelude.{IfSome, if◌then◌else◌}
use Rattle.std.proofs.lemmas.Bool.{cond-false, cond-true}
use Rattle.affinity.specs.declared.geometry.Geometry.{Geometry}
use Rattle.recovery.specs.Recovery.{recovered_state}
use Rattle.disk.proofs.CrashImagesAre.{leaves_now, started, weaker}
use Rattle.disk.specs.Device.{Medium}
use Rattle.disk.specs.CrashImages.{CrashImagesAre}
use Rattle.checkpoint.specs.Journal.{RecoversWithPrefix, committed}
use Rattle.checkpoint.specs.DirtyPieces.{DirtyPieces}
use Rattle.image.specs.Pieces.{piece_count}
use Rattle.histories.proofs.IsSoundCoreState.{event_sound}
use Rattle.histories.specs.IsSoundCoreState.{IsSoundCoreState}
use Rattle.histories.specs.CoreState.{CoreState}
use Rattle.histories.specs.declared.outcomes.Outcome.{Outcome}
use Rattle.histories.specs.declared.outcomes.Step.{Step}
use Rattle.protocol.specs.declared.messages.Msg.{Msg}
use Rattle.meaning.specs.Step.{state_after_all}
use Rattle.meaning.specs.State.{State}
use Rattle.scheduler.specs.Calls.{IsCallEvent}
use Rattle.scheduler.specs.CoreView.{CoreView, RecoversNow, RecoversThroughout}
use Rattle.scheduler.specs.Parts.{Parts}
use Rattle.scheduler.specs.View.{core_view_of, core_state_in}
use Rattle.scheduler.specs.IsCore.{IsCore}

-- bytes that recover to a state recover to it with none of these messages
pub with_none : (g : Geometry) (x : State) (ms : List Msg) (c : List ℕ) → recovered_state g c ≡ Some x → RecoversWithPrefix g x ms c
with_none g x ms c is = record { added = 0; at_most = omega arith; is = is }

pub from_none : (g : Geometry) (x : State) (ms : List Msg) (c : List ℕ) → RecoversWithPrefix g x [] c → RecoversWithPrefix g x ms c
from_none g x ms c h = let few = h.at_most in let none : h.added ≡ 0 = omega (arith, few) in
    record { added = 0; at_most = omega arith; is = h.is ∙ ap (λ k. Some (state_after_all g x (take k []))) none }

-- a crash during a call that leaves the device alone leaves what a crash before it may leave
pub still_standing : (keeps : Type 0) (p : Parts) → IsCore keeps p → keeps → (ms : List Msg) (new : CoreView) → new.medium ≡ p.journal.medium
    → RecoversThroughout ms (core_view_of p) new
still_standing keeps p k keep ms new same =
    subst (λ (m : Medium). CrashImagesAre p.journal.medium m (RecoversWithPrefix p.journal.geometry (core_state_in p).committed (if p.journal.failed then p.batch else ms))) (sym same)
    (started p.journal.medium _ (λ c left. by p.journal.failed refl c (k.recovers keep c left)))
  where
    by : (b : Bool) → p.journal.failed ≡ b → (c : List ℕ) → RecoversWithPrefix p.journal.geometry (core_state_in p).committed p.batch c
        → RecoversWithPrefix p.journal.geometry (core_state_in p).committed (if p.journal.failed then p.batch else ms) c
    by true e c h = subst (λ ds. RecoversWithPrefix p.journal.geometry (core_state_in p).committed ds c) (sym (cond-true p.journal.failed p.batch ms e)) h
    by false e c h = subst (λ ds. RecoversWithPrefix p.journal.geometry (core_state_in p).committed ds c) (sym (cond-false p.journal.failed p.batch ms e))
        (from_none p.journal.geometry (core_state_in p).committed ms c
        (subst (λ ds. RecoversWithPrefix p.journal.geometry (core_state_in p).committed ds c) (k.no_doubt e) h))

-- the same in the words of contracts
pub stands : {keeps : Type 0} {p : Parts} {self : CoreView} → IsCore keeps p → core_view_of p ≡ self → keeps → (ms : List Msg) → RecoversThroughout ms self self
stands {keeps} {p} k view keep ms = subst (λ (o : CoreView). RecoversThroughout ms o o) view (still_standing keeps p k keep ms (core_view_of p) refl)

-- an event leads to a sound core state
pub called_sound : (g : Geometry) (old new : CoreState) (step : Step) (outcome : Outcome) (device_failed : Bool) → IsCallEvent g old new step outcome device_failed
    → IsSoundCoreState g old → IsSoundCoreState g new
called_sound g old new step outcome device_failed called sound = event_sound g (record { core = old; hands = [] }) _ (called []) sound

abbrev pub with_journal : Parts → ℕ → Option ℕ → Bool → DirtyPieces → Medium → Parts
with_journal p room pieces_left failed dirty medium = record p { journal = record p.journal { room = room; pieces_left = pieces_left; failed = failed; dirty = dirty; medium = medium } }

-- The core state is sound, and no more pieces are left than there are.
abbrev pub IsSoundIn : Parts → Type 0
IsSoundIn p = IsSoundCoreState p.journal.geometry (core_state_in p) × IfSome p.journal.pieces_left (λ n. n ≤ piece_count p.journal.geometry)

module _ (keeps : Type 0) (p : Parts) (k : IsCore keeps p) (works : p.journal.failed ≡ false) where
  abbrev g : Geometry
  g = p.journal.geometry

  pub committed_now : keeps → committed p.journal ≡ Some (core_state_in p).committed
  committed_now keep = k.is_committed keep works

  module _ (medium : Medium) (any : keeps → CrashImagesAre p.journal.medium medium (λ c. recovered_state g c ≡ committed p.journal)) where
    pub step_moments : keeps → CrashImagesAre p.journal.medium medium (RecoversWithPrefix g (core_state_in p).committed [])
    step_moments keep = weaker p.journal.medium medium (λ c. recovered_state g c ≡ committed p.journal) _ (any keep)
        (λ c is. with_none g (core_state_in p).committed [] c (is ∙ committed_now keep))

    pub step_throughout : (new : CoreView) → new.medium ≡ medium → keeps → RecoversThroughout [] (core_view_of p) new
    step_throughout new same keep =
        subst (λ (m : Medium). CrashImagesAre p.journal.medium m (RecoversWithPrefix g (core_state_in p).committed (if p.journal.failed then p.batch else []))) (sym same)
        (subst (λ ds. CrashImagesAre p.journal.medium medium (RecoversWithPrefix g (core_state_in p).committed ds)) (sym (cond-false p.journal.failed p.batch [] works)) (step_moments keep))

    pub step_recovers : (room : ℕ) (pieces_left : Option ℕ) (failed : Bool) (dirty : DirtyPieces) → keeps → RecoversNow (core_view_of (with_journal p room pieces_left failed dirty medium))
    step_recovers room pieces_left failed dirty keep c leaves = subst (λ ds. RecoversWithPrefix g (core_state_in p).committed ds c) (sym (k.no_doubt works))
        (leaves_now p.journal.medium medium _ (step_moments keep) c leaves)

    -- the step was made, or the device failed
    pub step_core : (room : ℕ) (pieces_left : Option ℕ) (failed : Bool) (dirty : DirtyPieces) → IsSoundIn (with_journal p room pieces_left failed dirty medium)
        → (keeps → failed ≡ false → committed (record p.journal { room = room; pieces_left = pieces_left; failed = failed; dirty = dirty; medium = medium }) ≡ committed p.journal)
        → IsCore keeps (with_journal p room pieces_left failed dirty medium)
    step_core room pieces_left failed dirty sound same =
        let is_committed : keeps → failed ≡ false
        → committed (record p.journal { room = room; pieces_left = pieces_left; failed = failed; dirty = dirty; medium = medium }) ≡ Some (core_state_in p).committed =
        λ keep fine. same keep fine ∙ committed_now keep in
        let no_doubt : failed ≡ false → p.batch ≡ [] = λ fine. k.no_doubt works in
        assumption (sound.0, sound.1, is_committed, step_recovers room pieces_left failed dirty, no_doubt, k)
