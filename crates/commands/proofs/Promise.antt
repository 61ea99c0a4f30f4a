-- From what a service on a device has done follows the state from which a restart goes on.
use Rattle.std.proofs.Common.{◌≡◌, ◌⊎◌, ◌≤◌, ℕ, List, [], Option, Some, None, ap, refl, sym, ◌∙◌, subst, inl, inr, ⊎_elim, arith}
use Rattle.std.specs.Prelude.{IfSome, Result, Ok, Err, OnOk}
use Rattle.std.proofs.KnownBytes.{Appends-nil}
use Rattle.std.proofs.lemmas.Option.{same_Some}
use Rattle.affinity.specs.declared.geometry.Geometry.{Geometry}
use Rattle.recovery.proofs.OneGeometry.{one_geometry}
use Rattle.recovery.specs.Recovery.{recovered_state}
use Rattle.recovery.specs.Refusals.{IsRefused}
use Rattle.recovery.specs.declared.fault.OpenFault.{OpenFault}
use Rattle.recovery.specs.declared.fault.OpenFault.TheVariants as opening
use Rattle.disk.proofs.IsSynced.{synced_left}
use Rattle.disk.proofs.CrashImagesAre.{counts_now}
use Rattle.disk.specs.CrashImages.{AreBytes, IsCrashImage, left_since}
use Rattle.disk.specs.Device.{IsSynced, Medium, moment_number}
use Rattle.checkpoint.specs.Opening.{IsPastSync, OpeningCrashImages, RecoversAsBefore}
use Rattle.protocol.specs.Lines.{lines}
use Rattle.meaning.specs.Output.{WritesOutput, serial_output, state_after_lines}
use Rattle.serving.specs.Ends.{AreServed}
use Rattle.meaning.specs.State.{State}
use Rattle.scheduler.proofs.Refusals.{recovers_or_refused}
use Rattle.scheduler.specs.OpenFaults.{IsShownByBytes}
use Rattle.serving.proofs.RecoversWritten.{none_written, bytes_recover}
use Rattle.serving.specs.Restart.{RecoversTo, BytesRecover}
use Rattle.serving.specs.declared.server.ServeFault.{ServeFault}
use Rattle.commands.proofs.Acknowledged.{all_then, keeps_acknowledged}
use Rattle.serving.specs.Exchange.{Exchange}
use Rattle.commands.specs.Faults.{command_result}
use Rattle.commands.specs.Acknowledged.{HoldsAcknowledged}
use Rattle.commands.specs.Promise.{HasRunFrom, HoldsOfAll, HoldsRecovered, LeavesRun, IsWritten, OpensUnlessFailed}
use Rattle.commands.specs.ServedDevice.{EndsOnDevice, CrashesSafely, HasServedBy, RecoveredTo}
use Rattle.commands.specs.declared.faults.Fault.{Fault}
use Rattle.commands.specs.declared.faults.Fault.TheVariants as ends
use Rattle.commands.specs.declared.serve_options.ServeOptions.{ServeOptions}

-- ---- whatever a crash leaves at the end of a service

-- A device that holds all that was sent recovers to the state from which a restart goes on.
pub recovered : {slots : ℕ} {old : Medium} {input before written : Option (List ℕ)} {c : List ℕ} → HoldsAcknowledged slots old input before written c
    → HoldsRecovered slots old input before written c
recovered {slots} {input} {before} {written} {c} h = search (bytes_recover 0 h.holds.consumed h.holds.lines h.holds.first h.holds.output h.holds.few h.holds.kept h.holds.holds, h)

pub leaves_recovered : {keeps : Type 0} {s : ServeOptions} {old new : Medium} (end : Result (Unit {0}) ServeFault) {x : Exchange} → HasServedBy keeps s old new end x
    → HoldsOfAll (command_result end) s.slots x.before x.written (λ left all. keeps → (c : List ℕ) → IsCrashImage new c → HoldsRecovered left old x.input x.before all c)
leaves_recovered {s} end {x} h = all_then (command_result end) s.slots x.before x.written (λ left all k keep c leaves. recovered (k keep c leaves)) (keeps_acknowledged end h)

-- ---- two incarnations

-- A device that recovers to this state was opened with this geometry, and from this state.
pub opened_so : {keeps : Type 0} (keep : keeps) {g h : Geometry} {x y : State} {old : Medium} → recovered_state g old.now ≡ Some x → RecoveredTo keeps old h y → (h ≡ g) × (y ≡ x)
opened_so keep {g} {h} {x} {old} recovers recovered_before =
    let same : h ≡ g = one_geometry h g old.now (recovered_before.header keep) x recovers in
    (same, same_Some _ _ (sym (recovered_before.recovered_before keep) ∙ ap (λ (k : Geometry). recovered_state k old.now) same ∙ recovers))

written_so : (input before written : Option (List ℕ)) (P Q : List ℕ → List ℕ → Type 0) → ((bytes out : List ℕ) → P bytes out → Q bytes out)
    → WritesOutput input before written P → WritesOutput input before written Q
written_so None before written P Q f h = tt
written_so (Some bytes) before written P Q f h = (h.0, h.1, f bytes h.0 h.2)

-- A service that ends without fault has answered all of its input.
module _ {keeps : Type 0} (keep : keeps) (g : Geometry) {x : State} (old : Medium) (recovers : recovered_state g old.now ≡ Some x) where
  serves_so : (s : ServeOptions) (new : Medium) (end : Result (Unit {0}) Fault) (streams : Exchange) → EndsOnDevice keeps s old new end streams
      → OnOk end (WritesOutput streams.input streams.before streams.written (λ bytes out. out ≡ serial_output g x bytes))
  serves_so s new (Err fault) streams h = tt
  serves_so s new (Ok done) streams h =
      let own = opened_so keep recovers h.1.0.before in
      written_so streams.input streams.before streams.written _ _
      (λ bytes out served. served.output ∙ (λ i. serial_output (own.0 i) (own.1 i) bytes)) h.1.3

  -- Whatever a crash leaves then recovers to the state after all of it.
  pub ends_so : (s : ServeOptions) (new : Medium) (end : Result (Unit {0}) Fault) (streams : Exchange) → EndsOnDevice keeps s old new end streams
      → (c : List ℕ) → IsCrashImage new c → OnOk end (IfSome streams.input (λ bytes. recovered_state g c ≡ Some (state_after_lines g x (lines bytes))))
  ends_so s new (Err fault) streams h c leaves = tt
  ends_so s new (Ok done) streams h c leaves = all_of streams.input h.1.3
    where
      all_of : (input : Option (List ℕ)) → WritesOutput input streams.before streams.written (λ bytes out. AreServed h.1.0.geometry h.1.0.start h.1.0.end (lines bytes) out)
          → IfSome input (λ bytes. recovered_state g c ≡ Some (state_after_lines g x (lines bytes)))
      all_of None served = tt
      all_of (Some bytes) served =
          let own = opened_so keep recovers h.1.0.before in
          ap (λ (k : Geometry). recovered_state k c) (sym own.0) ∙ h.1.0.after.each keep c leaves
          ∙ ap (λ (y : State). Some y) (served.2.state ∙ (λ i. state_after_lines (own.0 i) (own.1 i) (lines bytes)))

-- Of the end of a service: the device could not be opened; or P holds of all that was to be written.
pub opened_or : (P : ℕ → Option (List ℕ) → Type 0) (end : Result (Unit {0}) Fault) (slots : ℕ) (before written : Option (List ℕ)) → HoldsOfAll end slots before written P
    → ((fault : OpenFault) × (end ≡ Err (ends.Open fault))) ⊎ ((left : ℕ) × (all : Option (List ℕ)) × IsWritten end slots left before written all × P left all)
opened_or P (Err (ends.Open fault)) slots before written h = inl (fault, refl)
opened_or P end slots before written h = inr h

-- A crash at any moment while the device is opened leaves what recovers to the same state.
pub crashed_since : (g : Geometry) (old new : Medium) {x : State} → recovered_state g old.now ≡ Some x → IsSynced old → (c : List ℕ)
    → left_since new (moment_number old) c → OpeningCrashImages old new → recovered_state g c ≡ Some x
crashed_since g old new {x} made synced c since h =
    ⊎_elim (λ (was : IsCrashImage old c). ap (recovered_state g) (synced_left old c synced was) ∙ made) (λ (k : RecoversAsBefore old.now c). k.same g x made)
    (⊎_elim
    (λ (same : new ≡ h.synced). inl (h.first.each c (subst (λ (m : Medium). left_since m (moment_number old) c) same since)))
    (λ (past : IsPastSync old h.synced new). ⊎_elim (λ (was : left_since h.synced (moment_number old) c). inl (h.first.each c was))
    (λ (k : RecoversAsBefore old.now c). inr k)
    (past.later.before (moment_number old) c h.first.later since)) h.rest)

-- Where nothing was written, bytes that recover to the state of the start are as they may be.
pub silent : {g : Geometry} (slots : ℕ) {x : State} (input before written : Option (List ℕ)) (c : List ℕ) → recovered_state g c ≡ Some x → written ≡ before
    → BytesRecover g slots x input before written c
silent {g} slots {x} input before written c recovers unwritten = record { now = x; holds_now = recovers; recovers = so input }
  where
    so : (input : Option (List ℕ)) → WritesOutput input before written (RecoversTo g slots x x)
    so None = tt
    so (Some bytes) = ([], rw unwritten (Appends-nil before), none_written g slots x bytes)

-- One run, on a device that is synced and recovers to state x, and what a crash leaves of it then.
module _ {keeps : Type 0} (keep : keeps) (g : Geometry) (old new : Medium) {x : State}
    (made : recovered_state g old.now ≡ Some x) (synced : IsSynced old) (c : List ℕ) (leaves : IsCrashImage new c) where
  left_so : {slots : ℕ} (input before written : Option (List ℕ)) → HoldsRecovered slots old input before written c → BytesRecover g slots x input before written c
  left_so {slots} input before written h =
      let own = opened_so tt made h.recovered_before in
      rw (own.0, own.1) at h.recovered

  -- A crash when the device was opened leaves what recovers to the same state.
  crashed_so : OpeningCrashImages old new → recovered_state g c ≡ Some x
  crashed_so h =
      let later = ⊎_elim (λ (same : new ≡ h.synced). subst (λ (m : Medium). moment_number old ≤ moment_number m) (sym same) h.first.later)
      (λ (past : IsPastSync old h.synced new). let a = h.first.later in let b = past.later.later in omega (arith, a, b)) h.rest in
      crashed_since g old new made synced c (counts_now new (moment_number old) c later leaves) h

  -- where the device could not be opened
  left_unopened : (input before written : Option (List ℕ)) → OpeningCrashImages old new → written ≡ before → BytesRecover g 0 x input before written c
  left_unopened input before written opening unwritten = silent 0 input before written c (crashed_so opening) unwritten

  module _ (s : ServeOptions) (end : Result (Unit {0}) Fault) (streams : Exchange) where
    run_so : EndsOnDevice keeps s old new end streams → CrashesSafely keeps s old new end streams
        → HoldsOfAll end s.slots streams.before streams.written (λ left all. keeps → (c : List ℕ) → IsCrashImage new c → HoldsRecovered left old streams.input streams.before all c)
        → HasRunFrom g s.slots x end streams.input streams.before streams.written (λ now. recovered_state g c ≡ Some now)
    run_so e safe recovers = ⊎_elim
        (λ (why : (fault : OpenFault) × (end ≡ Err (ends.Open fault))).
        let unwritten = (rw why.1 at e).2 in
        so 0 streams.written (rw why.1 ((refl, refl), unwritten))
        (left_unopened streams.input streams.before streams.written ((rw why.1 at safe) keep) unwritten))
        (λ h. so h.0 h.1 h.2 (left_so streams.input streams.before h.1 (h.3 keep c leaves)))
        (opened_or _ end s.slots streams.before streams.written recovers)
      where
        so : (left : ℕ) (all : Option (List ℕ)) → IsWritten end s.slots left streams.before streams.written all → BytesRecover g left x streams.input streams.before all c
            → HasRunFrom g s.slots x end streams.input streams.before streams.written (λ now. recovered_state g c ≡ Some now)
        so left all is h = search (serves_so keep g old made s new end streams e, h, is)

module _ {keeps : Type 0} (keep : keeps) (g : Geometry) (s : ServeOptions) (old new : Medium) (end : Result (Unit {0}) Fault) (streams : Exchange) where
  -- A device that recovers to a state is opened, unless it fails or memory is wanting.
  pub opens_so : {x : State} → AreBytes old.now → recovered_state g old.now ≡ Some x → EndsOnDevice keeps s old new end streams → OpensUnlessFailed end
  opens_so {x} bytes recovers h fault is =
      not_shown fault (recovers_or_refused old.now g x fault bytes recovers)
      ((rw is at h).0 keep).0
    where
      not_shown : (fault : OpenFault) → (IsShownByBytes fault → IsRefused old.now fault → ⊥) → IsRefused old.now fault → (fault ≡ opening.Device) ⊎ (fault ≡ opening.OutOfMemory)
      not_shown opening.Device none is = inl refl
      not_shown opening.OutOfMemory none is = inr refl
      not_shown fault none is = absurd (none tt is)

module _ {keeps : Type 0} (s : ServeOptions) (old new : Medium) (end : Result (Unit {0}) Fault) (streams : Exchange) where
  -- The service ran from the state that the device held.
  pub leaves_run : AreBytes old.now → EndsOnDevice keeps s old new end streams → CrashesSafely keeps s old new end streams
      → HoldsOfAll end s.slots streams.before streams.written (λ left all. keeps → (c : List ℕ) → IsCrashImage new c → HoldsRecovered left old streams.input streams.before all c)
      → keeps → (g : Geometry) → LeavesRun g (recovered_state g) s.slots old new end streams.input streams.before streams.written
  leaves_run bytes e safe recovers keep g x is = (
    opens_so keep g s old new end streams bytes is.0 e,
    λ c leaves. run_so keep g old new is.0 is.1 c leaves s end streams e safe recovers,
  )
