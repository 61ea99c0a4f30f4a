-- What a service on a device has done, from what its server promises.
use Rattle.std.proofs.Common.{◌≡◌, ◌∙◌, ◌+◌, ℕ, Bool, List, [], Some, None, true, false, refl, ap, take, replicate, arith}
use Rattle.std.specs.Prelude.{Result, Ok, Err, cond}
use Rattle.std.proofs.lemmas.List.{take_all}
use Rattle.recovery.specs.Recovery.{recovered_state}
use Rattle.disk.proofs.IsTornFrom.{itself}
use Rattle.disk.specs.CrashImages.{AreBytes, IsCrashImage}
use Rattle.disk.specs.Device.{Medium}
use Rattle.checkpoint.specs.Opening.{OpeningCrashImages}
use Rattle.histories.proofs.Room.{at_most_one}
use Rattle.histories.specs.MachineState.{MachineState}
use Rattle.histories.specs.CoreState.{IsIdle}
use Rattle.scheduler.proofs.FailStop.{fail_stop, fails_once}
use Rattle.scheduler.specs.Machine.{machine_of}
use Rattle.meaning.specs.Step.{state_after_all}
use Rattle.protocol.specs.declared.messages.Msg.{Msg}
use Rattle.scheduler.specs.CoreView.{IsJustOpened, CoreView, RecoversNow, core_state_of}
use Rattle.serving.specs.Exchange.{Exchange}
use Rattle.serving.specs.Ends.{committed_in}
use Rattle.serving.specs.Runs.{machine_with_jobs, HasRunLines}
use Rattle.serving.specs.Serve.{ServePromise}
use Rattle.serving.specs.declared.server.ServeFault.{ServeFault}
use Rattle.serving.specs.declared.server.ServeFault.TheVariants as faults
use Rattle.commands.specs.Faults.{command_result}
use Rattle.commands.specs.ServedDevice.{CountsFaults, EndsOnDevice, CrashesSafely, HasServedBy, HasServedNothing, IsIncarnation, RecoversDurably, RecoveredTo, ServedDevice}
use Rattle.commands.specs.declared.serve_options.ServeOptions.{ServeOptions}

-- no message is in a core that was just opened
pub is_idle : (slots : ℕ) (c : CoreView) → IsJustOpened slots c → IsIdle (core_state_of c)
is_idle slots c just = record { none_waits = just.none_waits; none_held = rw (just.none_logged, just.none_ran, just.none_in_flight) refl }

-- ---- how often the device failed

module _ {keeps : Type 0} (workers every : ℕ) (old : Medium) (start now : CoreView) (x : Exchange) (no_fault : start.medium.faults ≡ old.faults)
    (works : start.failed ≡ false) where
  fails_if : (end : Result (Unit {0}) ServeFault) → ServePromise keeps workers every start (now, end) x → now.medium.faults ≡ old.faults + cond now.failed 1 0
  fails_if end served =
      let segment = served.run.served.run.segment in
      let machine = machine_of (machine_with_jobs start (replicate workers None)) in
      let once = fails_once start.geometry machine start.medium segment.device_events segment.leads.legal segment.leads.agrees works in
      let last = ap {B = ℕ} (λ (w : MachineState). cond w.core.failed 1 0) segment.leads.ends in
      let after = ap (λ (m : Medium). m.faults) segment.leads.device in
      omega (arith, once, last, after, no_fault)

  by_end : (failed : Bool) (end : Result (Unit {0}) ServeFault) → now.failed ≡ failed → ServePromise keeps workers every start (now, end) x
      → now.medium.faults ≡ old.faults + cond failed 1 0
  by_end failed end is served = rw is at (fails_if end served)

  pub faults_counted : (end : Result (Unit {0}) ServeFault) → ServePromise keeps workers every start (now, end) x → CountsFaults old now.medium end
  faults_counted (Err faults.Device) served = by_end true (Err faults.Device) served.ends.0 served
  faults_counted (Err faults.Write) served = omega (arith, fails_if (Err faults.Write) served, at_most_one now.failed)
  faults_counted (Err faults.NoWorkers) served = ap (λ (c : CoreView). c.medium.faults) served.ends.0 ∙ no_fault
  faults_counted (Err faults.OutOfMemory) served = ap (λ (c : CoreView). c.medium.faults) served.ends.0 ∙ no_fault
  faults_counted (Ok done) served = let none = by_end false (Ok done) served.ends.1 served in omega (arith, none)
  faults_counted (Err fault) served = let none = by_end false (Err fault) served.ends.1 served in omega (arith, none)

-- ---- the run

-- from what is known of the core before and after: the service is an incarnation of its device
module _ (keeps : Type 0) (s : ServeOptions) (old : Medium) (start now : CoreView) (end : Result (Unit {0}) ServeFault) (x : Exchange) where
  pub is_incarnation : IsJustOpened s.slots start → RecoveredTo keeps old start.geometry (committed_in start)
      → {consumed : List (List ℕ)} (run : HasRunLines keeps (machine_with_jobs start (replicate s.workers None)) now x.input consumed) → keeps
      → IsIncarnation s start old now.medium run.segment.device_events
  is_incarnation fresh before run keep = λ k within. record {
    header = before.header keep;
    recovered_before = before.recovered_before keep;
    idle = is_idle s.slots start fresh;
    legal = run.segment.leads.legal;
    crash = λ c left. run.crash keep k c within left;
  }

  abbrev pub has_served_by : IsJustOpened s.slots start → RecoveredTo keeps old start.geometry (committed_in start)
      → (keeps → OpeningCrashImages old start.medium) → start.medium.faults ≡ old.faults
      → ServePromise keeps s.workers s.every start (now, end) x
      → (keeps → RecoversNow now) → HasServedBy keeps s old now.medium end x
  has_served_by fresh before opening no_fault served leaves = record {
    start = start;
    now = now;
    fresh = fresh;
    recovered_before = before;
    opening = opening;
    no_fault = no_fault;
    served = served;
    leaves = leaves;
    given_back = refl;
    counts = faults_counted s.workers s.every old start now x no_fault fresh.works end served;
    fail_stop =
        let segment = served.run.served.run.segment in
        fail_stop start.geometry (machine_of (machine_with_jobs start (replicate s.workers None))) start.medium segment.device_events
        segment.leads.legal segment.leads.agrees;
    incarnation = is_incarnation fresh before served.run.served.run;
  }

-- a service as `HasServedBy` describes it crashes safely, whatever its end
pub crashes_safely : {keeps : Type 0} {s : ServeOptions} {old new : Medium} (end : Result (Unit {0}) ServeFault) {x : Exchange}
    → HasServedBy keeps s old new end x → CrashesSafely keeps s old new (command_result end) x
crashes_safely (Err faults.NoWorkers) h = (Err faults.NoWorkers, refl, h)
crashes_safely end h = (end, refl, h)

-- ---- what the device recovers to

-- a core that has not failed: its device recovers to what is committed
recovers_for : (keeps : Type 0) (now : CoreView) → now.doubt ≡ [] → (keeps → RecoversNow now) → AreBytes now.medium.now → RecoversDurably keeps now.medium now.geometry (committed_in now)
recovers_for keeps now none leaves bytes = record {
  now = λ k. one k now.medium.now (itself now.medium.now now.medium.unsynced bytes);
  each = one;
}
  where
    one : keeps → (c : List ℕ) → IsCrashImage now.medium c → recovered_state now.geometry c ≡ Some (committed_in now)
    one k c left =
        let some = leaves k c left in
        let nothing : take some.added now.doubt ≡ [] = rw none (take_all some.added [] (omega arith)) in
        some.is ∙ ap (λ (ms : List Msg). Some (state_after_all now.geometry (committed_in now) ms)) nothing

-- ---- each end, in the words of the serial server

module _ {keeps : Type 0} {s : ServeOptions} {old new : Medium} {end : Result (Unit {0}) ServeFault} {x : Exchange}
    (h : HasServedBy keeps s old new end x) (no_doubt : h.now.failed ≡ false → h.now.doubt ≡ [])
    (bytes : AreBytes new.now) where
  recovers_so : h.now.geometry ≡ h.start.geometry → h.now.failed ≡ false → RecoversDurably keeps new h.start.geometry (committed_in h.now)
  recovers_so same works =
      rw (h.given_back, ← same) (recovers_for keeps h.now (no_doubt works) h.leaves (rw h.given_back at bytes))

  abbrev went : h.now.geometry ≡ h.start.geometry → h.now.failed ≡ false → ServedDevice keeps old new
  went same works = record {
    geometry = h.start.geometry;
    start = committed_in h.start;
    end = committed_in h.now;
    before = h.recovered_before;
    after = recovers_so same works;
  }

  served_nothing : h.now ≡ h.start → x.remaining ≡ x.input → x.written ≡ x.before → HasServedNothing keeps old new x
  served_nothing same unread unwritten =
      (went (ap (λ (c : CoreView). c.geometry) same) (ap (λ (c : CoreView). c.failed) same ∙ h.fresh.works), ap committed_in same, unread, unwritten)

-- what a service promises at each of its ends
pub ends_on_device : {keeps : Type 0} {s : ServeOptions} {old new : Medium} (end : Result (Unit {0}) ServeFault) {x : Exchange}
    → (h : HasServedBy keeps s old new end x) → (h.now.failed ≡ false → h.now.doubt ≡ []) → AreBytes new.now
    → EndsOnDevice keeps s old new (command_result end) x
ends_on_device {new} (Ok _) h no_doubt bytes =
    let same = h.served.run.served.run.segment.leads.geometry in (
      h.served.no_workers,
      (
        went h no_doubt bytes same h.served.ends.1,
        λ k. rw (h.given_back, ← same) (h.served.emptied k),
        h.served.ends.2,
        h.served.ends.3,
      ),
    )
ends_on_device (Err faults.Read) h no_doubt bytes = (h.served.no_workers, (went h no_doubt bytes h.served.run.served.run.segment.leads.geometry h.served.ends.1, h.served.ends.2))
ends_on_device (Err faults.Exhausted) h no_doubt bytes = (h.served.no_workers, (went h no_doubt bytes h.served.run.served.run.segment.leads.geometry h.served.ends.1, h.served.ends.3))
ends_on_device (Err faults.NoWorkers) h no_doubt bytes =
    (h.served.no_workers, served_nothing h no_doubt bytes h.served.ends.0 h.served.ends.1 h.served.ends.2)
ends_on_device (Err faults.OutOfMemory) h no_doubt bytes =
    (h.served.no_workers, served_nothing h no_doubt bytes h.served.ends.0 h.served.ends.1 h.served.ends.2)
ends_on_device (Err fault) h no_doubt bytes =
    (h.served.no_workers, (h.start.geometry, committed_in h.start, h.recovered_before, h.served.ends.2))
