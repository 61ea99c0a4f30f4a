-- A run of steps, extended by one step, and what a crash of it leaves.
use Rattle.std.proofs.Common.{◌≡◌, ◌⊎◌, ℕ, zero, suc, ◌+◌, ◌<◌, ◌≤◌, Bool, true, false, add-zero, List, [], ◌∷◌, ◌++◌, refl, ap, sym, ◌∙◌, subst, length, take, drop, get_or, set, inl, inr, ⊎_elim, arith}
use Rattle.std.specs.Prelude.{cond, map}
use Rattle.std.specs.List.{AllByRecursion}
use Rattle.std.proofs.lemmas.List.{map-append, take_more, take_more_set}
use Rattle.affinity.specs.declared.geometry.Geometry.{Geometry}
use Rattle.disk.proofs.CrashImagesAre.{only_now}
use Rattle.disk.specs.CrashImages.{IsCrashImage, left_since}
use Rattle.disk.specs.Device.{Medium, moment_number}
use Rattle.checkpoint.specs.Journal.{RecoversWithPrefix}
use Rattle.histories.proofs.Arrivals.{answered_by_ticket}
use Rattle.histories.proofs.Crashes.{left_is_committed}
use Rattle.histories.proofs.Elements.{contains_in, in_contained}
use Rattle.histories.proofs.IsJoined.{runs_join}
use Rattle.histories.proofs.Runs.{run_follows}
use Rattle.histories.proofs.IsSoundCoreState.{run_sound}
use Rattle.histories.specs.Crash.{IsLogAfter, in_doubt}
use Rattle.histories.specs.Events.{Event}
use Rattle.histories.specs.MachineState.{MachineState}
use Rattle.histories.specs.IsSoundCoreState.{IsSoundCoreState}
use Rattle.histories.specs.Runs.{IsLegal, appended_messages, end_state, IsJoined}
use Rattle.histories.specs.CoreState.{held, AreUnrelated}
use Rattle.histories.specs.declared.outcomes.Outcome.{Outcome}
use Rattle.histories.specs.declared.outcomes.Step.{Step}
use Rattle.scheduler.proofs.MachineSteps.{some_of}
use Rattle.scheduler.specs.Runs.{LeadTo, HasRun, HasDeviceEvents, RecoversFromRun}
use Rattle.scheduler.specs.Machine.{MachineView, machine_of}
use Rattle.scheduler.specs.DeviceEvents.{AreSafe, DeviceEvent, RecoversForRun, AgreeWithDevice, device_after, events_of}
use Rattle.scheduler.specs.IsMachineStep.{IsMachineStep}
use Rattle.protocol.specs.declared.messages.Msg.{Msg}
use Rattle.meaning.specs.Step.{state_after_all}
use Rattle.scheduler.specs.declared.hands.HandContent.{HandContent}
use Rattle.scheduler.specs.Calls.{CountsFailure}
use Rattle.scheduler.specs.CoreView.{CoreView, RecoversNow, core_state_of}

-- ---- what a crash of a run leaves

-- These bytes recover to what was committed after j events, with a prefix of what was to be appended then (`in_doubt`).
abbrev pub RecoversAt : Geometry → MachineState → List Event → List ℕ → ℕ → Type 0
RecoversAt g w events c j = RecoversWithPrefix g (end_state w (take j events)).core.committed (in_doubt (end_state w (take j events)).core (drop j events)) c

-- The bytes c recover so (`RecoversAt`) for some number of events, `at`, that is k or more.
pub record RecoversSince (g : Geometry) (w : MachineState) (events : List Event) (k : ℕ) (c : List ℕ) : Type 0 where
  pub at : ℕ
  pub since : k ≤ at
  pub within : at ≤ length events
  pub recovers : RecoversAt g w events c at

module _ (g : Geometry) where
  -- what a crash leaves when all events have ended
  abbrev EndsWith : MachineState → Medium → List DeviceEvent → Type 0
  EndsWith w m device_events = (c : List ℕ) → IsCrashImage (device_after m device_events) c
      → RecoversWithPrefix g (end_state w (events_of device_events)).core.committed (in_doubt (end_state w (events_of device_events)).core []) c

  later : (w : MachineState) (event : Event) (events : List Event) (k : ℕ) (c : List ℕ) → RecoversSince g event.state_after events k c
      → RecoversSince g w (event ∷ events) (suc k) c
  later w event events k c h = record { at = suc h.at; since = omega (arith, h.since); within = omega (arith, h.within); recovers = h.recovers }

  earlier : (w : MachineState) (events : List Event) (k j : ℕ) (c : List ℕ) → j ≤ k → RecoversSince g w events k c → RecoversSince g w events j c
  earlier w events k j c le h = record { at = h.at; since = omega (arith, h.since, le); within = h.within; recovers = h.recovers }

  -- What a crash at moment t or later leaves, where t is not after the run's start, it leaves before the run or at some moment of it.
  parted : (w : MachineState) (m : Medium) (device_events : List DeviceEvent) → AreSafe g w m device_events → (t : ℕ) (c : List ℕ) → t ≤ moment_number m
      → left_since (device_after m device_events) t c → left_since m t c ⊎ RecoversSince g w (events_of device_events) 0 c
  parted w m [] safe t c early since = inl since
  parted w m (device_event ∷ device_events) safe t c early since =
      ⊎_elim
      (λ mid. ⊎_elim (λ (was : left_since m t c). inl was)
      (λ now. inr (record { at = 0; since = omega arith; within = omega arith; recovers = now })) (safe.0.before t c early mid))
      (λ (rest : RecoversSince g device_event.event.state_after (events_of device_events) 0 c).
      inr (earlier w (device_event.event ∷ events_of device_events) 1 0 c (omega arith) (later w device_event.event (events_of device_events) 0 c rest)))
      (parted device_event.event.state_after device_event.medium device_events safe.1 t c (omega (arith, early, safe.0.later)) since)

  from_start : (w : MachineState) (m : Medium) (device_events : List DeviceEvent) → AreSafe g w m device_events → EndsWith w m device_events → (c : List ℕ)
      → left_since (device_after m device_events) (moment_number m) c → RecoversSince g w (events_of device_events) 0 c
  from_start w m [] safe ends c since = record { at = 0; since = omega arith; within = omega arith; recovers = ends c (only_now m c since) }
  from_start w m (device_event ∷ device_events) safe ends c since =
      ⊎_elim
      (λ mid. record { at = 0; since = omega arith; within = omega arith; recovers = safe.0.each c mid })
      (λ (rest : RecoversSince g device_event.event.state_after (events_of device_events) 0 c).
      earlier w (device_event.event ∷ events_of device_events) 1 0 c (omega arith) (later w device_event.event (events_of device_events) 0 c rest))
      (parted device_event.event.state_after device_event.medium device_events safe.1 (moment_number m) c safe.0.later since)

  from_event : {w : MachineState} (m : Medium) (device_events : List DeviceEvent) → AreSafe g w m device_events → EndsWith w m device_events → (k : ℕ) {c : List ℕ}
      → k ≤ length device_events → left_since (device_after m device_events) (moment_number (device_after m (take k device_events))) c
      → RecoversSince g w (events_of device_events) k c
  from_event {w} m device_events safe ends zero {c} le since = from_start w m device_events safe ends c since
  from_event m [] safe ends (suc k) le since = absurd (omega (arith, le))
  from_event {w} m (device_event ∷ device_events) safe ends (suc k) {c} le since =
      later w device_event.event (events_of device_events) k c (from_event device_event.medium device_events safe.1 ends k (omega (arith, le)) since)

  -- So it recovers to a state that the run may leave.
  pub recovers_for_run : (w : MachineState) (events : List Event) (k : ℕ) (c : List ℕ) → IsLegal g w events → IsSoundCoreState g w.core
      → RecoversSince g w events k c → RecoversForRun g w events k c
  recovers_for_run w events k c legal sound h =
      let first = take h.at events in
      let doubt = in_doubt (end_state w first).core (drop h.at events) in
      let log : List Msg = appended_messages w first ++ take h.recovers.added doubt in
      let is_log : IsLogAfter w events h.at log = record { some = h.recovers.added; at_most = h.recovers.at_most; is = refl } in
      record {
        state = state_after_all g (end_state w first).core.committed (take h.recovers.added doubt);
        is = h.recovers.is;
        left = search (sym (left_is_committed g w events h.at log legal sound is_log), h, is_log);
      }

  -- ---- events behind others

  safe-append : (w : MachineState) (m : Medium) (xs ys : List DeviceEvent) → AreSafe g w m xs
      → AreSafe g (end_state w (events_of xs)) (device_after m xs) ys → AreSafe g w m (xs ++ ys)
  safe-append w m [] ys h k = k
  safe-append w m (s ∷ xs) ys h k = (h.0, safe-append s.event.state_after s.medium xs ys h.1 k)

agrees-append : (w : MachineState) (m : Medium) (xs ys : List DeviceEvent) → AgreeWithDevice w m xs
    → AgreeWithDevice (end_state w (events_of xs)) (device_after m xs) ys → AgreeWithDevice w m (xs ++ ys)
agrees-append w m [] ys h k = k
agrees-append w m (s ∷ xs) ys h k = (h.0, h.1, agrees-append s.event.state_after s.medium xs ys h.2 k)

pub after-append : (m : Medium) (xs ys : List DeviceEvent) → device_after m (xs ++ ys) ≡ device_after (device_after m xs) ys
after-append m [] ys = refl
after-append m (s ∷ xs) ys = after-append s.medium xs ys

counted : (b : Bool) (old new : ℕ) → CountsFailure b old new → new ≡ old + cond b 1 0
counted true old new h = h
counted false old new h = h ∙ sym (add-zero old)

pub none_lead : (keeps : Type 0) (m : MachineView) → LeadTo keeps m m []
none_lead keeps m = record { legal = tt; ends = refl; geometry = refl; device = refl; agrees = tt; any_moment = λ kept. tt }

-- a step as an event
abbrev pub step_event : {keeps : Type 0} {old new : MachineView} {step : Step} {outcome : Outcome} → IsMachineStep keeps old new step outcome → DeviceEvent
step_event {new} {step} {outcome} k =
    record { event = record { step = step; outcome = outcome; device_failed = k.device_failed; state_after = machine_of new }; medium = new.core.medium }

pub one_leads : {keeps : Type 0} {old new : MachineView} {step : Step} {outcome : Outcome} → (k : IsMachineStep keeps old new step outcome)
    → LeadTo keeps old new (step_event k ∷ [])
one_leads {old} {new} k = record {
  legal = (k.allowed, tt);
  ends = refl;
  geometry = k.geometry;
  device = refl;
  agrees = (counted k.device_failed old.core.medium.faults new.core.medium.faults k.failures, k.untouched, tt);
  any_moment = λ kept. (k.any_moment kept, tt);
}

-- Where the first events end, others go on.
module _ {keeps : Type 0} {old mid new : MachineView} {xs ys : List DeviceEvent} (h : LeadTo keeps old mid xs) (k : LeadTo keeps mid new ys) where
  pub events_join : IsJoined old.core.geometry (machine_of old) (events_of xs) (events_of ys)
  events_join = runs_join old.core.geometry (machine_of old) (events_of xs) (events_of ys) h.legal
      (rw (h.ends, ← h.geometry) k.legal)

  pub lead_on : LeadTo keeps old new (xs ++ ys)
  lead_on =
      let g = old.core.geometry in
      let w = machine_of old in
      let both : events_of (xs ++ ys) ≡ events_of xs ++ events_of ys = map-append (λ (s : DeviceEvent). s.event) xs ys in
      record {
        legal = subst (IsLegal g w) (sym both) events_join.legal;
        ends = ap (λ (es : List Event). end_state w es) both ∙ events_join.end_state_is ∙ ap (λ (x : MachineState). end_state x (events_of ys)) h.ends ∙ k.ends;
        geometry = k.geometry ∙ h.geometry;
        device = after-append old.core.medium xs ys ∙ ap (λ (m : Medium). device_after m ys) h.device ∙ k.device;
        agrees = agrees-append w old.core.medium xs ys h.agrees (rw (h.ends, h.device) k.agrees);
        any_moment = λ kept. safe-append g w old.core.medium xs ys (h.any_moment kept)
            (rw (h.ends, h.device, ← h.geometry) (k.any_moment kept));
      }

pub no_device_events : (keeps : Type 0) (m : MachineView) → HasDeviceEvents keeps m m [] []
no_device_events keeps m = record { device_events = []; leads = none_lead keeps m; of_steps = refl; with_outcomes = refl }

pub more_device_events : {keeps : Type 0} {old now new : MachineView} {asked : List Step} {came : List Outcome} {step : Step} {outcome : Outcome}
    → HasDeviceEvents keeps old now asked came → IsMachineStep keeps now new step outcome
    → HasDeviceEvents keeps old new (asked ++ step ∷ []) (came ++ outcome ∷ [])
more_device_events {step} {outcome} h k =
    let device_event = step_event k in
    let events = events_of h.device_events in
    let pushed : events_of (h.device_events ++ device_event ∷ []) ≡ events ++ device_event.event ∷ [] = map-append (λ (s : DeviceEvent). s.event) h.device_events (device_event ∷ []) in
    record {
      device_events = h.device_events ++ device_event ∷ [];
      leads = lead_on h.leads (one_leads k);
      of_steps = ap (map (λ (e : Event). e.step)) pushed ∙ map-append (λ (e : Event). e.step) events (device_event.event ∷ []) ∙ ap (λ (l : List Step). l ++ step ∷ []) h.of_steps;
      with_outcomes = ap (map (λ (e : Event). e.outcome)) pushed ∙ map-append (λ (e : Event). e.outcome) events (device_event.event ∷ [])
          ∙ ap (λ (l : List Outcome). l ++ outcome ∷ []) h.with_outcomes;
    }

-- ---- the whole run

-- A crash of the whole run leaves what it may, if the core at its end keeps what `Core::know_recovery` promises.
pub left_since_event : {keeps : Type 0} {old new : MachineView} {device_events : List DeviceEvent} → LeadTo keeps old new device_events
    → IsSoundCoreState old.core.geometry (core_state_of old.core) → (new.core.failed ≡ false → new.core.doubt ≡ []) → (keeps → RecoversNow new.core) → keeps
    → RecoversFromRun old new device_events
left_since_event {old} {new} {device_events} h sound none recovers kept k c le since =
    let g = old.core.geometry in
    let w = machine_of old in
    let m = old.core.medium in
    let ends : EndsWith g w m device_events = λ b left. rw (h.ends, ← h.geometry) (some_of new.core.geometry (core_state_of new.core).committed
    new.core.failed new.core.doubt [] b none (recovers kept b (rw h.device at left))) in
    recovers_for_run g w (events_of device_events) k c h.legal sound (from_event g m device_events (h.any_moment kept) ends k le (rw (← h.device) at since))

each_state_apart : (g : Geometry) (events : List Event) → AllByRecursion (λ (event : Event). IsSoundCoreState g event.state_after.core) events
    → AllByRecursion (λ (w : MachineState). AreUnrelated g (held w.core)) (map (λ e. e.state_after) events)
each_state_apart g [] sound = tt
each_state_apart g (event ∷ events) sound = (sound.0.apart, each_state_apart g events sound.1)

pub has_run : {keeps : Type 0} {old new : MachineView} {asked : List Step} {came : List Outcome}
    → IsSoundCoreState old.core.geometry (core_state_of old.core) → HasDeviceEvents keeps old new asked came
    → (new.core.failed ≡ false → new.core.doubt ≡ []) → (keeps → RecoversNow new.core) → HasRun keeps old new asked came
has_run {old} sound h none recovers =
    let g = old.core.geometry in
    let w = machine_of old in
    let events = events_of h.device_events in
    record {
      ran = h;
      crash = left_since_event h.leads sound none recovers;
      apart = (sound.apart, each_state_apart g events (run_sound g w events h.leads.legal sound));
      in_log_order = sym (run_follows g w events h.leads.legal sound).reply_pairs;
      in_ticket_order = λ idle reply is. contains_in _ reply
          (answered_by_ticket g w events h.leads.legal sound idle reply (in_contained _ reply is));
    }

-- The run of the first i steps is extended by the next one; `hands` and `lent` are the same hands by two names.
pub next_device_events : {keeps : Type 0} {old : MachineView} {core : CoreView} {hands lent : List HandContent} {new : MachineView} (asked : List Step) {i : ℕ} (d : Step)
    (came : List Outcome) {outcome : Outcome} → lent ≡ hands → (i < length asked) × (i < length came)
    → HasDeviceEvents keeps old (record { core = core; hands = hands }) (take i asked) (take i came)
    → IsMachineStep keeps (record { core = core; hands = lent }) new (get_or asked i d) outcome
    → HasDeviceEvents keeps old new (take (i + 1) asked) (take (i + 1) (set came i outcome))
next_device_events asked {i} d came {outcome} same within h k =
    rw (take_more asked i d within.0, take_more_set came i outcome within.1) (more_device_events h (rw same at k))
