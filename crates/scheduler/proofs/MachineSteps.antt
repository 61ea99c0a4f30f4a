-- Each step of a machine is an event, and a crash meanwhile leaves what it may.
use Rattle.std.proofs.Common.{◌≡◌, ◌≢◌, ℕ, ◌<◌, ◌≤◌, Bool, true, false, List, [], Option, Some, None, Result, refl, ap, sym, ◌∙◌, subst, length, set, map, ⊎_elim, arith}
use Rattle.std.specs.Prelude.{◌&&◌, if◌then◌else◌, option_map, position, slice_get}
use Rattle.std.specs.List.{Contains}
use Rattle.std.proofs.lemmas.Bool.{true≢false}
use Rattle.std.proofs.lemmas.List.{get_or-set_other, get_or-set_same, length-map, map-set, set-get_or}
use Rattle.std.proofs.Math.Seq.{take-nil}
use Rattle.std.proofs.lemmas.List.Quantifiers.{position-Some}
use Rattle.std.proofs.lemmas.Option.{get_or_from_slice_get, slice_get-map, slice_get_past, slice_get_within, same_Some}
use Rattle.std.proofs.Math.Bool.{and-false}
use Rattle.affinity.specs.declared.geometry.Geometry.{Geometry}
use Rattle.disk.proofs.CrashImagesAre.{started}
use Rattle.disk.specs.Device.{Medium}
use Rattle.disk.specs.CrashImages.{CrashImagesAre}
use Rattle.checkpoint.specs.Journal.{RecoversWithPrefix}
use Rattle.histories.proofs.Elements.{in_contained}
use Rattle.histories.proofs.InFlight.{event_keeps_out, event_sees}
use Rattle.histories.proofs.IsSoundCoreState.{event_sound}
use Rattle.histories.specs.Crash.{to_append}
use Rattle.histories.specs.Eligible.{next_eligible}
use Rattle.histories.specs.Events.{Event, IsAllowed, answer, arrive, back_from, give_back, grant_to, apply_step, find_in_flight, result_in, run_hand, dispatches_or_returns}
use Rattle.histories.specs.MachineState.{Hand, MachineState, is_empty, Job as JobIn, Result as ResultIn}
use Rattle.histories.specs.CoreState.{Entry, CoreState}
use Rattle.histories.specs.declared.outcomes.ArriveRefusal.{ArriveRefusal}
use Rattle.histories.specs.declared.outcomes.Outcome.{Outcome}
use Rattle.histories.specs.declared.outcomes.Outcome.TheVariants as outcomes
use Rattle.histories.specs.declared.outcomes.Step.{Step}
use Rattle.histories.specs.declared.outcomes.Step.TheVariants as steps
use Rattle.scheduler.proofs.HoldsJobs.{granted_is_fresh, granted_stays, hands_stay, holds_set, one_or_other, returned_stays}
use Rattle.scheduler.specs.Hands.{IsRunIn, IsTakenFrom, HoldsJobs, IsHandOf, hand_at, hand_of, ticket_in}
use Rattle.scheduler.specs.Machine.{machine_of}
use Rattle.scheduler.specs.IsMachineStep.{IsCoreStep, IsMachineStep}
use Rattle.scheduler.specs.declared.hands.HandContent.{HandContent}
use Rattle.scheduler.specs.declared.hands.HandContent.TheVariants as has
use Rattle.protocol.specs.declared.messages.Msg.{Msg}
use Rattle.protocol.specs.declared.replies.Reply.{Reply}
use Rattle.parcel.specs.JobRun.{JobView, IsJobRun}
use Rattle.parcel.specs.declared.job.Done.{Done}
use Rattle.meaning.specs.Step.{state_after_all}
use Rattle.meaning.specs.State.{State}
use Rattle.scheduler.proofs.IsCallEvent.{answer_called, arrive_called}
use Rattle.scheduler.specs.Calls.{IsCallEvent, IsGrantOf, IsNoGrant, answer_outcome, arrive_outcome}
use Rattle.scheduler.specs.Jobs.{IsResultOf}
use Rattle.scheduler.specs.CoreView.{CoreView, RecoversNow, RecoversThroughout, core_state_of}
use Rattle.scheduler.proofs.IsJobOf.{ran_gives}
use Rattle.scheduler.proofs.Lists.{position_map}

-- ---- what a crash leaves of a device that is left alone

-- If the device hasn't failed, `doubt` is empty, so the bytes recover to the state with none of the messages ms, whatever these are.
pub some_of : (g : Geometry) (x : State) (failed : Bool) (doubt ms : List Msg) (c : List ℕ) → (failed ≡ false → doubt ≡ [])
    → RecoversWithPrefix g x doubt c → RecoversWithPrefix g x (if failed then doubt else ms) c
some_of g x true doubt ms c none h = h
some_of g x false doubt ms c none h =
    let k = subst (λ (l : List Msg). RecoversWithPrefix g x l c) (none refl) h in
    record { added = 0; at_most = omega arith; is = k.is ∙ ap (λ (l : List Msg). Some (state_after_all g x l)) (take-nil k.added) }

pub quiet_moments : (old new : CoreView) (ms : List Msg) → (old.failed ≡ false → old.doubt ≡ []) → RecoversNow old
    → new.medium ≡ old.medium → RecoversThroughout ms old new
quiet_moments old new ms none recovers same =
    let P : List ℕ → Type 0 = RecoversWithPrefix old.geometry (core_state_of old).committed (if old.failed then old.doubt else ms) in
    subst (λ (m : Medium). CrashImagesAre old.medium m P) (sym same)
    (started old.medium P (λ c left. some_of old.geometry (core_state_of old).committed old.failed old.doubt ms c none (recovers c left)))

-- The calls that leave the device alone.
module _ (keeps : Type 0) (old new : CoreView) (none : old.failed ≡ false → old.doubt ≡ []) (recovers : keeps → RecoversNow old)
    (geometry : new.geometry ≡ old.geometry) (same : new.medium ≡ old.medium) where
  quiet_call : (step : Step) (outcome : Outcome) → IsCallEvent old.geometry (core_state_of old) (core_state_of new) step outcome false
      → IsCoreStep keeps old new step outcome
  quiet_call step outcome called = record {
    device_failed = false;
    called = called;
    geometry = geometry;
    failures = ap (λ (m : Medium). m.faults) same;
    untouched = λ none_touched. same;
    any_moment = λ kept. quiet_moments old new (to_append (core_state_of old) step) none (recovers kept) same;
  }

  pub arrive_step : (m : Msg) (r : Result ℕ ArriveRefusal) → (arrive_outcome r, core_state_of new) ≡ arrive old.geometry (core_state_of old) m
      → IsCoreStep keeps old new (steps.Arrive m) (arrive_outcome r)
  arrive_step m r e = quiet_call (steps.Arrive m) (arrive_outcome r) (arrive_called old.geometry (core_state_of old) (core_state_of new) m r e)

  pub answer_step : (r : Option (ℕ × Reply)) → (answer_outcome r, core_state_of new) ≡ answer (core_state_of old) old.logged
      → IsCoreStep keeps old new steps.Answer (answer_outcome r)
  answer_step r e = quiet_call steps.Answer (answer_outcome r) (answer_called old.geometry (core_state_of old) (core_state_of new) r e)

-- ---- steps of the core

module _ (keeps : Type 0) (old new : CoreView) (hands : List HandContent) (step : Step) (outcome : Outcome)
    (h : HoldsJobs old.geometry (core_state_of old) hands) (k : IsCoreStep keeps old new step outcome) where
  pub core_step : IsMachineStep keeps (record { core = old; hands = hands }) (record { core = new; hands = hands }) step outcome
  core_step = record {
    device_failed = k.device_failed;
    allowed = k.called (map hand_of hands);
    geometry = k.geometry;
    failures = k.failures;
    untouched = k.untouched;
    any_moment = k.any_moment;
  }

  abbrev was : MachineState
  was = record { core = core_state_of old; hands = map hand_of hands }

  abbrev event : Event
  event = record { step = step; outcome = outcome; device_failed = k.device_failed; state_after = record { core = core_state_of new; hands = map hand_of hands } }

  pub core_holds : dispatches_or_returns step ≡ false → HoldsJobs new.geometry (core_state_of new) hands
  core_holds still =
      let allowed : IsAllowed old.geometry was event = k.called (map hand_of hands) in
      subst (λ (y : Geometry). HoldsJobs y (core_state_of new) hands) (sym k.geometry)
      (hands_stay old.geometry (core_state_of old) (core_state_of new) hands h (event_sound old.geometry was event allowed h.sound)
      (λ e out. event_sees old.geometry was event e allowed h.sound (in_contained _ e out))
      (λ i ticket m is out. subst (λ (l : List Entry). Contains l (ticket, m))
      (sym (event_keeps_out old.geometry was event allowed still)) out))

-- ---- steps with the hands

-- Such a step was carried out while the device was left alone.
module _ (keeps : Type 0) (old new : CoreView) (hands after : List HandContent) (step : Step) (outcome : Outcome)
    (none : old.failed ≡ false → old.doubt ≡ []) (recovers : keeps → RecoversNow old) (geometry : new.geometry ≡ old.geometry)
    (same : new.medium ≡ old.medium) where
  pub quiet_step : apply_step old.geometry 0 (machine_of (record { core = old; hands = hands })) step
      ≡ (outcome, machine_of (record { core = new; hands = after }))
      → IsMachineStep keeps (record { core = old; hands = hands }) (record { core = new; hands = after }) step outcome
  quiet_step does = record {
    device_failed = false;
    allowed = record { to_write = 0; at_most = omega arith; does = does };
    geometry = geometry;
    failures = ap (λ (m : Medium). m.faults) same;
    untouched = λ none_touched. same;
    any_moment = λ keeps. quiet_moments old new (to_append (core_state_of old) step) none (recovers keeps) same;
  }

pub position_within : (hands : List HandContent) (hand : ℕ) → position (λ h. is_empty (hand_of h)) hands ≡ Some hand → hand < length hands
position_within hands hand at = (position-Some (λ h. is_empty (hand_of h)) hands hand has.Empty at).0

-- ---- a grant

module _ (g : Geometry) (n : ℕ) (w : MachineState) where
  grant_idle : position is_empty w.hands ≡ None → apply_step g n w steps.Grant ≡ (outcomes.Idle, w)
  grant_idle none = rw (none, and-false w.core.failed) refl

  -- A hand is empty, and the core has failed or not.
  grant_at : (hand : ℕ) (b : Bool) → position is_empty w.hands ≡ Some hand → w.core.failed ≡ b
      → apply_step g n w steps.Grant ≡ (if b && true then (outcomes.Failed, w) else grant_to g w (Some hand) (next_eligible g w.core))
  grant_at hand b at failed = rw (at, failed) refl

module _ (keeps : Type 0) (old new : CoreView) (hands : List HandContent)
    (none : old.failed ≡ false → old.doubt ≡ []) (recovers : keeps → RecoversNow old) (geometry : new.geometry ≡ old.geometry)
    (same : new.medium ≡ old.medium) where
  abbrev Holds : List HandContent → Type 0
  Holds after = HoldsJobs new.geometry (core_state_of new) after

  abbrev StepsTo : List HandContent → Step → Outcome → Type 0
  StepsTo after step outcome = IsMachineStep keeps (record { core = old; hands = hands }) (record { core = new; hands = after }) step outcome

  abbrev w : MachineState
  w = machine_of (record { core = old; hands = hands })

  at_hand : (hand : ℕ) → position (λ h. is_empty (hand_of h)) hands ≡ Some hand → position is_empty w.hands ≡ Some hand
  at_hand hand at = position_map hand_of is_empty _ (λ x. refl) hands ∙ at

  -- the same core state, with the same hands
  unmoved : (step : Step) (outcome : Outcome) → apply_step old.geometry 0 w step ≡ (outcome, w) → core_state_of new ≡ core_state_of old
      → StepsTo hands step outcome
  unmoved step outcome does still = quiet_step keeps old new hands hands step outcome none recovers geometry same
      (does ∙ (λ i. (outcome, record { core = sym still i; hands = map hand_of hands })))

  pub still_holds : HoldsJobs old.geometry (core_state_of old) hands → core_state_of new ≡ core_state_of old → Holds hands
  still_holds h still = rw (still, geometry) h

  pub no_hand : position (λ h. is_empty (hand_of h)) hands ≡ None → core_state_of new ≡ core_state_of old → StepsTo hands steps.Grant outcomes.Idle
  no_hand at still = unmoved steps.Grant outcomes.Idle (grant_idle old.geometry 0 w (position_map hand_of is_empty _ (λ x. refl) hands ∙ at)) still

  pub no_grant_step : (hand : ℕ) (why : Outcome) → position (λ h. is_empty (hand_of h)) hands ≡ Some hand
      → IsNoGrant old.geometry (core_state_of old) (core_state_of new) why → StepsTo hands steps.Grant why
  no_grant_step hand why at k = unmoved steps.Grant why
      (grant_at old.geometry 0 w hand false (at_hand hand at) k.works ∙ ap (grant_to old.geometry w (Some hand)) k.none
      ∙ ap (λ (o : Outcome). (o, w)) k.reason) k.same

  pub failed_step : (hand : ℕ) → position (λ h. is_empty (hand_of h)) hands ≡ Some hand → old.failed ≡ true
      → core_state_of new ≡ core_state_of old → StepsTo hands steps.Grant outcomes.Failed
  failed_step hand at failed still = unmoved steps.Grant outcomes.Failed (grant_at old.geometry 0 w hand true (at_hand hand at) failed) still

  module _ (hand : ℕ) (at : position (λ h. is_empty (hand_of h)) hands ≡ Some hand) (job : JobView)
      (k : IsGrantOf old.geometry (core_state_of old) (core_state_of new) job) where
    granted : apply_step old.geometry 0 w steps.Grant
        ≡ (outcomes.Granted hand job.ticket, machine_of (record { core = new; hands = set hands hand (has.Job job) }))
    granted = grant_at old.geometry 0 w hand false (at_hand hand at) k.works ∙ ap (grant_to old.geometry w (Some hand)) k.first
        ∙ (λ i. (outcomes.Granted hand (k.entry_is i).0, record { core = sym k.state_after i; hands = set (map hand_of hands) hand (JobIn (k.entry_is i).0) }))
        ∙ (λ i. (outcomes.Granted hand job.ticket, record { core = core_state_of new; hands = sym (map-set hand_of hands hand (has.Job job)) i }))

    pub grant_step : StepsTo (set hands hand (has.Job job)) steps.Grant (outcomes.Granted hand job.ticket)
    grant_step = quiet_step keeps old new hands (set hands hand (has.Job job)) steps.Grant _ none recovers geometry same granted

    pub grant_holds : HoldsJobs old.geometry (core_state_of old) hands → hand < length hands → Holds (set hands hand (has.Job job))
    grant_holds h within =
        let g = old.geometry in
        let event : Event = record {
          step = steps.Grant;
          outcome = outcomes.Granted hand job.ticket;
          device_failed = false;
          state_after = machine_of (record { core = new; hands = set hands hand (has.Job job) });
        } in
        let allowed : IsAllowed g w event = record { to_write = 0; at_most = omega arith; does = granted } in
        let moved : HoldsJobs g (core_state_of new) hands = hands_stay g (core_state_of old) (core_state_of new) hands h
        (event_sound g w event allowed h.sound)
        (λ e out. event_sees g w event e allowed h.sound (in_contained _ e out))
        (λ i ticket m is out. subst (λ (x : CoreState). Contains x.in_flight (ticket, m)) (sym k.state_after)
        (granted_stays g (core_state_of old) k.found (ticket, m) out)) in
        subst (λ (y : Geometry). HoldsJobs y (core_state_of new) (set hands hand (has.Job job))) (sym geometry)
        (holds_set g (core_state_of new) hands moved hand within (has.Job job) k.is_job
        (λ i ticket other is mine. fresh h i ticket (h.each i) is (same_Some _ _ mine)))
      where
        of : (x : HandContent) (ticket : ℕ) → IsHandOf old.geometry (core_state_of old) x → ticket_in x ≡ Some ticket → (m : Msg) × Contains old.in_flight (ticket, m)
        of has.Empty ticket is e = cc
        of (has.Job j) ticket is e = (j.message, subst (λ (t : ℕ). Contains old.in_flight (t, j.message)) (same_Some _ _ e) is.in_flight)
        of (has.Result d) ticket is e = (d.message, subst (λ (t : ℕ). Contains old.in_flight (t, d.message)) (same_Some _ _ e) is.in_flight)

        fresh : HoldsJobs old.geometry (core_state_of old) hands → (i ticket : ℕ) → IsHandOf old.geometry (core_state_of old) (hand_at hands i)
            → ticket_in (hand_at hands i) ≡ Some ticket → job.ticket ≡ ticket → ⊥
        fresh h i ticket is e mine =
            let o = of (hand_at hands i) ticket is e in
            granted_is_fresh old.geometry (core_state_of old) k.found h.sound k.first (ticket, o.0) o.1
            (sym mine ∙ ap (λ (x : Entry). x.0) (sym k.entry_is))

-- ---- a hand that isn't there

module _ (keeps : Type 0) (core : CoreView) (hands : List HandContent) (none : core.failed ≡ false → core.doubt ≡ []) (recovers : keeps → RecoversNow core)
    (i : ℕ) where
  abbrev at_i : MachineState
  at_i = machine_of (record { core = core; hands = hands })

  abbrev StaysAt : Step → Type 0
  StaysAt step = IsMachineStep keeps (record { core = core; hands = hands }) (record { core = core; hands = hands }) step outcomes.Idle

  past : length hands ≤ i → slice_get (map hand_of hands) i ≡ None
  past over = slice_get_past (map hand_of hands) i (omega (arith, length-map hands hand_of, over))

  pub run_nowhere : length hands ≤ i → StaysAt (steps.Run i)
  run_nowhere over = quiet_step keeps core core hands hands (steps.Run i) outcomes.Idle none recovers refl refl (ap (run_hand at_i i) (past over))

  pub back_nowhere : length hands ≤ i → StaysAt (steps.Back i)
  back_nowhere over = quiet_step keeps core core hands hands (steps.Back i) outcomes.Idle none recovers refl refl
      (ap (λ (h : Option Hand). back_from core.geometry at_i i (result_in at_i.core h)) (past over))

-- ---- in one hand

module _ (hands : List HandContent) (i : ℕ) (x : HandContent) (read : slice_get hands i ≡ Some x) where
  pub it_has : hand_at hands i ≡ x
  it_has = get_or_from_slice_get hands i x has.Empty read

  pub is_there : i < length hands
  is_there = slice_get_within hands i x read

  shown : slice_get (map hand_of hands) i ≡ Some (hand_of x)
  shown = slice_get-map hand_of hands i ∙ ap (option_map hand_of) read

  put_back : (new : HandContent) → new ≡ x → set hands i new ≡ hands
  put_back new same = ap (set hands i) (same ∙ sym it_has) ∙ set-get_or hands i has.Empty

module _ (keeps : Type 0) (core : CoreView) (hands : List HandContent) (none : core.failed ≡ false → core.doubt ≡ []) (recovers : keeps → RecoversNow core)
    (h : HoldsJobs core.geometry (core_state_of core) hands) (i : ℕ) where
  abbrev g : Geometry
  g = core.geometry

  abbrev held_now : MachineState
  held_now = machine_of (record { core = core; hands = hands })

  abbrev Moves : List HandContent → Step → Outcome → Type 0
  Moves after step outcome = IsMachineStep keeps (record { core = core; hands = hands }) (record { core = core; hands = after }) step outcome
      × HoldsJobs g (core_state_of core) after

  -- the hands are as they were
  in_place : (x new : HandContent) → slice_get hands i ≡ Some x → new ≡ x → (step : Step) → apply_step g 0 held_now step ≡ (outcomes.Idle, held_now)
      → Moves (set hands i new) step outcomes.Idle
  in_place x new read same step does = subst (λ (after : List HandContent). Moves after step outcomes.Idle) (sym (put_back hands i x read new same))
      (quiet_step keeps core core hands hands step outcomes.Idle none recovers refl refl does, h)

  pub no_job : (x new : HandContent) (ran : Bool) → slice_get hands i ≡ Some x → IsRunIn x new ran → ran ≡ false
      → Moves (set hands i new) (steps.Run i) outcomes.Idle
  no_job has.Empty new ran read k e = in_place has.Empty new read k.1 (steps.Run i) (ap (run_hand held_now i) (shown hands i has.Empty read))
  no_job (has.Job job) new ran read k e = absurd (true≢false (sym k.0 ∙ e))
  no_job (has.Result done) new ran read k e = in_place (has.Result done) new read k.1 (steps.Run i)
      (ap (run_hand held_now i) (shown hands i (has.Result done) read))

  pub no_result : (x new : HandContent) → slice_get hands i ≡ Some x → IsTakenFrom x new None
      → Moves (set hands i new) (steps.Back i) outcomes.Idle
  no_result has.Empty new read k = in_place has.Empty new read k.1 (steps.Back i)
      (ap (λ (o : Option Hand). back_from g held_now i (result_in held_now.core o)) (shown hands i has.Empty read))
  no_result (has.Job job) new read k = in_place (has.Job job) new read k.1 (steps.Back i)
      (ap (λ (o : Option Hand). back_from g held_now i (result_in held_now.core o)) (shown hands i (has.Job job) read))
  no_result (has.Result done) new read k = cc

  -- a job that runs
  module _ (job : JobView) (done : Done) (read : slice_get hands i ≡ Some (has.Job job)) (run : IsJobRun job done) where
    abbrev ran_hands : List HandContent
    ran_hands = set hands i (has.Result done)

    ran_does : apply_step g 0 held_now (steps.Run i) ≡ (outcomes.Ran, machine_of (record { core = core; hands = ran_hands }))
    ran_does = ap (run_hand held_now i) (shown hands i (has.Job job) read)
        ∙ (λ j. (outcomes.Ran, record { core = core_state_of core; hands = set (map hand_of hands) i (ResultIn (sym run.ticket j)) }))
        ∙ (λ j. (outcomes.Ran, record { core = core_state_of core; hands = sym (map-set hand_of hands i (has.Result done)) j }))

    ran_holds : HoldsJobs g (core_state_of core) ran_hands
    ran_holds =
        let was : IsHandOf g (core_state_of core) (has.Job job) = subst (IsHandOf g (core_state_of core)) (it_has hands i (has.Job job) read) (h.each i) in
        holds_set g (core_state_of core) hands h i (is_there hands i (has.Job job) read) (has.Result done) (ran_gives g (core_state_of core) job done was run)
        (λ k ticket other is mine. other (h.once k i ticket is
        (ap ticket_in (it_has hands i (has.Job job) read) ∙ ap (λ (t : ℕ). Some t) (sym run.ticket) ∙ mine)))

    ran_moves : Moves ran_hands (steps.Run i) outcomes.Ran
    ran_moves = (quiet_step keeps core core hands ran_hands (steps.Run i) outcomes.Ran none recovers refl refl ran_does, ran_holds)

  pub a_job : (x new : HandContent) (ran : Bool) → slice_get hands i ≡ Some x → IsRunIn x new ran → ran ≡ true
      → Moves (set hands i new) (steps.Run i) outcomes.Ran
  a_job (has.Job job) new ran read k e = subst (λ (y : HandContent). Moves (set hands i y) (steps.Run i) outcomes.Ran) (sym k.1.1)
      (ran_moves job k.1.0 read k.1.2)
  a_job x new ran read k e = absurd (true≢false (sym e ∙ k.0))

  -- a result that is taken
  pub taken : (x new : HandContent) (done : Done) → IsTakenFrom x new (Some done) → (x ≡ has.Result done) × (new ≡ has.Empty)
  taken (has.Result result) new done k = (ap (λ (d : Done). has.Result d) (sym (same_Some _ _ k.0)), k.1)
  taken x new done k = cc

  module _ (done : Done) (read : slice_get hands i ≡ Some (has.Result done)) where
    pub was_result : IsResultOf g (core_state_of core) done
    was_result = subst (IsHandOf g (core_state_of core)) (it_has hands i (has.Result done) read) (h.each i)

    abbrev emptied : List HandContent
    emptied = set hands i has.Empty

    module _ (new : CoreView) (geometry : new.geometry ≡ core.geometry) (same : new.medium ≡ core.medium) (found : Entry × List Entry)
        (one_out : find_in_flight (core_state_of core) done.ticket ≡ Some found) (entry_is : found.0 ≡ (done.ticket, done.message))
        (is : core_state_of new ≡ give_back g (core_state_of core) found) where
      back_does : apply_step g 0 held_now (steps.Back i) ≡ (outcomes.Back done.ticket, machine_of (record { core = new; hands = emptied }))
      back_does = ap (λ (o : Option Hand). back_from g held_now i (result_in held_now.core o)) (shown hands i (has.Result done) read)
          ∙ ap (back_from g held_now i) one_out
          ∙ (λ j. (outcomes.Back (entry_is j).0, record { core = sym is j; hands = sym (map-set hand_of hands i has.Empty) j }))

      pub back_step : IsMachineStep keeps (record { core = core; hands = hands }) (record { core = new; hands = emptied }) (steps.Back i)
          (outcomes.Back done.ticket)
      back_step = quiet_step keeps core new hands emptied (steps.Back i) (outcomes.Back done.ticket) none recovers geometry same back_does

      abbrev back_event : Event
      back_event = record {
        step = steps.Back i;
        outcome = outcomes.Back done.ticket;
        device_failed = false;
        state_after = machine_of (record { core = new; hands = emptied });
      }

      allowed : IsAllowed g held_now back_event
      allowed = record { to_write = 0; at_most = omega arith; does = back_does }

      without : HoldsJobs g (core_state_of core) emptied
      without = holds_set g (core_state_of core) hands h i (is_there hands i (has.Result done) read) has.Empty tt (λ k ticket other k_has mine. cc)

      -- A message in another hand has another ticket.
      others : (k ticket : ℕ) (m : Msg) → ticket_in (hand_at emptied k) ≡ Some ticket → ticket ≢ done.ticket
      others k ticket m k_has e = ⊎_elim
          (λ (f : k ≡ i). absurd (none_there f))
          (λ (other : k ≢ i). other (h.once k i ticket (ap ticket_in (sym (get_or-set_other hands i k has.Empty has.Empty other)) ∙ k_has)
          (ap ticket_in (it_has hands i (has.Result done) read) ∙ ap (λ (t : ℕ). Some t) (sym e)))) (one_or_other k i)
        where
          none_there : k ≡ i → ⊥
          none_there f =
              let empty : hand_at emptied k ≡ has.Empty = ap (hand_at emptied) f
              ∙ get_or-set_same hands i has.Empty has.Empty (is_there hands i (has.Result done) read) in
              let gone : ◌≡◌ {A = Option ℕ} None (Some ticket) = ap ticket_in (sym empty) ∙ k_has in
              cc

      pub back_holds : HoldsJobs new.geometry (core_state_of new) emptied
      back_holds = subst (λ (y : Geometry). HoldsJobs y (core_state_of new) emptied) (sym geometry)
          (hands_stay g (core_state_of core) (core_state_of new) emptied without (event_sound g held_now back_event allowed h.sound)
          (λ e out. event_sees g held_now back_event e allowed h.sound (in_contained _ e out))
          (λ k ticket m k_has out. subst (λ (x : CoreState). Contains x.in_flight (ticket, m)) (sym is)
          (returned_stays g (core_state_of core) done.ticket found one_out (ticket, m) (others k ticket m k_has) out)))
