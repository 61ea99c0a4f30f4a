-- What is dispatched to the bench: the eligible message with the least ticket, to the first place where nothing is lent.
use Rattle.std.proofs.Common.{◌≡◌, ℕ, Bool, true, false, List, [], Option, Some, None, Result, Ok, Err, refl, ap, sym, subst, ◌∙◌, length, map, set}
use Rattle.std.specs.Prelude.{is_none, position}
use Rattle.std.proofs.lemmas.List.{map-set, length-set}
use Rattle.std.proofs.lemmas.List.Quantifiers.{position-Some}
use Rattle.std.proofs.lemmas.Bool.{true≢false}
use Rattle.affinity.specs.declared.geometry.Geometry.{Geometry}
use Rattle.histories.specs.MachineState.{is_empty}
use Rattle.histories.specs.CoreState.{CoreState}
use Rattle.histories.specs.declared.outcomes.Outcome.{Outcome}
use Rattle.histories.specs.declared.outcomes.Outcome.TheVariants as outcomes
use Rattle.histories.specs.declared.outcomes.Step.TheVariants as steps
use Rattle.scheduler.proofs.MachineSteps.{failed_step, grant_holds, grant_step, no_grant_step, position_within, still_holds}
use Rattle.scheduler.proofs.Lists.{position_map}
use Rattle.scheduler.specs.Hands.{hand_of as to_hand}
use Rattle.scheduler.specs.DeviceEvents.{events_of}
use Rattle.scheduler.specs.IsMachineStep.{IsMachineStep}
use Rattle.scheduler.specs.Machine.{machine_of}
use Rattle.scheduler.specs.declared.hands.HandContent.{HandContent}
use Rattle.scheduler.specs.declared.hands.HandContent.TheVariants as has
use Rattle.parcel.specs.JobRun.{JobView}
use Rattle.scheduler.specs.Calls.{IsGrantOf, IsNoGrant}
use Rattle.scheduler.specs.CoreView.{CoreView, RecoversNow, core_state_of}
use Rattle.serving.specs.Checkpoints.{AreTimely, IsDue}
use Rattle.serving.specs.DispatchesTo.{DispatchesTo, IsBlocked}
use Rattle.serving.specs.Runs.{HandsHaveJobs, IsInternal, lent_hand, machine_with_jobs}
use Rattle.serving.specs.declared.checkpoints.CheckpointTrigger.{CheckpointTrigger}
use Rattle.serving.specs.declared.dispatch.Blocked.{Blocked}
use Rattle.serving.specs.declared.dispatch.Blocked.TheVariants as blocked
use Rattle.serving.proofs.RunsBetween.{told_as}
use Rattle.serving.proofs.Segments.{IsQuiet, step_in_time, step_passes}
use Rattle.workers.specs.Rule.{lent_at}

-- ---- the first place where nothing is lent is the least empty hand

abbrev vacant : HandContent → Bool
vacant h = is_empty (to_hand h)

same_test : (o : Option JobView) → vacant (lent_hand o) ≡ is_none o
same_test None = refl
same_test (Some job) = refl

nothing_in : (o : Option JobView) → is_none o ≡ true → o ≡ None
nothing_in None e = refl
nothing_in (Some job) e = absurd (true≢false (sym e))

pub nothing_there : (lent : List (Option JobView)) (k : ℕ) → position is_none lent ≡ Some k → lent_at lent k ≡ None
nothing_there lent k first = nothing_in (lent_at lent k) (position-Some is_none lent k None first).1

-- ---- the grant

module _ (keeps : Type 0) (old new : CoreView) (lent : List (Option JobView)) (none : old.failed ≡ false → old.doubt ≡ [])
    (recovers : keeps → RecoversNow old) (geometry : new.geometry ≡ old.geometry) (same : new.medium ≡ old.medium)
    (h : HandsHaveJobs (machine_with_jobs old lent)) (k : ℕ) (first : position is_none lent ≡ Some k) (trigger : CheckpointTrigger)
    (not_due : IsDue trigger old.pieces_left → ⊥) where
  abbrev hands : List HandContent
  hands = map lent_hand lent

  least : position vacant hands ≡ Some k
  least = position_map lent_hand vacant is_none same_test lent ∙ first

  -- a grant in which no message is answered is an internal step
  quiet : (after : List HandContent) (outcome : Outcome) → IsQuiet trigger (core_state_of old) outcome trigger
      → HandsHaveJobs (record { core = new; hands = after })
      → IsMachineStep keeps (record { core = old; hands = hands }) (record { core = new; hands = after }) steps.Grant outcome
      → IsInternal keeps trigger trigger (machine_with_jobs old lent) (record { core = new; hands = after })
  quiet after outcome is holds step = record {
    holds = holds;
    segment = told_as (step_passes step) refl is.0;
    in_time = subst (AreTimely trigger (machine_of (machine_with_jobs old lent)) (events_of (step_passes step).device_events)) is.2
        (step_in_time step trigger is.1);
  }

  goes_out : (job : JobView) → IsGrantOf old.geometry (core_state_of old) (core_state_of new) job
      → IsInternal keeps trigger trigger (machine_with_jobs old lent) (machine_with_jobs new (set lent k (Some job)))
  goes_out job g = rw (map-set lent_hand lent k (Some job))
      (quiet (set hands k (has.Job job)) (outcomes.Granted k job.ticket) (refl, not_due, refl)
      (grant_holds keeps old new hands none recovers geometry same k least job g h (position_within hands k least))
      (grant_step keeps old new hands none recovers geometry same k least job g))

  none_goes : (why : Outcome) → IsQuiet trigger (core_state_of old) why trigger → IsNoGrant old.geometry (core_state_of old) (core_state_of new) why
      → IsInternal keeps trigger trigger (machine_with_jobs old lent) (machine_with_jobs new lent)
  none_goes why is g = quiet hands why is (still_holds keeps old new hands none recovers geometry same h g.same)
      (no_grant_step keeps old new hands none recovers geometry same k why least g)

  none_goes_any_more : old.failed ≡ true → core_state_of new ≡ core_state_of old
      → IsInternal keeps trigger trigger (machine_with_jobs old lent) (machine_with_jobs new lent)
  none_goes_any_more failed still = quiet hands outcomes.Failed (refl, tt, refl) (still_holds keeps old new hands none recovers geometry same h still)
      (failed_step keeps old new hands none recovers geometry same k least failed still)

  stays : (why : Blocked) → IsBlocked old.geometry (core_state_of old) (core_state_of new) lent why
      → IsInternal keeps trigger trigger (machine_with_jobs old lent) (machine_with_jobs new lent)
  stays blocked.NoPlace none = cc (sym first ∙ none.0)
  stays blocked.NoneEligible none = none_goes outcomes.NoneEligible (refl, tt, refl) none
  stays blocked.NoRoom none = none_goes outcomes.NoRoom (refl, tt, refl) none
  stays blocked.Failed none = none_goes_any_more none.0 none.1

  -- Whether a job is lent then or none.
  pub sends : (after : List (Option JobView)) (what : Result (Unit {0}) Blocked)
      → DispatchesTo old.geometry k (core_state_of old) lent (core_state_of new) after what
      → IsInternal keeps trigger trigger (machine_with_jobs old lent) (machine_with_jobs new after)
  sends after (Ok _) d = rw d.2 (goes_out d.0 d.1)
  sends after (Err why) d = rw d.1 (stays why d.0)

pub as_many : (g : Geometry) (k : ℕ) (old new : CoreState) (lent after : List (Option JobView)) (what : Result (Unit {0}) Blocked) → DispatchesTo g k old lent new after what
    → length after ≡ length lent
as_many g k old new lent after (Ok _) d = ap (λ (x : List (Option JobView)). length x) d.2 ∙ length-set lent k (Some d.0)
as_many g k old new lent after (Err why) d = ap (λ (x : List (Option JobView)). length x) d.1
