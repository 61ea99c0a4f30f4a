-- What is collected from the bench: the job of a place has run, and its result is given back.
use Rattle.std.proofs.Common.{◌≡◌, ℕ, ◌<◌, true, false, List, [], Option, Some, None, refl, ap, ◌∙◌, length, map, set, arith}
use Rattle.std.specs.Prelude.{option_map, slice_get, get_or}
use Rattle.std.proofs.lemmas.Option.{slice_get-get_or, slice_get-map}
use Rattle.std.proofs.lemmas.List.{get_or-set_same, length-map, map-set, length-set, set-set}
use Rattle.histories.specs.Events.{give_back, find_in_flight}
use Rattle.histories.specs.CoreState.{Entry}
use Rattle.histories.specs.declared.outcomes.Outcome.TheVariants as outcomes
use Rattle.histories.specs.declared.outcomes.Step.TheVariants as steps
use Rattle.scheduler.proofs.MachineSteps.{a_job, back_holds, back_step, was_result}
use Rattle.scheduler.specs.IsMachineStep.{IsMachineStep}
use Rattle.scheduler.specs.declared.hands.HandContent.{HandContent}
use Rattle.scheduler.specs.declared.hands.HandContent.TheVariants as has
use Rattle.parcel.specs.JobRun.{JobView, IsJobRun}
use Rattle.parcel.specs.declared.job.Done.{Done}
use Rattle.scheduler.specs.Jobs.{IsResultOf}
use Rattle.scheduler.specs.CoreView.{CoreView, RecoversNow, core_state_of}
use Rattle.serving.specs.Runs.{HandsHaveJobs, IsInternal, lent_hand, machine_with_jobs}
use Rattle.serving.specs.declared.checkpoints.CheckpointTrigger.{CheckpointTrigger}
use Rattle.serving.proofs.RunsBetween.{passes_on}
use Rattle.serving.proofs.TimelyCheckpoints.{in_time_on}
use Rattle.serving.proofs.Segments.{step_in_time, step_passes}
use Rattle.workers.specs.Rule.{lent_at}

-- ---- hands and places

read_at : {A : Type 0} (xs : List A) (k : ℕ) (d x : A) → k < length xs → get_or xs k d ≡ x → slice_get xs k ≡ Some x
read_at xs k d x lt e = slice_get-get_or xs k d lt ∙ ap (λ (y : _). Some y) e

-- ---- a result

module _ (keeps : Type 0) (core : CoreView) (lent : List (Option JobView)) (none : core.failed ≡ false → core.doubt ≡ [])
    (recovers : keeps → RecoversNow core) (h : HandsHaveJobs (machine_with_jobs core lent)) (k : ℕ) (within : k < length lent) (job : JobView) (done : Done)
    (is : lent_at lent k ≡ Some job) (run : IsJobRun job done) where
  abbrev hands : List HandContent
  hands = map lent_hand lent

  abbrev ran : List HandContent
  ran = set hands k (has.Result done)

  job_there : slice_get hands k ≡ Some (has.Job job)
  job_there = slice_get-map lent_hand lent k ∙ ap (option_map lent_hand) (read_at lent k None (Some job) within is)

  moved : IsMachineStep keeps (record { core = core; hands = hands }) (record { core = core; hands = ran }) (steps.Run k) outcomes.Ran
      × HandsHaveJobs (record { core = core; hands = ran })
  moved = a_job keeps core hands none recovers h k (has.Job job) (has.Result done) true job_there (refl, (done, refl, run)) refl

  result_there : slice_get ran k ≡ Some (has.Result done)
  result_there =
      let there : k < length hands = omega (arith, within, length-map lent lent_hand) in
      read_at ran k has.Empty (has.Result done) (omega (arith, there, length-set hands k (has.Result done))) (get_or-set_same hands k (has.Result done) has.Empty there)

  pub came_back : IsResultOf core.geometry (core_state_of core) done
  came_back = was_result keeps core ran none recovers moved.1 k done result_there

  module _ (new : CoreView) (geometry : new.geometry ≡ core.geometry) (same : new.medium ≡ core.medium) (found : Entry × List Entry)
      (one_out : find_in_flight (core_state_of core) done.ticket ≡ Some found) (reply_pairs : found.0 ≡ (done.ticket, done.message))
      (state_after : core_state_of new ≡ give_back core.geometry (core_state_of core) found) where
    pub gives_back : (trigger : CheckpointTrigger) → IsInternal keeps trigger trigger (machine_with_jobs core lent) (machine_with_jobs new (set lent k None))
    unfolding passes_on
    gives_back trigger =
        let back = back_step keeps core ran none recovers moved.1 k done result_there new geometry same found one_out reply_pairs state_after in
        rw (map-set lent_hand lent k None, ← set-set hands k (has.Result done) has.Empty) (record {
          holds = back_holds keeps core ran none recovers moved.1 k done result_there new geometry same found one_out reply_pairs state_after;
          segment = passes_on (step_passes moved.0) (step_passes back);
          in_time = in_time_on _ _ _ (step_passes moved.0) (step_passes back) (step_in_time moved.0 trigger tt) (step_in_time back trigger tt);
        })
