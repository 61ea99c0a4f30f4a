-- Statement for operators: What a machine's hands have, and what is done in one of them.
use Rattle.std.specs.Prelude.{◌≡◌, Bool, true, false, Option, Some, None, ℕ, List, slice_index_or}
use Rattle.scheduler.specs.declared.hands.HandContent.{HandContent}
use Rattle.parcel.specs.JobRun.{IsJobRun}
use Rattle.parcel.specs.declared.job.Done.{Done}
use Rattle.affinity.specs.declared.geometry.Geometry.{Geometry}
use Rattle.histories.specs.MachineState.{Hand, Empty, Job, Result}
use Rattle.histories.specs.IsSoundCoreState.{IsSoundCoreState}
use Rattle.histories.specs.CoreState.{CoreState}
use Rattle.scheduler.specs.declared.hands.HandContent.TheVariants as has
use Rattle.scheduler.specs.Jobs.{IsJobOf, IsResultOf}

-- a hand of `histories`, which knows a job and a result by the ticket
abbrev pub hand_of : HandContent → Hand
hand_of has.Empty = Empty
hand_of (has.Job job) = Job job.ticket
hand_of (has.Result done) = Result done.ticket

-- The hand is empty, or has the job of a message in flight, or its result.
abbrev pub IsHandOf : Geometry → CoreState → HandContent → Type 0
IsHandOf g w has.Empty = Unit {0}
IsHandOf g w (has.Job job) = IsJobOf g w job
IsHandOf g w (has.Result done) = IsResultOf g w done

-- the ticket of the message whose job or result a hand has
abbrev pub ticket_in : HandContent → Option ℕ
ticket_in has.Empty = None
ticket_in (has.Job job) = Some job.ticket
ticket_in (has.Result done) = Some done.ticket

-- hand number i; one that isn't there counts as empty
abbrev pub hand_at : List HandContent → ℕ → HandContent
hand_at hands i = slice_index_or hands i has.Empty

-- The core state is sound, and each hand that isn't empty has the job of a message in flight, or its result.
pub record HoldsJobs (g : Geometry) (w : CoreState) (hands : List HandContent) : Type 0 where
  pub sound : IsSoundCoreState g w
  pub each : (i : ℕ) → IsHandOf g w (hand_at hands i)
  -- no message is in two hands
  pub once : (i k ticket : ℕ) → ticket_in (hand_at hands i) ≡ Some ticket → ticket_in (hand_at hands k) ≡ Some ticket → i ≡ k

-- ---- what is done in one hand

-- Where the hand had a job, it was run, and the hand has its result. A hand without a job has what it had.
abbrev pub IsRunIn : HandContent → HandContent → Bool → Type 0
IsRunIn (has.Job job) new ran = (ran ≡ true) × ((done : Done) × (new ≡ has.Result done) × IsJobRun job done)
IsRunIn old new ran = (ran ≡ false) × (new ≡ old)

-- Where the hand had a result, it was taken out. A hand without one has what it had.
abbrev pub IsTakenFrom : HandContent → HandContent → Option Done → Type 0
IsTakenFrom (has.Result done) new taken = (taken ≡ Some done) × (new ≡ has.Empty)
IsTakenFrom old new taken = (taken ≡ None) × (new ≡ old)
