-- Statement for engineers: What a failure of the device reports and leaves.
use Rattle.std.specs.Prelude.{[], ◌≡◌, ℕ, ◌≤◌, Bool, true, false, List, ◌++◌, length, take}
use Rattle.histories.specs.declared.outcomes.Outcome.{Outcome}
use Rattle.histories.specs.declared.outcomes.Outcome.TheVariants as outcomes
use Rattle.histories.specs.declared.outcomes.CoreFault.TheVariants as faults
use Rattle.histories.specs.declared.outcomes.PointRefusal.TheVariants as points
use Rattle.histories.specs.CoreState.{Replied, CoreState}
use Rattle.histories.specs.Events.{recorded}

-- Nothing is in `doubt`, unless the device has failed.
abbrev pub DoubtOnlyAfterFailure : CoreState → Type 0
DoubtOnlyAfterFailure w = w.failed ≡ false → w.doubt ≡ []

-- `doubt` is the changes that were carried out among the first `some` messages of `ran`.
pub record DoubtIsPrefixOfRan (w : CoreState) : Type 0 where
  pub some : ℕ
  pub at_most : some ≤ length w.ran
  pub is : w.doubt ≡ recorded (take some w.ran)

-- the outcomes that report that the device failed during the step
abbrev pub reports_failure : Outcome → Bool
reports_failure (outcomes.LogFault faults.Device) = true
reports_failure (outcomes.PointRefused points.Device) = true
reports_failure _ = false

-- The device has failed: nothing arrives, is dispatched, is logged or comes into `doubt`, and no checkpoint goes on.
pub record StaysFailed (old new : CoreState) : Type 0 where
  pub failed : new.failed ≡ true
  pub waiting : new.waiting ≡ old.waiting
  -- the messages that are given back come after all that ran before
  pub back : List Replied
  pub ran : new.ran ≡ old.ran ++ back
  pub committed : new.committed ≡ old.committed
  pub doubt : new.doubt ≡ old.doubt
  pub room : new.room ≡ old.room
  pub next : new.next ≡ old.next
  pub pieces_left : new.pieces_left ≡ old.pieces_left
