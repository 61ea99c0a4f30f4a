-- Inner: What is dispatched to the places of a bench, why nothing is, and when nothing is in flight.
use Rattle.std.specs.Prelude.{◌≡◌, ℕ, Bool, true, false, List, Option, Some, None, Result, Ok, Err, is_none, length, position, replicate, slice_set}
use Rattle.affinity.specs.declared.geometry.Geometry.{Geometry}
use Rattle.histories.specs.CoreState.{CoreState}
use Rattle.histories.specs.declared.outcomes.Outcome.TheVariants as outcomes
use Rattle.parcel.specs.JobRun.{JobView}
use Rattle.scheduler.specs.Calls.{IsGrantOf, IsNoGrant}
use Rattle.serving.specs.declared.dispatch.Blocked.{Blocked}
use Rattle.serving.specs.declared.dispatch.Blocked.TheVariants as blocked

-- Why no message of this core state is dispatched: no place is free, or the core has granted none. Nothing has changed.
abbrev pub IsBlocked : Geometry → CoreState → CoreState → List (Option JobView) → Blocked → Type 0
IsBlocked g old new lent blocked.NoPlace = (position is_none lent ≡ None) × (new ≡ old)
IsBlocked g old new lent blocked.NoneEligible = IsNoGrant g old new outcomes.NoneEligible
IsBlocked g old new lent blocked.NoRoom = IsNoGrant g old new outcomes.NoRoom
IsBlocked g old new lent blocked.Failed = (old.failed ≡ true) × (new ≡ old)

-- whether a checkpoint is to begin, once nothing is held, where no message is dispatched for this reason, or (`None`) since one is due
abbrev pub asks_for_checkpoint : Option Blocked → Bool
asks_for_checkpoint None = true
asks_for_checkpoint (Some blocked.NoRoom) = true
asks_for_checkpoint _ = false

-- A message of this core state was dispatched as a job, which is lent at place k. Or none was dispatched, for this reason.
abbrev pub DispatchesTo : Geometry → ℕ → CoreState → List (Option JobView) → CoreState → List (Option JobView) → Result (Unit {0}) Blocked
    → Type 0
DispatchesTo g k old lent new new_lent (Ok _) = (job : JobView) × IsGrantOf g old new job × (new_lent ≡ slice_set lent k (Some job))
DispatchesTo g k old lent new new_lent (Err why) = IsBlocked g old new lent why × (new_lent ≡ lent)

-- no job is in flight
abbrev pub NoneInFlight : List (Option JobView) → Type 0
NoneInFlight lent = lent ≡ replicate (length lent) None
