-- Statement for engineers: What the calls of a core return, what they make of its core state, and which events they are.
use Rattle.std.specs.Prelude.{◌≡◌, ℕ, ◌+◌, Bool, true, false, List, take, length, Option, Some, None, Result, Ok, Err}
use Rattle.std.specs.Option.{option_map_or}
use Rattle.affinity.specs.declared.geometry.Geometry.{Geometry}
use Rattle.histories.specs.Eligible.{next_eligible}
use Rattle.histories.specs.MachineState.{Hand}
use Rattle.histories.specs.Events.{IsAllowed, arrive, batch, fails, pieces_after, grant, all_pieces_written, log, grant_refusal, piece_refusal}
use Rattle.histories.specs.CoreState.{Entry, CoreState}
use Rattle.histories.specs.declared.outcomes.ArriveRefusal.{ArriveRefusal}
use Rattle.histories.specs.declared.outcomes.CoreFault.{CoreFault}
use Rattle.histories.specs.declared.outcomes.CoreFault.TheVariants as faults
use Rattle.histories.specs.declared.outcomes.Outcome.{Outcome}
use Rattle.histories.specs.declared.outcomes.Outcome.TheVariants as outcomes
use Rattle.histories.specs.declared.outcomes.PointRefusal.{PointRefusal}
use Rattle.histories.specs.declared.outcomes.PointRefusal.TheVariants as points
use Rattle.histories.specs.declared.outcomes.Step.{Step}
use Rattle.protocol.specs.declared.messages.Msg.{Msg}
use Rattle.protocol.specs.declared.replies.Reply.{Reply}
use Rattle.scheduler.specs.Jobs.{IsJobOf}
use Rattle.scheduler.specs.CoreView.{CoreView, core_state_of}
use Rattle.scheduler.specs.declared.granted.Granted.{Granted}
use Rattle.scheduler.specs.declared.granted.Granted.TheVariants as granted
use Rattle.parcel.specs.JobRun.{JobView}

-- ---- messages that are dispatched

-- The eligible message with the least ticket was dispatched as this job.
pub record IsGrantOf (g : Geometry) (old new : CoreState) (job : JobView) : Type 0 where
  pub works : old.failed ≡ false
  pub found : Entry × List Entry
  pub first : next_eligible g old ≡ Some found
  pub entry_is : found.0 ≡ (job.ticket, job.message)
  pub state_after : new ≡ grant old found
  pub is_job : IsJobOf g new job

-- No message is eligible, `why` says why none is dispatched, and nothing has changed.
pub record IsNoGrant (g : Geometry) (old new : CoreState) (why : Outcome) : Type 0 where
  pub works : old.failed ≡ false
  pub none : next_eligible g old ≡ None
  pub reason : grant_refusal g old ≡ why
  pub same : new ≡ old

-- What `Core::grant` gave: the job of a message that was dispatched, or why there was none.
abbrev pub IsGranted : Geometry → CoreState → CoreState → Granted → Type 0
IsGranted g old new (granted.Job job) = IsGrantOf g old new job
IsGranted g old new granted.NoneEligible = IsNoGrant g old new outcomes.NoneEligible
IsGranted g old new granted.NoRoom = IsNoGrant g old new outcomes.NoRoom
IsGranted g old new granted.Failed = (old.failed ≡ true) × (new ≡ old)

-- ---- messages that are logged

-- The first n messages that ran were logged; or none was, since the device failed during the call or had failed before.
abbrev pub IsLogStep : Geometry → CoreState → CoreState → ℕ → Result ℕ CoreFault → Type 0
IsLogStep g old new n (Ok count) = (old.failed ≡ false) × (count ≡ length (take n old.ran)) × (new ≡ log g old n)
IsLogStep g old new n (Err faults.Device) =
    (old.failed ≡ false) × (length (batch old n) ≡ 0 → ⊥) × (new ≡ record old { failed = true; doubt = batch old n })
IsLogStep g old new n (Err faults.Failed) = (old.failed ≡ true) × (new ≡ old)

-- ---- steps of a checkpoint

-- At `Ok` there was no reason (`why`) against the step, and it was made. At `Err` it was refused for the reason that there was, or
-- there was none and the device failed.
abbrev pub IsCheckpointStep : CoreState → CoreState → Option PointRefusal → Type 0 → Result (Unit {0}) PointRefusal → Type 0
IsCheckpointStep old new why made (Ok _) = (why ≡ None) × made
IsCheckpointStep old new why made (Err points.Device) = (why ≡ None) × (new ≡ fails old)
IsCheckpointStep old new why made (Err refusal) = (why ≡ Some refusal) × (new ≡ old)

-- At `Ok` one more piece was written, if any was left, and n are left now. At `Err` the step was refused, or the device failed.
abbrev pub IsPieceStep : CoreState → CoreState → Result ℕ PointRefusal → Type 0
IsPieceStep old new (Ok n) = (piece_refusal old ≡ None) × (n ≡ pieces_after old.pieces_left) × (new ≡ record old { pieces_left = Some n })
IsPieceStep old new (Err points.Device) = (piece_refusal old ≡ None) × (all_pieces_written old.pieces_left ≡ false) × (new ≡ fails old)
IsPieceStep old new (Err refusal) = (piece_refusal old ≡ Some refusal) × (new ≡ old)

-- ---- how often the device failed

-- whether the device failed during the call of `Core::log` with this result
abbrev pub log_device_failed : Result ℕ CoreFault → Bool
log_device_failed (Err faults.Device) = true
log_device_failed _ = false

-- whether the device failed during the step of a checkpoint with this result
abbrev pub checkpoint_device_failed : {T : Type 0} → Result T PointRefusal → Bool
checkpoint_device_failed (Err points.Device) = true
checkpoint_device_failed _ = false

-- The count of device faults has grown by one if the device failed during the call, and is as before if it did not.
abbrev pub CountsFailure : Bool → ℕ → ℕ → Type 0
CountsFailure true old new = new ≡ old + 1
CountsFailure false old new = new ≡ old

-- ---- a call as an event

-- The call was an event of this step and outcome, which is allowed whatever the hands have, and leaves them as they are.
abbrev pub IsCallEvent : Geometry → CoreState → CoreState → Step → Outcome → Bool → Type 0
IsCallEvent g old new step outcome device_failed = (hands : List Hand) → IsAllowed g (record { core = old; hands = hands })
    (record { step = step; outcome = outcome; device_failed = device_failed; state_after = record { core = new; hands = hands } })

-- the outcome of a step by the result of the core's call: of `arrive` and of `answer`
abbrev pub arrive_outcome : Result ℕ ArriveRefusal → Outcome
arrive_outcome (Ok ticket) = outcomes.Ticket ticket
arrive_outcome (Err why) = outcomes.ArriveRefused why

abbrev pub answer_outcome : Option (ℕ × Reply) → Outcome
answer_outcome o = option_map_or (λ a. outcomes.Answered a.0 a.1) o outcomes.Idle

-- ---- messages that arrive by the lines that encode them

-- The message that a line encodes has arrived, and got a ticket or was refused. Where the line encodes none, nothing has changed.
abbrev pub ArrivesByLine : CoreView → CoreView → Option Msg → Result (Option ℕ) ArriveRefusal → Type 0
ArrivesByLine old new None r = (r ≡ Ok None) × (new ≡ old)
ArrivesByLine old new (Some m) (Ok None) = ⊥
ArrivesByLine old new (Some m) (Ok (Some ticket)) =
    (arrive_outcome (Ok ticket), core_state_of new) ≡ arrive old.geometry (core_state_of old) m
ArrivesByLine old new (Some m) (Err why) = (arrive_outcome (Err why), core_state_of new) ≡ arrive old.geometry (core_state_of old) m
