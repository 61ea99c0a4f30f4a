-- Inner: How a call moves a session.
use Rattle.std.specs.Prelude.{[], ◌≡◌, ◌≢◌, ◌⊎◌, ◌+◌, ◌*◌, ◌<◌, ◌≤◌, ℕ, Bool, true, false, Option, Some, None, IsSomeAnd, OnErr, MatchResult, Result}
use Rattle.histories.specs.CoreState.{held}
use Rattle.histories.specs.Progress.{points_left}
use Rattle.scheduler.specs.CoreView.{core_state_of}
use Rattle.serving.specs.Checkpoints.{IsDue}
use Rattle.serving.specs.DispatchesTo.{IsBlocked, NoneInFlight}
use Rattle.serving.specs.declared.dispatch.Blocked.{Blocked}
use Rattle.serving.specs.declared.dispatch.Blocked.TheVariants as blocked
use Rattle.serving.specs.declared.session.Activity.{Activity}
use Rattle.serving.specs.declared.session.Activity.TheVariants as activities
use Rattle.serving.specs.declared.session.Halted.{Halted}
use Rattle.serving.specs.Session.{SessionView, NoneUnanswered, steps_ahead, CanReadLine}
use Rattle.serving.specs.Start.{Start}

-- Why no more is read, and whether the output has failed, are as before.
abbrev pub KeepsReadEndAndOutputFailed : SessionView → SessionView → Type 0
KeepsReadEndAndOutputFailed old new = (new.read_end ≡ old.read_end) × (new.output_failed ≡ old.output_failed)

-- Nothing was read: as much of the input is unread as before, and its reader has as much left.
abbrev pub HasReadNothing : SessionView → SessionView → Type 0
HasReadNothing old new = (new.unread ≡ old.unread) × (new.remaining ≡ old.remaining)

-- The core state and what is lent are as before.
abbrev pub KeepsCoreState : SessionView → SessionView → Type 0
KeepsCoreState old new = (new.core.geometry ≡ old.core.geometry) × (core_state_of new.core ≡ core_state_of old.core)
    × (new.dispatch_seat ≡ old.dispatch_seat)

-- The core state, what is lent and the count towards the next checkpoint are as before.
abbrev pub StandsStill : SessionView → SessionView → Type 0
StandsStill old new = KeepsCoreState old new × (new.trigger ≡ old.trigger)

-- No line was read: the lines are as before and, unless reading has ended meanwhile, so is all else.
pub record HasTakenNone (old new : SessionView) : Type 0 where
  pub still : StandsStill old new
  pub lines : new.reorder_buffer ≡ old.reorder_buffer
  pub outstanding : new.outstanding ≡ old.outstanding
  pub same : new.read_end ≡ None → new ≡ old

-- Lines were read, or none, as `read` says. Each is outstanding, and adds at most the five steps of its message.
pub record HasTakenLines (old new : SessionView) (read : Activity) : Type 0 where
  pub more : old.outstanding ≤ new.outstanding
  pub steps : steps_ahead new + 5 * old.outstanding ≤ steps_ahead old + 5 * new.outstanding
  pub some : read ≡ activities.Busy → old.outstanding < new.outstanding
  pub none : read ≡ activities.Idle → HasTakenNone old new

-- A message took a step, so that fewer are to come; or the core state and what is lent are as before. The checkpoint in progress is as it
-- was, and so is the count towards the next one. Nothing was read, and the output has not failed.
pub record HasMoved (old new : SessionView) : Type 0 where
  pub moved : (steps_ahead new < steps_ahead old) ⊎ KeepsCoreState old new
  pub pieces_left : new.core.pieces_left ≡ old.core.pieces_left
  pub trigger : new.trigger ≡ old.trigger
  pub as_before : KeepsReadEndAndOutputFailed old new
  pub unread : HasReadNothing old new

-- No message of this session is dispatched, for this reason.
abbrev pub IsBlockedIn : SessionView → Blocked → Type 0
IsBlockedIn p why = IsBlocked p.core.geometry (core_state_of p.core) (core_state_of p.core) p.dispatch_seat.lent why

-- There is a reason to begin a checkpoint: one is due by the count of records, or a message lacks only room in the log.
abbrev pub CallsForCheckpoint : SessionView → Type 0
CallsForCheckpoint p = IsDue p.trigger p.core.pieces_left ⊎ IsBlockedIn p blocked.NoRoom

-- A checkpoint has begun while no message was held. The count towards the next one starts anew, and half of the log is free.
pub record StartsAfresh (old new : SessionView) : Type 0 where
  pub none_held : held (core_state_of old.core) ≡ []
  pub counted : new.trigger.answered_since ≡ 0
  pub room : new.core.room ≡ new.core.geometry.half

-- How a checkpoint has moved.
pub data CheckpointStep (old new : SessionView) : Type 0 where
  -- the one in progress took a step: a piece of the image was written, or it ended; the count towards the next one is as it was
  Advanced : (fewer : points_left new.core.pieces_left + 1 ≡ points_left old.core.pieces_left) → (count : new.trigger ≡ old.trigger)
      → (room : new.core.room ≡ old.core.room) → CheckpointStep old new
  -- one has begun, for a reason; the next one is neither due by its count nor needed for room before more records are logged
  Began : (reason : CallsForCheckpoint old) → (none : old.core.pieces_left ≡ None) → (n : ℕ) → (begun : new.core.pieces_left ≡ Some n)
      → (fresh : StartsAfresh old new) → CheckpointStep old new

-- How an iteration of the loop has gone on, which did this.
pub data HasGoneOn (old new : SessionView) (activity : Activity) : Type 0 where
  -- a message took a step: fewer are to come
  TookStep : (less : steps_ahead new < steps_ahead old) → HasGoneOn old new activity
  -- the checkpoint in progress took a step, or one has begun
  MovedCheckpoint : (step : CheckpointStep old new) → HasGoneOn old new activity
  -- a job is in flight. The answers that waited are sent, and no line can be read. (It waited for a worker to deliver a result, which no
  -- clause says.)
  Waited : (in_flight : NoneInFlight new.dispatch_seat.lent → ⊥) → (flushed : new.reply_buffer ≡ []) → (none : CanReadLine new → ⊥)
      → (still : StandsStill old new) → HasGoneOn old new activity
  -- a line is buffered, and can be read
  CanRead : (can : CanReadLine new) → (still : StandsStill old new) → HasGoneOn old new activity
  -- it is idle, so that the next one reads a line, and waits for it, or ends the loop
  Rests : (idle : activity ≡ activities.Idle) → (still : StandsStill old new) → HasGoneOn old new activity

-- Nothing is left to do but to read: no line is unanswered, and no checkpoint is in progress.
abbrev pub IsResting : SessionView → Type 0
IsResting p = NoneUnanswered p × (p.core.pieces_left ≡ None)

-- The session has the geometry of the core at this start, and as many slots.
abbrev pub IsOfStart : Option Start → SessionView → Type 0
IsOfStart start p = IsSomeAnd start (λ s. (p.core.geometry ≡ s.core.geometry) × (p.reorder_buffer.slots ≡ s.core.slots))

-- The output has failed, or else the device.
abbrev pub HasHalted : SessionView → Type 0
HasHalted p = p.output_failed ≡ false → p.core.failed ≡ true

-- Why no more is read is as before. At `Ok` the output has failed only if it had before; at `Err` the session has halted.
abbrev pub IsSessionStep : {A : Type 0} → SessionView → SessionView → Result A Halted → Type 0
IsSessionStep old new result = (new.read_end ≡ old.read_end)
    × MatchResult result (λ _. new.output_failed ≡ old.output_failed) (λ _. HasHalted new)

-- Such a step in which nothing was read. At `Err` the output has failed.
abbrev pub IsOutputStep : {A : Type 0} → SessionView → SessionView → Result A Halted → Type 0
IsOutputStep old new result = IsSessionStep old new result × HasReadNothing old new × OnErr result (new.output_failed ≡ true)

-- Nothing had run, and nothing was logged: there was nothing to log or to answer.
pub record HasLoggedNothing (old new : SessionView) : Type 0 where
  pub none_ran : new.core.ran ≡ []
  pub none_logged : new.core.logged ≡ []
  pub works : new.core.failed ≡ false
  pub keeps : KeepsCoreState old new
  pub trigger : new.trigger ≡ old.trigger

-- The answers that waited are sent, and nothing else has changed. No job is in flight and no checkpoint in progress; if one is asked for, a
-- message is held.
pub record HasOnlySent (old new : SessionView) (is_asked_for : Bool) : Type 0 where
  pub flushed : new.reply_buffer ≡ []
  pub lines : new.reorder_buffer ≡ old.reorder_buffer
  pub keeps : KeepsCoreState old new
  pub trigger : new.trigger ≡ old.trigger
  pub pieces_left : new.core.pieces_left ≡ None
  pub none_in_flight : NoneInFlight new.dispatch_seat.lent
  pub none_asked : is_asked_for ≡ true → held (core_state_of new.core) ≢ []
