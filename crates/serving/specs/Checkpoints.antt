-- Statement for operators: When a checkpoint is due, that no message is dispatched then, and that no online one begins without a reason.
use Rattle.std.specs.Prelude.{◌≡◌, ◌≢◌, ◌+◌, ◌-◌, ◌^◌, ◌≤◌, ◌⊎◌, ℕ, List, [], ◌∷◌, Option, None, min}
use Rattle.histories.specs.CoreState.{CoreState}
use Rattle.histories.specs.Events.{Event}
use Rattle.histories.specs.MachineState.{MachineState}
use Rattle.histories.specs.declared.outcomes.Outcome.{Outcome}
use Rattle.histories.specs.declared.outcomes.Outcome.TheVariants as outcomes
use Rattle.protocol.specs.declared.replies.Reply.{Reply}
use Rattle.protocol.specs.declared.replies.Reply.TheVariants as replies
use Rattle.serving.specs.declared.checkpoints.CheckpointTrigger.{CheckpointTrigger}

-- A checkpoint is due by the count of records: none is in progress, and since the last one began as many records were logged as was asked
-- for (0: none is due by their count).
pub record IsDue (trigger : CheckpointTrigger) (pieces_left : Option ℕ) : Type 0 where
  pub none : pieces_left ≡ None
  pub by_count : trigger.every ≢ 0
  pub enough : trigger.every ≤ trigger.answered_since

-- the trigger after a message with this reply: a change that was carried out has a record in the log, and is counted; the count saturates
abbrev pub trigger_after : CheckpointTrigger → Reply → CheckpointTrigger
trigger_after trigger replies.Done = record trigger { answered_since = min (trigger.answered_since + 1) (2 ^ 64 - 1) }
trigger_after trigger _ = trigger

-- the trigger after an event with this outcome: a change that is answered is counted, and the count starts anew with each checkpoint
abbrev pub trigger_after_event : CheckpointTrigger → Outcome → CheckpointTrigger
trigger_after_event trigger (outcomes.Answered ticket reply) = trigger_after trigger reply
trigger_after_event trigger outcomes.Cut = record trigger { answered_since = 0 }
trigger_after_event trigger _ = trigger

-- An event with this outcome, in this core state: if a message is dispatched, no checkpoint is due. If an online checkpoint begins, it is
-- due, or the log has no room for another record.
abbrev pub IsTimely : CheckpointTrigger → CoreState → Outcome → Type 0
IsTimely trigger w (outcomes.Granted hand ticket) = IsDue trigger w.pieces_left → ⊥
IsTimely trigger w outcomes.Cut = IsDue trigger w.pieces_left ⊎ (w.room ≡ 0)
IsTimely trigger w _ = Unit {0}

-- Each event of a run from this machine state is timely. The trigger at the start is counted on to `last`.
abbrev pub AreTimely : CheckpointTrigger → MachineState → List Event → CheckpointTrigger → Type 0
AreTimely trigger w [] last = last ≡ trigger
AreTimely trigger w (event ∷ events) last =
    IsTimely trigger w.core event.outcome × AreTimely (trigger_after_event trigger event.outcome) event.state_after events last

-- The same of a whole run, for checkpoints after each `every` records (0: none is due by their count), of which none is counted yet.
abbrev pub HasTimelyCheckpoints : ℕ → MachineState → List Event → Type 0
HasTimelyCheckpoints every w events =
    (last : CheckpointTrigger) × AreTimely (record { every = every; answered_since = 0 }) w events last
