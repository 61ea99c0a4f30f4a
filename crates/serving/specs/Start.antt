-- Statement for engineers: What the call of a server begins with, and when it may begin.
use Rattle.std.specs.Prelude.{ℕ, List, replicate, Option, None, [], ◌≡◌, ◌<◌, false, Some}
use Rattle.scheduler.specs.Machine.{MachineView}
use Rattle.scheduler.specs.CoreView.{CoreView, core_state_of}
use Rattle.serving.specs.Runs.{machine_with_jobs}
use Rattle.serving.specs.declared.checkpoints.CheckpointTrigger.{CheckpointTrigger}
use Rattle.disk.specs.Device.{Medium}
use Rattle.histories.specs.CoreState.{IsIdle}
use Rattle.reorder_buffer.specs.ReorderBuffer.{ReorderBufferView}

-- what the call of a server begins with: its core, how many jobs may be lent at once, after how many records a checkpoint is due (0: none
-- is due by their count), its input, and what was sent before
pub record Start : Type 0 where
  pub core : CoreView
  pub places : ℕ
  pub every : ℕ
  pub input : Option (List ℕ)
  pub before : Option (List ℕ)

-- the machine at the start: the core, with no job lent at any place
abbrev pub start_machine : Start → MachineView
start_machine s = machine_with_jobs s.core (replicate s.places None)

-- when checkpoints are due at the start: none of the records is counted yet
abbrev pub start_trigger : Start → CheckpointTrigger
start_trigger s = record { every = s.every; answered_since = 0 }

-- No message was in the core or its `doubt` at the start.
pub record IsIdleStart (s : Start) : Type 0 where
  pub idle : IsIdle (core_state_of s.core)
  pub none_in_doubt : s.core.doubt ≡ []

-- A call of `serve` may begin at this start: no message is in the core or its `doubt`, the device has not failed, and the reorder buffer is
-- empty and has room for as many lines as the core has slots, of which there is one. `sent_at`: the device is as the sink has it.
-- Checkpoints are due by the count that was asked for, and none of the records is counted yet.
pub record CanBegin (start : Option Start) (core : CoreView) (places : ℕ) (trigger : CheckpointTrigger) (input sent : Option (List ℕ))
    (sent_at : Medium) (reorder_buffer : ReorderBufferView) : Type 0 where
  pub start_is : start ≡ Some (record { core = core; places = places; every = trigger.every; input = input; before = sent })
  pub none_counted : trigger.answered_since ≡ 0
  pub at_start : sent_at ≡ core.medium
  pub idle : IsIdle (core_state_of core)
  pub works : core.failed ≡ false
  pub none_in_doubt : core.doubt ≡ []
  pub none : reorder_buffer.lines ≡ []
  pub fits : reorder_buffer.slots ≡ core.slots
  pub some_slot : 0 < core.slots
