-- Statement for operators: A segment of a server's run: its machine (the core; its hands are the bench's places, with the jobs lent there)
-- before and after, and what a crash meanwhile may leave.
use Rattle.std.specs.Prelude.{◌≡◌, ◌+◌, ℕ, List, [], map, length, Option, ◌++◌, IfSome}
use Rattle.std.specs.Option.{option_map_or}
use Rattle.histories.specs.Runs.{answered, arrived}
use Rattle.histories.specs.CoreState.{Entry, CoreState, held}
use Rattle.scheduler.specs.Runs.{LeadTo, RecoversFromRun}
use Rattle.scheduler.specs.Machine.{MachineView, machine_of}
use Rattle.scheduler.specs.Hands.{HoldsJobs}
use Rattle.scheduler.specs.DeviceEvents.{DeviceEvent, events_of}
use Rattle.scheduler.specs.declared.hands.HandContent.{HandContent}
use Rattle.scheduler.specs.declared.hands.HandContent.TheVariants as has
use Rattle.protocol.specs.declared.replies.Reply.{Reply}
use Rattle.protocol.specs.Lines.{lines}
use Rattle.parcel.specs.JobRun.{JobView}
use Rattle.scheduler.specs.CoreView.{CoreView, core_state_of}
use Rattle.serving.specs.Checkpoints.{AreTimely}
use Rattle.serving.specs.Lines.{admitted, ticketed}
use Rattle.serving.specs.declared.checkpoints.CheckpointTrigger.{CheckpointTrigger}

-- ---- the core and the places

-- each place is a hand: empty where nothing is lent, and else with the job that is lent there
abbrev pub lent_hand : Option JobView → HandContent
lent_hand o = option_map_or has.Job o has.Empty

-- the machine of this core and the jobs lent at the places: each place is a hand
abbrev pub machine_with_jobs : CoreView → List (Option JobView) → MachineView
machine_with_jobs core lent = record { core = core; hands = map lent_hand lent }

-- ---- a segment of a run

-- how many messages the core has: they wait or are held
abbrev pub unanswered : CoreState → ℕ
unanswered w = length w.waiting + length (held w)

-- From one machine to the other there is a legal run, in which these messages arrive and these are answered: its events, each with
-- the device as it left it, which failed as often as they say.
pub record RunsBetween (keeps : Type 0) (old new : MachineView) (arriving : List Entry) (reply_pairs : List (ℕ × Reply)) : Type 0 where
  pub device_events : List DeviceEvent
  pub leads : LeadTo keeps old new device_events
  pub arrived_are : arrived (events_of device_events) ≡ arriving
  pub reply_pairs_are : answered (events_of device_events) ≡ reply_pairs

-- ---- what the hands have

-- Each hand that isn't empty has the job of a message in flight, or its result; each message in one hand. And the core state is sound: it
-- has what each core state keeps (`HoldsJobs` asks for that, too).
abbrev pub HandsHaveJobs : MachineView → Type 0
HandsHaveJobs m = HoldsJobs m.core.geometry (core_state_of m.core) m.hands

-- A segment of a run in which no message arrives and none is answered, and whose events are timely. It counts one trigger on to the other,
-- and at its end `HandsHaveJobs` is true.
pub record IsInternal (keeps : Type 0) (trigger last : CheckpointTrigger) (old new : MachineView) : Type 0 where
  pub holds : HandsHaveJobs new
  pub segment : RunsBetween keeps old new [] []
  pub in_time : AreTimely trigger (machine_of old) (events_of segment.device_events) last

-- the lines are the first of the input, where it is known
abbrev pub AreFirst : Option (List ℕ) → List (List ℕ) → Type 0
AreFirst input consumed = IfSome input (λ bytes. (more : List (List ℕ)) × (lines bytes ≡ consumed ++ more))

-- A legal run (`segment`) leads from the machine at the start to the core at the end. The messages that arrive in it are those in range
-- among `consumed`, which are the first lines of the input; they take the tickets in order.
pub record HasRunLines (keeps : Type 0) (start : MachineView) (new : CoreView)
    (input : Option (List ℕ)) (consumed : List (List ℕ)) : Type 0 where
  pub first : AreFirst input consumed
  pub hands : List HandContent
  -- each ticket that was answered, with its reply
  pub reply_pairs : List (ℕ × Reply)
  pub segment : RunsBetween keeps start (record { core = new; hands = hands })
      (ticketed start.core.next (admitted start.core.geometry consumed)) reply_pairs
  -- what a crash meanwhile leaves
  pub crash : keeps → RecoversFromRun start (record { core = new; hands = hands }) segment.device_events
