-- Statement for operators: Events: what each step does to the core state and to the hands of a machine, and which outcome it has.
use Rattle.std.specs.Prelude.{◌≡◌, ℕ, zero, suc, ◌+◌, ◌-◌, ◌≤◌, Bool, true, false, not, ◌&&◌, ◌==◌, nat_lt, nat_le, List, [], ◌∷◌, ◌++◌, map, filter, length, take, drop, if◌then◌else◌, Option, Some, None, is_some, is_none, position, slice_get, set, MatchBool}
use Rattle.std.specs.Option.{unwrap_or}
use Rattle.std.specs.List.{list_any}
use Rattle.affinity.specs.declared.geometry.Geometry.{Geometry}
use Rattle.protocol.specs.declared.messages.Msg.{Msg}
use Rattle.protocol.specs.Messages.{is_in_range}
use Rattle.image.specs.Pieces.{piece_count}
use Rattle.meaning.specs.Step.{reply_to, state_after_all, is_recorded}
use Rattle.histories.specs.declared.outcomes.Step.{Step}
use Rattle.histories.specs.declared.outcomes.Step.TheVariants as steps
use Rattle.histories.specs.declared.outcomes.Outcome.{Outcome}
use Rattle.histories.specs.declared.outcomes.Outcome.TheVariants as outcomes
use Rattle.histories.specs.declared.outcomes.ArriveRefusal.TheVariants as arrivals
use Rattle.histories.specs.declared.outcomes.CoreFault.TheVariants as faults
use Rattle.histories.specs.declared.outcomes.PointRefusal.{PointRefusal}
use Rattle.histories.specs.declared.outcomes.PointRefusal.TheVariants as points
use Rattle.histories.specs.CoreState.{Entry, Replied, CoreState, held, most_tickets}
use Rattle.histories.specs.Eligible.{pick, next_eligible, lacks_only_room}
use Rattle.histories.specs.MachineState.{Hand, Empty, Job, Result, MachineState, is_empty, in_core}

-- ---- what each step does to the core, where the device doesn't fail

-- The message gets the next ticket and waits behind all others; or it is refused, and nothing changes.
abbrev pub arrive : Geometry → CoreState → Msg → Outcome × CoreState
arrive g w m =
    if w.failed then (outcomes.ArriveRefused arrivals.Failed, w)
    else if not (is_in_range g m) then (outcomes.ArriveRefused arrivals.Range, w)
    else if w.next == most_tickets then (outcomes.ArriveRefused arrivals.Exhausted, w)
    else if nat_le w.slots (length w.waiting + length (held w)) then (outcomes.ArriveRefused arrivals.Full, w)
    else (outcomes.Ticket w.next, record w { waiting = w.waiting ++ (w.next, m) ∷ []; next = w.next + 1 })

-- The message `found.0` is dispatched, and the other waiting messages, `found.1`, go on waiting.
abbrev pub grant : CoreState → Entry × List Entry → CoreState
grant w found = record w { waiting = found.1; in_flight = w.in_flight ++ found.0 ∷ [] }

-- why no message is granted, where none is eligible
abbrev pub grant_refusal : Geometry → CoreState → Outcome
grant_refusal g w = if list_any (lacks_only_room g w) w.waiting then outcomes.NoRoom else outcomes.NoneEligible

-- the message in flight with this ticket, and the others in flight
abbrev pub find_in_flight : CoreState → ℕ → Option (Entry × List Entry)
find_in_flight w ticket = pick (λ e. e.0 == ticket) w.in_flight

-- The message `found.0` is given back: it ran, and its reply is the one that it gets in the committed state.
abbrev pub give_back : Geometry → CoreState → Entry × List Entry → CoreState
give_back g w found = record w { in_flight = found.1; ran = w.ran ++ (found.0.0, found.0.1, reply_to g w.committed found.0.1) ∷ [] }

-- those of the messages of which the log keeps a record: the changes that were carried out
abbrev pub recorded : List Replied → List Msg
recorded as' = map (λ a. a.1) (filter (λ a. is_recorded a.1 a.2) as')

-- the messages that are appended to the log where the first n that ran are logged
abbrev pub batch : CoreState → ℕ → List Msg
batch w n = recorded (take n w.ran)

-- The first n messages that ran are logged, or all if fewer did.
abbrev pub log : Geometry → CoreState → ℕ → CoreState
log g w n = record w {
  ran = drop n w.ran;
  logged = w.logged ++ take n w.ran;
  committed = state_after_all g w.committed (batch w n);
  room = w.room - length (batch w n);
}

-- The oldest logged message is answered and leaves the core; the second argument is the core's list `logged`.
abbrev pub answer : CoreState → List Replied → Outcome × CoreState
answer w [] = (outcomes.Idle, w)
answer w (a ∷ as') = (outcomes.Answered a.0 a.2, record w { logged = as' })

-- Message a, the oldest logged one, is answered: it is held no more.
abbrev pub IsAnswered : CoreState → CoreState → Replied → Type 0
IsAnswered old new a = old.logged ≡ a ∷ new.logged

-- ---- checkpoints: why each of their steps is refused, and what it does

-- why no checkpoint can begin, in one call or online
abbrev pub point_refusal : CoreState → Option PointRefusal
point_refusal w =
    if w.failed then Some points.Failed
    else if is_some w.pieces_left then Some points.Running
    else if nat_lt 0 (length (held w)) then Some points.Held
    else None

-- why no piece can be written
abbrev pub piece_refusal : CoreState → Option PointRefusal
piece_refusal w =
    if w.failed then Some points.Failed
    else if is_none w.pieces_left then Some points.NotRunning
    else None

-- why an online checkpoint can't end where the device works, by how many of its pieces are left (`None`: none is in progress)
abbrev pub unfinished_refusal : Option ℕ → Option PointRefusal
unfinished_refusal None = Some points.NotRunning
unfinished_refusal (Some zero) = None
unfinished_refusal (Some (suc n)) = Some points.Unfinished

-- why an online checkpoint can't end
abbrev pub flip_refusal : CoreState → Option PointRefusal
flip_refusal w = if w.failed then Some points.Failed else unfinished_refusal w.pieces_left

-- A step is refused for the reason given, if there is one, and nothing changes; else it has the outcome and core state `done`.
abbrev pub unless_refused : CoreState → Option PointRefusal → Outcome × CoreState → Outcome × CoreState
unless_refused w None done = done
unless_refused w (Some why) done = (outcomes.PointRefused why, w)

-- a checkpoint in one call: a whole half of the log (`g.half` records) is free again
abbrev pub point : Geometry → CoreState → Outcome × CoreState
point g w = unless_refused w (point_refusal w) (outcomes.Pointed, record w { room = g.half })

-- an online checkpoint begins, with n pieces to write: a whole half of the log is free again
abbrev pub cut : Geometry → ℕ → CoreState → Outcome × CoreState
cut g n w = unless_refused w (point_refusal w) (outcomes.Cut, record w { room = g.half; pieces_left = Some n })

-- how many pieces are left once one more is written, if any was
abbrev pub pieces_after : Option ℕ → ℕ
pieces_after left = unwrap_or left 0 - 1

-- a piece is written
abbrev pub piece : CoreState → Outcome × CoreState
piece w = unless_refused w (piece_refusal w)
    (outcomes.Left (pieces_after w.pieces_left), record w { pieces_left = Some (pieces_after w.pieces_left) })

-- the online checkpoint ends
abbrev pub flip : CoreState → Outcome × CoreState
flip w = unless_refused w (flip_refusal w) (outcomes.Flipped, record w { pieces_left = None })

-- ---- what each step does to the hands of a machine

-- A message that is eligible (`found.0`) goes to an empty hand; where there is no such message or hand, nothing changes.
abbrev pub grant_to : Geometry → MachineState → Option ℕ → Option (Entry × List Entry) → Outcome × MachineState
grant_to g w None found = (outcomes.Idle, w)
grant_to g w (Some hand) None = (grant_refusal g w.core, w)
grant_to g w (Some hand) (Some found) =
    (outcomes.Granted hand found.0.0, record { core = grant w.core found; hands = set w.hands hand (Job found.0.0) })

-- As `grant_to`, of the eligible message with the least ticket; a failed core grants nothing.
abbrev pub grant_hand : Geometry → MachineState → Option ℕ → Outcome × MachineState
grant_hand g w hand = if w.core.failed && is_some hand then (outcomes.Failed, w) else grant_to g w hand (next_eligible g w.core)

-- The job in hand number i becomes its result.
abbrev pub run_hand : MachineState → ℕ → Option Hand → Outcome × MachineState
run_hand w i (Some (Job ticket)) = (outcomes.Ran, record w { hands = set w.hands i (Result ticket) })
run_hand w i _ = (outcomes.Idle, w)

-- the message in flight whose result is in the hand, and the others in flight
abbrev pub result_in : CoreState → Option Hand → Option (Entry × List Entry)
result_in w (Some (Result ticket)) = find_in_flight w ticket
result_in w _ = None

-- The message `found.0`, whose result is in hand number i, is given back, and the hand is empty.
abbrev pub back_from : Geometry → MachineState → ℕ → Option (Entry × List Entry) → Outcome × MachineState
back_from g w i None = (outcomes.Idle, w)
back_from g w i (Some found) = (outcomes.Back found.0.0, record { core = give_back g w.core found; hands = set w.hands i Empty })

-- As `log`; a failed core logs nothing.
abbrev pub log_unless_failed : Geometry → CoreState → ℕ → Outcome × CoreState
log_unless_failed g w n = if w.failed then (outcomes.LogFault faults.Failed, w) else (outcomes.Logged (length (take n w.ran)), log g w n)

-- ---- events

-- The outcome of a step where the device doesn't fail, and the machine after it. A cut has n pieces to write.
abbrev pub apply_step : Geometry → ℕ → MachineState → Step → Outcome × MachineState
apply_step g n w (steps.Arrive m) = in_core w (arrive g w.core m)
apply_step g n w steps.Grant = grant_hand g w (position is_empty w.hands)
apply_step g n w (steps.Run i) = run_hand w i (slice_get w.hands i)
apply_step g n w (steps.Back i) = back_from g w i (result_in w.core (slice_get w.hands i))
apply_step g n w (steps.Log k) = in_core w (log_unless_failed g w.core k)
apply_step g n w steps.Answer = in_core w (answer w.core w.core.logged)
apply_step g n w steps.Point = in_core w (point g w.core)
apply_step g n w steps.Cut = in_core w (cut g n w.core)
apply_step g n w steps.Piece = in_core w (piece w.core)
apply_step g n w steps.Flip = in_core w (flip w.core)

-- whether an online checkpoint is in progress with no piece left to write
abbrev pub all_pieces_written : Option ℕ → Bool
all_pieces_written None = false
all_pieces_written (Some n) = n == 0

-- whether a step touches the device
abbrev pub touches_device : CoreState → Step → Bool
touches_device w (steps.Log k) = not w.failed && nat_lt 0 (length (batch w k))
touches_device w steps.Point = is_none (point_refusal w)
touches_device w steps.Cut = is_none (point_refusal w)
touches_device w steps.Piece = is_none (piece_refusal w) && not (all_pieces_written w.pieces_left)
touches_device w steps.Flip = is_none (flip_refusal w)
touches_device w _ = false

-- the steps that may dispatch a message or give one back
abbrev pub dispatches_or_returns : Step → Bool
dispatches_or_returns steps.Grant = true
dispatches_or_returns (steps.Back i) = true
dispatches_or_returns _ = false

-- the core once its device has failed
abbrev pub fails : CoreState → CoreState
fails w = record w { failed = true }

-- The outcome of a step during which the device fails, and the core after it.
abbrev pub fail_step : CoreState → Step → Outcome × CoreState
fail_step w (steps.Log k) = (outcomes.LogFault faults.Device, record w { failed = true; doubt = batch w k })
fail_step w _ = (outcomes.PointRefused points.Device, fails w)

-- a step with its outcome, whether the device failed during it, and the machine after it
pub record Event : Type 0 where
  pub step : Step
  pub outcome : Outcome
  pub device_failed : Bool
  pub state_after : MachineState

-- The device failed during the step, which touched it.
pub record IsFault (old : MachineState) (event : Event) : Type 0 where
  pub touched : touches_device old.core event.step ≡ true
  pub core : fail_step old.core event.step ≡ (event.outcome, event.state_after.core)
  pub hands : event.state_after.hands ≡ old.hands

-- The step did what it does where the device doesn't fail. If it began an online checkpoint, `to_write` pieces were to be written.
pub record IsWithoutFault (g : Geometry) (old : MachineState) (event : Event) : Type 0 where
  pub to_write : ℕ
  pub at_most : to_write ≤ piece_count g
  pub does : apply_step g to_write old event.step ≡ (event.outcome, event.state_after)

-- The event may come in this machine state.
abbrev pub IsAllowed : Geometry → MachineState → Event → Type 0
IsAllowed g old event = MatchBool event.device_failed (IsFault old event) (IsWithoutFault g old event)
