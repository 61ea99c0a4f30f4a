-- Statement for engineers: What can be done next, and how much is left to do.
use Rattle.std.specs.Prelude.{◌≡◌, ℕ, zero, suc, ◌+◌, ◌*◌, ◌<◌, ◌≤◌, true, false, ◌&&◌, cond, nat_lt, List, [], ◌∷◌, ◌++◌, length, count_by, sum_by, Option, Some, None, is_some, IsPermutation}
use Rattle.std.specs.Option.{option_map_or}
use Rattle.std.specs.List.{AllByRecursion}
use Rattle.affinity.specs.declared.geometry.Geometry.{Geometry}
use Rattle.histories.specs.declared.outcomes.Outcome.{Outcome}
use Rattle.histories.specs.declared.outcomes.Outcome.TheVariants as outcomes
use Rattle.histories.specs.declared.outcomes.Step.TheVariants as steps
use Rattle.histories.specs.CoreState.{CoreState, Entry, are_related_entries, entries, held, IsIdle}
use Rattle.histories.specs.Eligible.{next_eligible}
use Rattle.histories.specs.Events.{Event, IsAllowed, cut, flip_refusal, grant_refusal, piece_refusal, point, point_refusal}
use Rattle.histories.specs.MachineState.{MachineState, has_job}
use Rattle.histories.specs.Runs.{IsLegal, answered_messages, arrived, arrives, end_state}

-- ---- what can be done next

-- Something waits, or is held.
abbrev pub IsBusy : CoreState → Type 0
IsBusy w = 0 < length w.waiting + length (held w)

-- No message can be dispatched, and some message lacks only room in the log. A checkpoint may begin, since nothing is held; and once it
-- was made in one call, or an online one has begun, a message can be dispatched.
pub record NeedsCheckpoint (g : Geometry) (w : CoreState) : Type 0 where
  pub none : next_eligible g w ≡ None
  pub no_room : grant_refusal g w ≡ outcomes.NoRoom
  pub may_begin : point_refusal w ≡ None
  pub after_point : is_some (next_eligible g (point g w).1) ≡ true
  pub after_cut : (n : ℕ) → is_some (next_eligible g (cut g n w).1) ≡ true

-- A checkpoint is in progress, and its next step isn't refused: a piece is written, if any is left; else the checkpoint ends.
abbrev pub MayGoOn : CoreState → Option ℕ → Type 0
MayGoOn w None = ⊥
MayGoOn w (Some zero) = flip_refusal w ≡ None
MayGoOn w (Some (suc n)) = piece_refusal w ≡ None

-- Something can be done.
pub data CanGoOn (g : Geometry) (w : CoreState) : Type 0 where
  -- a job is in flight, which can be given back when it has run
  CanReturn : (some : 0 < length w.in_flight) → CanGoOn g w
  -- something ran, and can be logged
  CanLog : (some : 0 < length w.ran) → CanGoOn g w
  -- something is logged, and can be answered
  CanAnswer : (some : 0 < length w.logged) → CanGoOn g w
  -- a message that waits is eligible, so that it can be dispatched to an empty hand
  CanDispatch : (some : is_some (next_eligible g w) ≡ true) → CanGoOn g w
  -- a checkpoint can be made, and then a message can be dispatched
  CanMakeRoom : (needs : NeedsCheckpoint g w) → CanGoOn g w
  -- the checkpoint in progress can go on; when it has ended, the next one can be made, and then a message can be dispatched
  CanEndCheckpoint : (next : MayGoOn w w.pieces_left) → (needs : NeedsCheckpoint g (record w { pieces_left = None })) → CanGoOn g w

-- how many messages keep this one back while it waits: held ones at related places, and waiting ones at related places with smaller tickets
abbrev pub kept_back_by : Geometry → CoreState → Entry → ℕ
kept_back_by g w e = count_by (are_related_entries g e) (held w) + count_by (λ d. nat_lt d.0 e.0 && are_related_entries g e d) w.waiting

-- ---- how much is left to do

-- How many steps are to come until all messages are answered. A message takes five: it is dispatched, runs, is given back, is logged and is
-- answered.
abbrev pub steps_to_come : MachineState → ℕ
steps_to_come w = 5 * length w.core.waiting + (3 * length w.core.in_flight + count_by has_job w.hands) + 2 * length w.core.ran
    + length w.core.logged

-- how many messages take one of the five steps where the outcome is this one
abbrev pub steps_at : Outcome → ℕ
steps_at (outcomes.Granted hand ticket) = 1
steps_at outcomes.Ran = 1
steps_at (outcomes.Back ticket) = 1
steps_at (outcomes.Logged n) = n
steps_at (outcomes.Answered ticket reply) = 1
steps_at _ = 0

-- how many of these steps messages take in a run
abbrev pub steps_in : List Event → ℕ
steps_in events = sum_by (λ event. steps_at event.outcome) events

-- how many of the events dispatch, run, give back, log or answer at least one message
abbrev pub useful_events : List Event → ℕ
useful_events events = count_by (λ event. nat_lt 0 (steps_at event.outcome)) events

-- ---- that all is answered in the end

-- how many steps are left of a checkpoint in progress with so many pieces left: these, and its end
abbrev pub points_left : Option ℕ → ℕ
points_left left = option_map_or (λ n. n + 1) left 0

-- how much is left to do where each checkpoint has n pieces to write: n + 4 for each step to come, one for each step that is left of the
-- checkpoint in progress, and n + 2 if no message is eligible
abbrev pub work_left : Geometry → ℕ → MachineState → ℕ
work_left g n w = (n + 4) * steps_to_come w + points_left w.core.pieces_left + cond (is_some (next_eligible g w.core)) 0 (n + 2)

-- The event makes no checkpoint in one call; if it begins one, that has n pieces to write.
pub record IsOnline (n : ℕ) (event : Event) : Type 0 where
  pub no_point : event.step ≡ steps.Point → ⊥
  pub pieces : event.step ≡ steps.Cut → event.state_after.core.pieces_left ≡ Some n

-- An event that is neither an arrival nor a failure may come, and leaves less to do.
pub record CanStep (g : Geometry) (n : ℕ) (w : MachineState) : Type 0 where
  pub event : Event
  pub allowed : IsAllowed g w event
  pub none_arrives : arrives event.step event.outcome ≡ []
  pub none_fails : event.device_failed ≡ false
  pub online : IsOnline n event
  pub less : work_left g n event.state_after < work_left g n w

-- Each of the events leaves less to do than there was before it.
abbrev pub EachLeavesLess : Geometry → ℕ → MachineState → List Event → Type 0
EachLeavesLess g n w [] = Unit {0}
EachLeavesLess g n w (event ∷ events) = (work_left g n event.state_after < work_left g n w) × EachLeavesLess g n event.state_after events

-- A legal run without arrivals and failures after which nothing waits and nothing is held, with online checkpoints alone. It has no more
-- events than work is left.
pub record CanDrain (g : Geometry) (n : ℕ) (w : MachineState) : Type 0 where
  pub events : List Event
  pub legal : IsLegal g w events
  pub none_arrives : arrived events ≡ []
  pub none_fails : AllByRecursion (λ event. event.device_failed ≡ false) events
  pub online : AllByRecursion (IsOnline n) events
  pub at_most : length events ≤ work_left g n w
  pub idle : IsIdle (end_state w events).core

-- More events may follow, without arrivals and failures, and then each message that arrived has been answered, once.
pub record CanAnswerAll (g : Geometry) (n : ℕ) (start : MachineState) (events : List Event) : Type 0 where
  pub more : List Event
  pub legal : IsLegal g start (events ++ more)
  pub none_arrives : arrived more ≡ []
  pub none_fails : AllByRecursion (λ event. event.device_failed ≡ false) more
  pub online : AllByRecursion (IsOnline n) more
  pub each_once : IsPermutation (arrived events) (entries (answered_messages start (events ++ more)))
