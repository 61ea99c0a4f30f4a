-- Statement for engineers: The turns of a server's loop, how much is left to do between two of them, and how few there are for each line.
use Rattle.std.specs.Prelude.{◌≡◌, ◌==◌, ◌<◌, ◌≤◌, ◌+◌, ◌-◌, ◌*◌, ◌&&◌, ℕ, Bool, true, false, not, nat_le, nat_lt, cond, List, [], ◌∷◌, length, count_by, Some, None, is_none, is_some}
use Rattle.std.specs.List.{list_any}
use Rattle.histories.specs.Progress.{points_left}
use Rattle.image.specs.Pieces.{piece_count}
use Rattle.serving.specs.Session.{NoneUnanswered, SessionView, steps_ahead}
use Rattle.serving.specs.declared.session.Activity.{Activity}
use Rattle.serving.specs.declared.session.Activity.TheVariants as activities
use Rattle.serving.specs.declared.turns.Turned.{Turned}
use Rattle.serving.specs.declared.turns.Turned.TheVariants as turned

-- ---- a moment between two turns

-- what is seen of the loop between two turns: the session, and what the last turn did (after an idle one the next waits for input)
pub record LoopView : Type 0 where
  pub session : SessionView
  pub last : Activity

-- how many pieces an image has
abbrev pub pieces : LoopView → ℕ
pieces m = piece_count m.session.core.geometry

-- how many lines may be outstanding
abbrev pub slots : LoopView → ℕ
slots m = m.session.reorder_buffer.slots

-- What a session keeps between two turns.
pub record IsInBounds (p : SessionView) : Type 0 where
  pub few_lines : p.outstanding ≤ p.reorder_buffer.slots
  -- the message of each line takes at most five steps
  pub few_steps : steps_ahead p ≤ 5 * p.outstanding
  -- a checkpoint in progress has at most as many pieces left as an image has
  pub few_pieces : points_left p.core.pieces_left ≤ piece_count p.core.geometry + 1

-- ---- whether a turn may have waited

-- whether a line can be read (`CanReadLine`)
abbrev pub can_read : SessionView → Bool
can_read p = is_none p.read_end && (nat_lt p.outstanding p.reorder_buffer.slots && p.holds_line)

-- whether a turn that ends with this session may have waited for a worker: a job is in flight, all answers that waited are sent, and no
-- line can be read
abbrev pub may_wait : SessionView → Bool
may_wait p = list_any is_some p.dispatch_seat.lent && ((length p.reply_buffer == 0) && not (can_read p))

-- ---- how much is left to do

-- whether as many records are counted as a checkpoint is due by
abbrev pub is_counted : SessionView → Bool
is_counted p = not (p.trigger.every == 0) && nat_le p.trigger.every p.trigger.answered_since

abbrev pub is_busy : Activity → Bool
is_busy activities.Busy = true
is_busy activities.Idle = false

-- how many turns a step of a message may cost where a checkpoint has at most n pieces
abbrev pub turns_a_step : ℕ → ℕ
turns_a_step n = 3 * n + 10

-- how many turns a line may cost
abbrev pub turns_a_line : ℕ → ℕ
turns_a_line n = 6 * turns_a_step n

-- How many turns are left to do: for the steps to come, for those of the checkpoint in progress, for a checkpoint if one is due by count,
-- and for one if the log has no room; and turns for the end of reading, for slots that become free, and for coming to rest.
abbrev pub turns_left : ℕ → LoopView → ℕ
turns_left n m = turns_a_step n * steps_ahead m.session + points_left m.session.core.pieces_left + cond (is_counted m.session) (n + 2) 0
    + cond (m.session.core.room == 0) (n + 2) 0 + (cond (is_none m.session.read_end) 2 0 + cond (can_read m.session) 0 1)
    + cond (is_busy m.last) 1 0

-- ---- a turn

-- One turn without a fault, after which the loop goes on: lines are read, and then what can be done is done.
pub record Turn (old new : LoopView) : Type 0 where
  -- so many lines are outstanding once lines were read
  pub outstanding : ℕ
  pub more : old.session.outstanding ≤ outstanding
  -- After a turn that did nothing no line is unanswered, and the next one has read a line.
  pub idle : old.last ≡ activities.Idle → NoneUnanswered old.session × (old.session.outstanding < outstanding)
  pub rests : new.last ≡ activities.Idle → NoneUnanswered new.session × (new.session.core.pieces_left ≡ None)
  -- It may have waited for a worker, or less is left to do, but for the lines that were read.
  pub pays : cond (not (may_wait new.session)) 1 0 + turns_left (pieces old) new
      ≤ turns_left (pieces old) old + turns_a_line (pieces old) * (outstanding - old.session.outstanding)
  pub bounds : IsInBounds new.session
  pub geometry : new.session.core.geometry ≡ old.session.core.geometry
  pub slots_kept : slots new ≡ slots old

-- what a turn has come to: the loop goes on, or no more is read and each line is retired, so that it ends
abbrev pub IsTurned : SessionView → Activity → SessionView → Turned → Type 0
IsTurned old last new (turned.Went told) = Turn (record { session = old; last = last }) (record { session = new; last = told.last })
IsTurned old last new (turned.Ends read_end) =
    (new.read_end ≡ Some read_end) × (new.reorder_buffer.lines ≡ []) × (new.core.pieces_left ≡ None)

-- ---- any number of turns

-- The turns from one moment through the others, in order.
abbrev pub AreTurns : LoopView → List LoopView → Type 0
AreTurns m [] = Unit {0}
AreTurns m (later ∷ rest) = Turn m later × AreTurns later rest

-- how many lines are read in these turns
abbrev pub lines_read : (m : LoopView) (later : List LoopView) → AreTurns m later → ℕ
lines_read m [] turns = 0
lines_read m (later ∷ rest) turns = (turns.0.outstanding - m.session.outstanding) + lines_read later rest turns.1

-- for how many lines the answer is sent in these turns
abbrev pub lines_sent : (m : LoopView) (later : List LoopView) → AreTurns m later → ℕ
lines_sent m [] turns = 0
lines_sent m (later ∷ rest) turns = (turns.0.outstanding - later.session.outstanding) + lines_sent later rest turns.1

-- how many of the turns that end at these moments can't have waited for a worker
abbrev pub busy_turns : List LoopView → ℕ
busy_turns moments = count_by (λ m. not (may_wait m.session)) moments

-- how many turns that can't have waited for a worker a line may wait for its answer, where an image has n pieces and so many lines may be
-- outstanding
abbrev pub turns_an_answer : ℕ → ℕ → ℕ
turns_an_answer n lines = turns_a_step n * (17 * lines + 1)
