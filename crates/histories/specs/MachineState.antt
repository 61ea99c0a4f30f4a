-- Statement for operators: The state of a machine: a core with a row of hands, each of them empty, with a job or with its result.
use Rattle.std.specs.Prelude.{◌≡◌, ℕ, Bool, true, false, ◌==◌, List, not, count_by}
use Rattle.histories.specs.declared.outcomes.Outcome.{Outcome}
use Rattle.histories.specs.CoreState.{CoreState}

-- what a hand of the machine has: nothing, or the job or the result of the message with this ticket
pub data Hand : Type 0 where
  Empty : Hand
  Job : (ticket : ℕ) → Hand
  Result : (ticket : ℕ) → Hand

pub record MachineState : Type 0 where
  pub core : CoreState
  pub hands : List Hand

abbrev pub is_empty : Hand → Bool
is_empty Empty = true
is_empty _ = false

abbrev pub has_job : Hand → Bool
has_job (Job ticket) = true
has_job _ = false

abbrev pub has_ticket : ℕ → Hand → Bool
has_ticket ticket (Job t) = t == ticket
has_ticket ticket (Result t) = t == ticket
has_ticket ticket _ = false

-- how many of the hands aren't empty
abbrev pub full_hands : List Hand → ℕ
full_hands hands = count_by (λ hand. not (is_empty hand)) hands

-- The hands have the jobs and results of the messages in flight: each ticket is in as many hands as there are messages in flight with it.
abbrev pub HandsHold : MachineState → Type 0
HandsHold w = (ticket : ℕ) → count_by (has_ticket ticket) w.hands ≡ count_by (λ e. e.0 == ticket) w.core.in_flight

-- the outcome of a step that changes the core alone, and the machine after it
abbrev pub in_core : MachineState → Outcome × CoreState → Outcome × MachineState
in_core w x = (x.0, record w { core = x.1 })
