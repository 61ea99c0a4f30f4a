-- Inner: What becomes of the messages that ran when they are logged.
use Rattle.std.specs.Prelude.{◌≡◌, ℕ, List, ◌++◌, map, take, drop, count_by, unwrap_or}
use Rattle.arena.specs.ArenaView.{ArenaView, chain_at, value_at}
use Rattle.histories.specs.Eligible.{changes}
use Rattle.histories.specs.Events.{recorded}
use Rattle.protocol.specs.declared.messages.Msg.{Msg}
use Rattle.protocol.specs.declared.replies.Reply.{Reply}
use Rattle.scheduler.specs.Slots.{HasChains, no_slot, slot_view_at, replied_of}
use Rattle.scheduler.specs.declared.core_memory.Slot.{Slot}
use Rattle.scheduler.specs.declared.core_memory.TheConstants.{WAITING, IN_FLIGHT, RAN, LOGGED}

-- those of the messages in these slots that the log keeps
abbrev pub recorded_in : ArenaView Slot → List Reply → List ℕ → List Msg
recorded_in arena replies slots = recorded (map replied_of (map (slot_view_at arena replies) slots))

-- how many of the messages in these slots are of a changing kind
abbrev pub changing_in : ArenaView Slot → List ℕ → ℕ
changing_in arena slots = count_by (λ i. changes (unwrap_or (value_at arena i) no_slot).message) slots

-- The slots of the first n messages that ran moved to the end of the chain of those that are logged, and nothing else has changed.
pub record HasLogged (n : ℕ) (old new : ArenaView Slot) : Type 0 where
  pub ran : chain_at new RAN ≡ drop n (chain_at old RAN)
  pub logged : chain_at new LOGGED ≡ chain_at old LOGGED ++ take n (chain_at old RAN)
  pub waiting : chain_at new WAITING ≡ chain_at old WAITING
  pub in_flight : chain_at new IN_FLIGHT ≡ chain_at old IN_FLIGHT
  pub values : new.values ≡ old.values
  pub free : new.free ≡ old.free
  pub chains : HasChains new
