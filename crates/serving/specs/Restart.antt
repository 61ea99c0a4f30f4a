-- Statement for operators: The state that a restart after a crash recovers, in terms of lines: those acknowledged, and which of the others.
use Rattle.std.specs.Prelude.{◌≡◌, ℕ, ◌+◌, ◌==◌, List, ◌++◌, count_by, take, Option, Some}
use Rattle.std.specs.Io.KnownBytes.{Appends}
use Rattle.affinity.specs.declared.geometry.Geometry.{Geometry}
use Rattle.recovery.specs.Recovery.{recovered_state}
use Rattle.protocol.specs.Lines.{lines}
use Rattle.message.specs.AppendsBeginning.{AppendsBeginning}
use Rattle.meaning.specs.ClosedPart.{IsClosedPart}
use Rattle.meaning.specs.Output.{WritesOutput, joined, output_lines, state_after_lines}
use Rattle.meaning.specs.State.{State}

-- A write failed: the output holds a beginning of what was to be written. `all` is what it would hold with all of that. Each line of it
-- that ends behind the beginning has one of the slots; so many other lines may be unanswered as there are other slots.
abbrev pub WritesBeginning : ℕ → ℕ → Option (List ℕ) → Option (List ℕ) → Option (List ℕ) → Type 0
WritesBeginning slots unanswered before after all = (bytes : List ℕ) × Appends before all bytes × (b : AppendsBeginning before after bytes)
    × (count_by (λ c. c == 10) b.1 + unanswered ≡ slots)

-- what has failed where a server has ended: its output; its device alone; or neither of them
pub data Failed : Type 0 where
  OutputFailed : Failed
  DeviceFailed : Failed
  NeitherFailed : Failed

-- `all` is the output as the server meant it: what is there or, if a write failed, what would be there if that write had succeeded
-- (`WritesBeginning`). At most `unanswered` lines that were read are not answered in `all`: if the device failed, as many as there are
-- slots; if neither failed, none.
abbrev pub IsMeant : Failed → ℕ → ℕ → Option (List ℕ) → Option (List ℕ) → Option (List ℕ) → Type 0
IsMeant OutputFailed slots unanswered before after all = WritesBeginning slots unanswered before after all
IsMeant DeviceFailed slots unanswered before after all = (after ≡ all) × (unanswered ≡ slots)
IsMeant NeitherFailed slots unanswered before after all = (after ≡ all) × (unanswered ≡ 0)

-- The first lines of the input were acknowledged, each by the serial server's answer. The state is the one after these lines and then a
-- part (`IsClosedPart`) of the lines after them: of no more than there are slots, as no later line was read.
pub record RecoversTo (g : Geometry) (slots : ℕ) (start now : State) (input written : List ℕ) : Type 0 where
  pub acknowledged : List (List ℕ)
  pub unacknowledged : List (List ℕ)
  pub first : lines input ≡ acknowledged ++ unacknowledged
  pub answers : written ≡ joined (output_lines g start acknowledged)
  pub part : List (List ℕ)
  pub closed : IsClosedPart g part (take slots unacknowledged)
  pub state : now ≡ state_after_lines g start (acknowledged ++ part)

-- These bytes recover to a state. Where the input is known, `RecoversTo` holds of that state, for a server that began in `start`, and of
-- what was added to the output: `before` and `after` are what it held before and after the run.
pub record BytesRecover (g : Geometry) (slots : ℕ) (start : State) (input before after : Option (List ℕ)) (bytes : List ℕ) : Type 0 where
  pub now : State
  pub holds_now : recovered_state g bytes ≡ Some now
  pub recovers : WritesOutput input before after (RecoversTo g slots start now)
