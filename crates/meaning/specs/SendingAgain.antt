-- Statement for clients: A client that sends its unanswered lines again after each crash.
use Rattle.std.specs.Prelude.{◌≡◌, ℕ, ◌≤◌, ◌+◌, ◌-◌, ◌*◌, ◌/◌, true, false, ◌&&◌, ◌==◌, List, [], ◌∷◌, ◌++◌, Option, Some, None, is_some}
use Rattle.std.specs.List.{flat_map}
use Rattle.affinity.specs.Geometry.{stripe_of}
use Rattle.affinity.specs.Kind.{is_changing}
use Rattle.affinity.specs.declared.geometry.Geometry.{Geometry}
use Rattle.protocol.specs.Grammar.{message_of}
use Rattle.protocol.specs.Messages.{kind}
use Rattle.protocol.specs.declared.messages.Msg.{Msg}
use Rattle.protocol.specs.declared.messages.Msg.TheVariants.{Write}
use Rattle.meaning.specs.State.{State, blocks_in_stripe, count_below, sum_below}
use Rattle.meaning.specs.Refusals.{is_refused}
use Rattle.meaning.specs.Step.{effect, reply_to}
use Rattle.meaning.specs.Output.{state_after_line}
use Rattle.meaning.specs.ClosedPart.{IsClosedPart}

-- ---- which lines may be sent again

-- The line is no message, asks for something, or is carried out.
abbrev pub IsAccepted : Geometry → State → Option Msg → Type 0
IsAccepted g x None = Unit {0}
IsAccepted g x (Some m) = (is_changing (kind m) && is_refused (reply_to g x m)) ≡ false

-- Each of the lines is, where they run one after the other, from x on: no change is refused.
abbrev pub AreAccepted : Geometry → State → List (List ℕ) → Type 0
AreAccepted g x [] = Unit {0}
AreAccepted g x (line ∷ ls) = IsAccepted g x (message_of line) × AreAccepted g (state_after_line g x (message_of line)) ls

-- the state with the block that the line writes, if it writes one, whether the write is refused or not; and with those of all lines
abbrev pub with_block : State → Option Msg → State
with_block x (Some (Write a v f b content)) = effect x (Write a v f b content)
with_block x _ = x

abbrev pub with_blocks : State → List (List ℕ) → State
with_blocks x [] = x
with_blocks x (line ∷ ls) = with_blocks (with_block x (message_of line)) ls

-- Each stripe has room for the blocks that it has and those that the lines write, all at once.
abbrev pub HaveSpace : Geometry → State → List (List ℕ) → Type 0
HaveSpace g x ls = (a v s : ℕ) → blocks_in_stripe g (with_blocks x ls) a v s ≤ g.quota

-- A block that the line writes is there already.
abbrev pub WritesThere : State → Option Msg → Type 0
WritesThere x (Some (Write a v f b content)) = is_some (x.blocks (a, v, f, b)) ≡ true
WritesThere x _ = Unit {0}

-- how many blocks of a volume lie in a stripe, whether they are there or not
abbrev pub stripe_size : Geometry → ℕ → ℕ
stripe_size g s = sum_below g.files (λ f. count_below g.blocks (λ b. stripe_of g f b == s))

-- how often the blocks of a file go round over the stripes; the last time perhaps not over all of them
abbrev pub rounds : Geometry → ℕ
rounds g = (g.blocks + g.width * g.stripes - 1) / (g.width * g.stripes)

-- ---- tries

-- What one try to send lines did, up to a crash: it answered the first of them, which won't be sent again; of the others the crash left
-- a part.
pub record Try : Type 0 where
  pub answered : List (List ℕ)
  pub part : List (List ℕ)

-- Tries to send some lines, each with the lines that are unanswered after the one before it. These are left after the last one.
abbrev pub AreTries : Geometry → List Try → List (List ℕ) → List (List ℕ) → Type 0
AreTries g [] ls left = left ≡ ls
AreTries g (t ∷ tries) ls left =
    (rest : List (List ℕ)) × (ls ≡ t.answered ++ rest) × IsClosedPart g t.part rest × AreTries g tries rest left

-- all lines that were carried out in these tries
abbrev pub lines_done : List Try → List (List ℕ)
lines_done tries = flat_map (λ (t : Try). t.answered ++ t.part) tries
