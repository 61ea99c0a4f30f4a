-- Inner: A message about one volume: its checks, and its step on what the volume has.
use Rattle.std.specs.Prelude.{◌≡◌, ℕ, Bool, true, not, if◌then◌else◌, Option, Some, Result, Ok, Err}
use Rattle.affinity.specs.declared.geometry.Geometry.{Geometry}
use Rattle.protocol.specs.declared.messages.Msg.{Msg}
use Rattle.protocol.specs.declared.replies.Refusal.{Refusal}
use Rattle.protocol.specs.declared.replies.Refusal.TheVariants.{Volume, Sealed}
use Rattle.protocol.specs.declared.replies.Reply.{Reply}
use Rattle.protocol.specs.declared.replies.Reply.TheVariants.{Done, Refused}
use Rattle.protocol.specs.Messages.{is_in_range}
use Rattle.parcel.specs.JobRun.{IsSerialStep}
use Rattle.parcel.specs.Volume.{VolumeFacts, one_volume}

-- refused for this reason where the check fails, else as the later checks decide
abbrev pub guard : Bool → Refusal → Option Refusal → Option Refusal
guard passes why later = if not passes then Some why else later

-- refused where the volume isn't made or is sealed, else as the later checks decide: for a message that changes what a volume has
abbrev pub guard_open : Bool → Bool → Option Refusal → Option Refusal
guard_open made sealed later = guard made Volume (guard (not sealed) Sealed later)

-- What a check answers: it refuses, whatever the later checks say, or leaves it to these.
abbrev pub Decides : (Option Refusal → Option Refusal) → Result (Unit {0}) Refusal → Type 0
Decides checks (Ok _) = (later : Option Refusal) → checks later ≡ later
Decides checks (Err why) = (later : Option Refusal) → checks later ≡ Some why

-- the reply to a message that changes something, which was done or refused
abbrev pub reply_to_change : Result (Unit {0}) Refusal → Reply
reply_to_change (Ok _) = Done
reply_to_change (Err why) = Refused why

-- In a state with one volume and nothing else, the message's serial step changes that volume's facts from `old` to `new`, whichever volume
-- it is.
abbrev pub IsVolumeStep : Geometry → (ℕ → ℕ → Msg) → VolumeFacts → Reply → VolumeFacts → Type 0
IsVolumeStep g m old given new = (a v : ℕ) → is_in_range g (m a v) ≡ true
    → IsSerialStep g (one_volume a v old) (m a v) given (one_volume a v new)
