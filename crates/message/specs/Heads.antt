-- Statement for engineers: The head of a message: its kind and its numbers, and its data not decoded.
use Rattle.std.specs.Prelude.{◌≡◌, ℕ, Bool, true, false, List, [], slice_index, Option, Some, None, option_map}
use Rattle.affinity.specs.declared.kinds.Kind.{Kind}
use Rattle.affinity.specs.declared.kinds.Kind.TheVariants as kinds
use Rattle.protocol.specs.declared.messages.Block.{Block}
use Rattle.protocol.specs.declared.messages.Msg.{Msg}
use Rattle.protocol.specs.declared.messages.Msg.TheVariants.{Write, SetLabel}
use Rattle.protocol.specs.Words.{block_in_word, label_in_word}
use Rattle.message.specs.declared.heads.Head.{Head}
use Rattle.message.specs.declared.heads.Head.TheVariants.{NoMessage, WithoutData, Writes, SetsLabel}
use Rattle.protocol.specs.Messages.{kind, four_numbers}
use Rattle.message.specs.Records.{assembled}

-- whether messages of a kind have data: a block or a label
abbrev pub has_data : Kind → Bool
has_data kinds.MakeVol = false
has_data kinds.DropVol = false
has_data kinds.Create = false
has_data kinds.Delete = false
has_data kinds.Seal = false
has_data kinds.Unseal = false
has_data kinds.Write = true
has_data kinds.Punch = false
has_data kinds.Read = false
has_data kinds.List = false
has_data kinds.Usage = false
has_data kinds.Summary = false
has_data kinds.SetLabel = true
has_data kinds.Label = false

-- the message of a kind and four numbers, where it has no data
abbrev pub message_without_data : Kind → List ℕ → Msg
message_without_data k ns = assembled k (slice_index ns 0) (slice_index ns 1) (slice_index ns 2) (slice_index ns 3) []

-- the `write` of four numbers and a block
abbrev pub writing : List ℕ → Block → Msg
writing ns content = Write (slice_index ns 0) (slice_index ns 1) (slice_index ns 2) (slice_index ns 3) content

-- the `setlabel` of four numbers, of which it has two, and a label
abbrev pub labeling : List ℕ → List ℕ → Msg
labeling ns bytes = SetLabel (slice_index ns 0) (slice_index ns 1) bytes

-- The message is the one of this kind and these numbers, with 0 for each number that it doesn't have.
pub record IsWithoutData (k : Kind) (ns : List ℕ) (m : Option Msg) : Type 0 where
  pub message_is : m ≡ Some (message_without_data k ns)
  pub kind_is : kind (message_without_data k ns) ≡ k
  pub numbers_are : four_numbers (message_without_data k ns) ≡ ns
  pub without_data : has_data k ≡ false

-- What a head tells of the message that a line spells, if it spells one.
abbrev pub IsHead : Head → Option Msg → Type 0
IsHead NoMessage m = m ≡ None
IsHead (WithoutData k ns) m = IsWithoutData k ns m
IsHead (Writes ns digits) m = m ≡ option_map (writing ns) (block_in_word digits.now)
IsHead (SetsLabel ns digits) m = m ≡ option_map (labeling ns) (label_in_word digits.now)
