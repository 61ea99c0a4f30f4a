-- Format for operators: The records of messages, each of `RECORD_SIZE` bytes.
use Rattle.std.specs.Prelude.{ℕ, ◌<◌, ◌-◌, List, [], ◌∷◌, ◌++◌, take, drop, find, replicate, slice_index, ◌==◌, Option, option_map}
use Rattle.std.specs.List.{AllByRecursion}
use Rattle.affinity.specs.declared.kinds.Kind.{Kind}
use Rattle.affinity.specs.declared.kinds.Kind.TheVariants as kinds
use Rattle.byteorder.specs.Endian.{little_bytes, little_number}
use Rattle.protocol.specs.declared.sizes.TheConstants.{BLOCK_SIZE, LABEL_SIZE, RECORD_HEAD_SIZE}
use Rattle.protocol.specs.declared.messages.Msg.{Msg}
use Rattle.protocol.specs.declared.messages.Msg.TheVariants.{MakeVol, DropVol, Create, Delete, Seal, Unseal, Write, Punch, Read, List as ListFiles, Usage, Summary, SetLabel, Label}
use Rattle.protocol.specs.Messages.{kind, four_numbers}
use Rattle.protocol.specs.Grammar.{all_kinds}

-- the code of a kind, which is the first byte of a record
abbrev pub kind_number : Kind → ℕ
kind_number kinds.MakeVol = 1
kind_number kinds.DropVol = 2
kind_number kinds.Create = 3
kind_number kinds.Delete = 4
kind_number kinds.Seal = 5
kind_number kinds.Unseal = 6
kind_number kinds.Write = 7
kind_number kinds.Punch = 8
kind_number kinds.Read = 9
kind_number kinds.List = 10
kind_number kinds.Usage = 11
kind_number kinds.Summary = 12
kind_number kinds.SetLabel = 13
kind_number kinds.Label = 14

-- what comes before the data: one byte each for kind, aggregate, volume and file, two for the block, the lower one first, and two zeros
abbrev pub record_head : Msg → List ℕ
record_head m =
    let ns = four_numbers m in
    kind_number (kind m) ∷ take 3 ns ++ little_bytes 2 (slice_index ns 3) ++ 0 ∷ 0 ∷ []

-- the data: the block of a `write`, the label of a `setlabel` and zeros after it, and zeros for all others
unfoldable pub data_of : Msg → List ℕ
data_of (MakeVol a v) = replicate BLOCK_SIZE 0
data_of (DropVol a v) = replicate BLOCK_SIZE 0
data_of (Create a v f) = replicate BLOCK_SIZE 0
data_of (Delete a v f) = replicate BLOCK_SIZE 0
data_of (Seal a v) = replicate BLOCK_SIZE 0
data_of (Unseal a v) = replicate BLOCK_SIZE 0
data_of (Write a v f b content) = content.0
data_of (Punch a v f b) = replicate BLOCK_SIZE 0
data_of (Read a v f b) = replicate BLOCK_SIZE 0
data_of (ListFiles a v) = replicate BLOCK_SIZE 0
data_of (Usage a v) = replicate BLOCK_SIZE 0
data_of Summary = replicate BLOCK_SIZE 0
data_of (SetLabel a v bytes) = bytes ++ replicate (BLOCK_SIZE - LABEL_SIZE) 0
data_of (Label a v) = replicate BLOCK_SIZE 0

-- the record of a message: its head, then data of the size of a block
abbrev pub record_of : Msg → List ℕ
record_of m = record_head m ++ data_of m

-- Aggregate, volume and file fit into one byte each.
abbrev pub FitsRecord : Msg → Type 0
FitsRecord m = AllByRecursion (λ n. n < 256) (take 3 (four_numbers m))

-- ---- by the bytes: what the fields encode

-- the kind that has this number
unfoldable pub kind_numbered : ℕ → Option Kind
kind_numbered n = find (λ k. n == kind_number k) all_kinds

-- the message of a kind with these numbers and data
abbrev pub assembled : Kind → ℕ → ℕ → ℕ → ℕ → List ℕ → Msg
assembled kinds.MakeVol a v f b bytes = MakeVol a v
assembled kinds.DropVol a v f b bytes = DropVol a v
assembled kinds.Create a v f b bytes = Create a v f
assembled kinds.Delete a v f b bytes = Delete a v f
assembled kinds.Seal a v f b bytes = Seal a v
assembled kinds.Unseal a v f b bytes = Unseal a v
assembled kinds.Write a v f b bytes = Write a v f b (record { 0 = bytes })
assembled kinds.Punch a v f b bytes = Punch a v f b
assembled kinds.Read a v f b bytes = Read a v f b
assembled kinds.List a v f b bytes = ListFiles a v
assembled kinds.Usage a v f b bytes = Usage a v
assembled kinds.Summary a v f b bytes = Summary
assembled kinds.SetLabel a v f b bytes = SetLabel a v (take LABEL_SIZE bytes)
assembled kinds.Label a v f b bytes = Label a v

-- the message that the fields of a record encode; fields that its kind doesn't use are ignored
unfoldable pub message_in_fields : List ℕ → Option Msg
message_in_fields bytes =
    option_map (λ k. assembled k (slice_index bytes 1) (slice_index bytes 2) (slice_index bytes 3) (little_number 2 (take 2 (drop 4 bytes)))
    (drop RECORD_HEAD_SIZE bytes))
    (kind_numbered (slice_index bytes 0))
