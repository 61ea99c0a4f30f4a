-- Statement for clients: What a message is: its kind and its numbers.
use Rattle.std.specs.Prelude.{◌≡◌, ℕ, ◌<◌, Bool, List, [], ◌∷◌, ◌++◌, length, take, replicate}
use Rattle.std.specs.List.{AllByRecursion}
use Rattle.affinity.specs.declared.kinds.Kind.{Kind}
use Rattle.affinity.specs.declared.kinds.Kind.TheVariants as kinds
use Rattle.affinity.specs.declared.geometry.Geometry.{Geometry}
use Rattle.affinity.specs.Place.{is_in_range as numbers_are_in_range, path_of_kind}
use Rattle.affinity.specs.Path.{Path}
use Rattle.protocol.specs.declared.sizes.TheConstants.{BLOCK_SIZE, LABEL_SIZE}
use Rattle.protocol.specs.declared.messages.Block.{Block}
use Rattle.protocol.specs.declared.messages.Msg.{Msg}
use Rattle.protocol.specs.declared.messages.Msg.TheVariants.{MakeVol, DropVol, Create, Delete, Seal, Unseal, Write, Punch, Read, List as ListFiles, Usage, Summary, SetLabel, Label}

abbrev pub kind : Msg → Kind
kind (MakeVol a v) = kinds.MakeVol
kind (DropVol a v) = kinds.DropVol
kind (Create a v f) = kinds.Create
kind (Delete a v f) = kinds.Delete
kind (Seal a v) = kinds.Seal
kind (Unseal a v) = kinds.Unseal
kind (Write a v f b content) = kinds.Write
kind (Punch a v f b) = kinds.Punch
kind (Read a v f b) = kinds.Read
kind (ListFiles a v) = kinds.List
kind (Usage a v) = kinds.Usage
kind Summary = kinds.Summary
kind (SetLabel a v bytes) = kinds.SetLabel
kind (Label a v) = kinds.Label

-- the numbers of a message: aggregate, volume, file, block, as far as it has them
abbrev pub numbers : Msg → List ℕ
numbers (MakeVol a v) = a ∷ v ∷ []
numbers (DropVol a v) = a ∷ v ∷ []
numbers (Create a v f) = a ∷ v ∷ f ∷ []
numbers (Delete a v f) = a ∷ v ∷ f ∷ []
numbers (Seal a v) = a ∷ v ∷ []
numbers (Unseal a v) = a ∷ v ∷ []
numbers (Write a v f b content) = a ∷ v ∷ f ∷ b ∷ []
numbers (Punch a v f b) = a ∷ v ∷ f ∷ b ∷ []
numbers (Read a v f b) = a ∷ v ∷ f ∷ b ∷ []
numbers (ListFiles a v) = a ∷ v ∷ []
numbers (Usage a v) = a ∷ v ∷ []
numbers Summary = []
numbers (SetLabel a v bytes) = a ∷ v ∷ []
numbers (Label a v) = a ∷ v ∷ []

-- the aggregate, volume, file and block of a message, with 0 for each that it doesn't have
abbrev pub four_numbers : Msg → List ℕ
four_numbers m = take 4 (numbers m ++ replicate 4 0)

-- whether each number that the message has is below its limit
abbrev pub is_in_range : Geometry → Msg → Bool
is_in_range g m = numbers_are_in_range g (kind m) (four_numbers m)

-- the path in the tree of affinities at which a message belongs
abbrev pub path_of : Geometry → Msg → Path
path_of g m = path_of_kind g (kind m) (four_numbers m)

-- The list is `size` bytes, numbers below 256.
abbrev pub AreSizedBytes : ℕ → List ℕ → Type 0
AreSizedBytes size bytes = (length bytes ≡ size) × AllByRecursion (λ b. b < 256) bytes

-- The block is `BLOCK_SIZE` bytes.
abbrev pub IsBlock : Block → Type 0
IsBlock content = AreSizedBytes BLOCK_SIZE content.0

-- The data of the message are bytes: `BLOCK_SIZE` in a block, `LABEL_SIZE` in a label.
abbrev pub IsMessage : Msg → Type 0
IsMessage (MakeVol a v) = Unit {0}
IsMessage (DropVol a v) = Unit {0}
IsMessage (Create a v f) = Unit {0}
IsMessage (Delete a v f) = Unit {0}
IsMessage (Seal a v) = Unit {0}
IsMessage (Unseal a v) = Unit {0}
IsMessage (Write a v f b content) = IsBlock content
IsMessage (Punch a v f b) = Unit {0}
IsMessage (Read a v f b) = Unit {0}
IsMessage (ListFiles a v) = Unit {0}
IsMessage (Usage a v) = Unit {0}
IsMessage Summary = Unit {0}
IsMessage (SetLabel a v bytes) = AreSizedBytes LABEL_SIZE bytes
IsMessage (Label a v) = Unit {0}
