-- Format for clients: Which lines spell which messages.
use Rattle.std.specs.Prelude.{◌≡◌, ℕ, ◌^◌, ◌<◌, ◌≤◌, nat_lt, List, [], ◌∷◌, ◌++◌, length, map, find, codes, if◌then◌else◌, Option, Some, None, Ok}
use Rattle.std.specs.List.{AllByRecursion, join_with_byte}
use Rattle.std.specs.Str.{bytes_eq}
use Rattle.std.specs.Fmt.{decimal}
use Rattle.hex.specs.Hex.{decode_of}
use Rattle.affinity.specs.declared.kinds.Kind.{Kind}
use Rattle.affinity.specs.declared.kinds.Kind.TheVariants as kinds
use Rattle.protocol.specs.declared.messages.Block.{Block}
use Rattle.protocol.specs.declared.messages.Msg.{Msg}
use Rattle.protocol.specs.declared.messages.Msg.TheVariants.{MakeVol, DropVol, Create, Delete, Seal, Unseal, Write, Punch, Read, List as ListFiles, Usage, Summary, SetLabel, Label}
use Rattle.protocol.specs.Words.{words, number_in_word, block_in_word, label_in_word, padded}
use Rattle.protocol.specs.Messages.{kind, numbers}
use Rattle.protocol.specs.declared.sizes.TheConstants.{BLOCK_SIZE, LABEL_SIZE, LONGEST_LINE}

-- ---- by the words of a line: which message they make, if any

-- f applied to the value of an option, or `None` where it has none. Under `do` the line `x ← o` stands for it, as `let x = o?;` in Rust.
infixl 10 ◌>>=◌
abbrev pub ◌>>=◌ : {A B : Type 0} → Option A → (A → Option B) → Option B
(Some x) >>= f = f x
None >>= f = None

-- the number that the first word encodes, and the words after it, of which there is at least one
abbrev pub first_number : List (List ℕ) → Option (ℕ × List (List ℕ))
first_number (w ∷ v ∷ ws) = do
  n ← number_in_word w
  Some (n, v ∷ ws)
first_number _ = None

-- the message that `make` makes of two words: the numbers of an aggregate and a volume
abbrev pub of_volume : (ℕ → ℕ → Msg) → List (List ℕ) → Option Msg
of_volume make (a ∷ v ∷ []) = do
  aggregate ← number_in_word a
  volume ← number_in_word v
  Some (make aggregate volume)
of_volume make _ = None

-- the message that `make` makes of three words: the numbers of an aggregate, a volume and a file
abbrev pub of_file : (ℕ → ℕ → ℕ → Msg) → List (List ℕ) → Option Msg
of_file make (a ∷ v ∷ f ∷ []) = do
  aggregate ← number_in_word a
  volume ← number_in_word v
  file ← number_in_word f
  Some (make aggregate volume file)
of_file make _ = None

-- the message that `make` makes of four words: the numbers of an aggregate, a volume, a file and a block
abbrev pub of_block : (ℕ → ℕ → ℕ → ℕ → Msg) → List (List ℕ) → Option Msg
of_block make (a ∷ v ∷ f ∷ b ∷ []) = do
  aggregate ← number_in_word a
  volume ← number_in_word v
  file ← number_in_word f
  block_number ← number_in_word b
  Some (make aggregate volume file block_number)
of_block make _ = None

-- the message that `make` makes of five words: four numbers, and the digits of a block
abbrev pub of_data : (ℕ → ℕ → ℕ → ℕ → Block → Msg) → List (List ℕ) → Option Msg
of_data make (a ∷ v ∷ f ∷ b ∷ digits ∷ []) = do
  aggregate ← number_in_word a
  volume ← number_in_word v
  file ← number_in_word f
  block_number ← number_in_word b
  content ← block_in_word digits
  Some (make aggregate volume file block_number content)
of_data make _ = None

-- the message that `make` makes of three words: two numbers, and the digits of a label
abbrev pub of_label : (ℕ → ℕ → List ℕ → Msg) → List (List ℕ) → Option Msg
of_label make (a ∷ v ∷ digits ∷ []) = do
  aggregate ← number_in_word a
  volume ← number_in_word v
  bytes ← label_in_word digits
  Some (make aggregate volume bytes)
of_label make _ = None

-- the message of a kind and the words after its keyword
abbrev pub of_kind : Kind → List (List ℕ) → Option Msg
of_kind kinds.MakeVol arguments = of_volume MakeVol arguments
of_kind kinds.DropVol arguments = of_volume DropVol arguments
of_kind kinds.Create arguments = of_file Create arguments
of_kind kinds.Delete arguments = of_file Delete arguments
of_kind kinds.Seal arguments = of_volume Seal arguments
of_kind kinds.Unseal arguments = of_volume Unseal arguments
of_kind kinds.Write arguments = of_data Write arguments
of_kind kinds.Punch arguments = of_block Punch arguments
of_kind kinds.Read arguments = of_block Read arguments
of_kind kinds.List arguments = of_volume ListFiles arguments
of_kind kinds.Usage arguments = of_volume Usage arguments
of_kind kinds.Summary [] = Some Summary
of_kind kinds.Summary _ = None
of_kind kinds.SetLabel arguments = of_label SetLabel arguments
of_kind kinds.Label arguments = of_volume Label arguments

abbrev pub keyword : Kind → List ℕ
keyword kinds.MakeVol = codes "makevol"
keyword kinds.DropVol = codes "dropvol"
keyword kinds.Create = codes "create"
keyword kinds.Delete = codes "delete"
keyword kinds.Seal = codes "seal"
keyword kinds.Unseal = codes "unseal"
keyword kinds.Write = codes "write"
keyword kinds.Punch = codes "punch"
keyword kinds.Read = codes "read"
keyword kinds.List = codes "list"
keyword kinds.Usage = codes "usage"
keyword kinds.Summary = codes "summary"
keyword kinds.SetLabel = codes "setlabel"
keyword kinds.Label = codes "label"

abbrev pub all_kinds : List Kind
all_kinds =
    kinds.MakeVol ∷ kinds.DropVol ∷ kinds.Create ∷ kinds.Delete ∷ kinds.Seal ∷ kinds.Unseal ∷ kinds.Write
    ∷ kinds.Punch ∷ kinds.Read ∷ kinds.List ∷ kinds.Usage ∷ kinds.Summary ∷ kinds.SetLabel ∷ kinds.Label ∷ []

-- the kind that a word names
unfoldable pub kind_named : List ℕ → Option Kind
kind_named word = find (λ k. bytes_eq word (keyword k)) all_kinds

-- the message that the words of a line spell, if they spell one
abbrev pub of_words : List (List ℕ) → Option Msg
of_words [] = None
of_words (word ∷ arguments) = do
  kind ← kind_named word
  of_kind kind arguments

-- The message that a line spells, if it spells one. None of more than `LONGEST_LINE` bytes does.
unfoldable pub message_of : List ℕ → Option Msg
message_of line = if nat_lt LONGEST_LINE (length line) then None else of_words (words line)

-- ---- by the message: how its line is put together

-- The hexadecimal digits encode at least one byte and at most `size`, and `whole` is these bytes with zeros after them up to `size` bytes.
abbrev pub SpellsBytes : ℕ → List ℕ → List ℕ → Type 0
SpellsBytes size digits whole = (bytes : List ℕ) × (decode_of digits ≡ Ok bytes) × (1 ≤ length bytes) × (length bytes ≤ size)
    × (whole ≡ padded size bytes)

-- The words `behind` are what follows the numbers of the message in its line: the digits of its block or label, or no word.
abbrev pub IsData : Msg → List (List ℕ) → Type 0
IsData (MakeVol a v) behind = behind ≡ []
IsData (DropVol a v) behind = behind ≡ []
IsData (Create a v f) behind = behind ≡ []
IsData (Delete a v f) behind = behind ≡ []
IsData (Seal a v) behind = behind ≡ []
IsData (Unseal a v) behind = behind ≡ []
IsData (Write a v f b content) behind = (digits : List ℕ) × (behind ≡ digits ∷ []) × SpellsBytes BLOCK_SIZE digits content.0
IsData (Punch a v f b) behind = behind ≡ []
IsData (Read a v f b) behind = behind ≡ []
IsData (ListFiles a v) behind = behind ≡ []
IsData (Usage a v) behind = behind ≡ []
IsData Summary behind = behind ≡ []
IsData (SetLabel a v bytes) behind = (digits : List ℕ) × (behind ≡ digits ∷ []) × SpellsBytes LABEL_SIZE digits bytes
IsData (Label a v) behind = behind ≡ []

-- The line spells the message: its keyword, its numbers in decimal and its data, separated by single spaces.
pub record Spells (line : List ℕ) (m : Msg) : Type 0 where
  pub words_behind : List (List ℕ)
  pub parts : line ≡ join_with_byte 32 (keyword (kind m) ∷ map decimal (numbers m) ++ words_behind)
  pub fits : AllByRecursion (λ n. n < 2 ^ 16) (numbers m)
  pub content : IsData m words_behind
  pub short : length line ≤ LONGEST_LINE
