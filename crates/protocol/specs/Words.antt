-- Format for clients: The words of a line, and what a word encodes.
use Rattle.std.specs.Prelude.{[], ℕ, ◌-◌, ◌*◌, ◌^◌, Bool, ◌&&◌, ◌||◌, not, ◌==◌, nat_lt, nat_le, List, ◌∷◌, ◌++◌, length, replicate, slice_index, if◌then◌else◌, Option, Some, None, option_map}
use Rattle.std.specs.Result.{result_ok}
use Rattle.std.specs.Str.{all_ascii_digits}
use Rattle.std.specs.Str.Parse.{digits_value}
use Rattle.hex.specs.Hex.{decode_of}
use Rattle.protocol.specs.declared.messages.Block.{Block}
use Rattle.protocol.specs.declared.sizes.TheConstants.{BLOCK_SIZE, LABEL_SIZE}
use Rattle.protocol.specs.Lines.{in_first}

-- The words of a line: what lies before, between and after its spaces.
abbrev pub words : List ℕ → List (List ℕ)
words [] = [] ∷ []
words (b ∷ bs) = if b == 32 then [] ∷ words bs else in_first b (words bs)

-- whether a word is one or more decimal digits, with no zero (byte 48) in front of others
abbrev pub is_numeral : List ℕ → Bool
is_numeral word = all_ascii_digits word && nat_lt 0 (length word) && (not (slice_index word 0 == 48) || (length word == 1))

-- the number from 0 to 65535 that a word encodes, if it encodes one
unfoldable pub number_in_word : List ℕ → Option ℕ
number_in_word word = if is_numeral word && nat_lt (digits_value 10 word) (2 ^ 16) then Some (digits_value 10 word) else None

-- the bytes, with zeros after them up to `size` bytes
abbrev pub padded : ℕ → List ℕ → List ℕ
padded size bytes = bytes ++ replicate (size - length bytes) 0

-- the `size` bytes that a word encodes: at least one byte and at most `size`, by two hexadecimal digits each, and zeros after these
unfoldable pub bytes_in_word : ℕ → List ℕ → Option (List ℕ)
bytes_in_word size word =
    if nat_le 2 (length word) && nat_le (length word) (2 * size) then option_map (padded size) (result_ok (decode_of word)) else None

-- the block that a word encodes
unfoldable pub block_in_word : List ℕ → Option Block
block_in_word word = option_map (λ bytes. record { 0 = bytes }) (bytes_in_word BLOCK_SIZE word)

-- the label that a word encodes
unfoldable pub label_in_word : List ℕ → Option (List ℕ)
label_in_word word = bytes_in_word LABEL_SIZE word
