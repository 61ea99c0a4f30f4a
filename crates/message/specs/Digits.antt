-- Inner: The bytes that hexadecimal digits encode, by index.
use Rattle.std.specs.Prelude.{◌≡◌, ◌+◌, ◌*◌, ◌<◌, ◌≤◌, ℕ, List, length, slice_index}
use Rattle.std.specs.Option.{unwrap_or}
use Rattle.hex.specs.Hex.{hex_digit_value}

-- the value of a hexadecimal digit, or 255 where the byte is no digit
abbrev pub value_of : ℕ → ℕ
value_of c = unwrap_or (hex_digit_value c) 255

-- Byte i has the value of digits 2i and 2i + 1.
pub record IsDecoded (digits bytes : List ℕ) (i : ℕ) : Type 0 where
  pub high : value_of (slice_index digits (2 * i)) < 16
  pub low : value_of (slice_index digits (2 * i + 1)) < 16
  pub byte : slice_index bytes i ≡ value_of (slice_index digits (2 * i)) * 16 + value_of (slice_index digits (2 * i + 1))

-- One of the bytes isn't a hexadecimal digit.
abbrev pub HasNonDigit : List ℕ → Type 0
HasNonDigit digits = (k : ℕ) × (k < length digits) × (16 ≤ value_of (slice_index digits k))

-- The bytes with the indices from `from` up to `to`, `to` excluded, are decoded.
abbrev pub AreDecoded : List ℕ → List ℕ → ℕ → ℕ → Type 0
AreDecoded digits bytes from to = (i : ℕ) → from ≤ i → i < to → IsDecoded digits bytes i
