-- Inner: The decimal digits at the front of a line.
use Rattle.std.specs.Prelude.{◌≡◌, ◌+◌, ◌^◌, ◌<◌, ◌≤◌, ℕ, List, true, false, length, slice_index, take}
use Rattle.std.specs.Char.{is_ascii_digit}
use Rattle.std.specs.Str.{all_ascii_digits}
use Rattle.std.specs.Str.Parse.{digits_value}

-- The first `size` bytes are all the digits at the front of a line, and this is their value.
pub record AreInFront (line : List ℕ) (value size : ℕ) : Type 0 where
  pub within : size ≤ length line
  pub digits : all_ascii_digits (take size line) ≡ true
  pub value_is : value ≡ digits_value 10 (take size line)
  pub no_more : size < length line → is_ascii_digit (slice_index line size) ≡ false

-- The value of the digits at the front of a line, up to the one at `last`, is past those of 16 bits.
pub record HasTooMuchInFront (line : List ℕ) : Type 0 where
  pub last : ℕ
  pub within : last < length line
  pub digits : all_ascii_digits (take last line) ≡ true
  pub one_more : is_ascii_digit (slice_index line last) ≡ true
  pub large : 2 ^ 16 ≤ digits_value 10 (take (last + 1) line)
