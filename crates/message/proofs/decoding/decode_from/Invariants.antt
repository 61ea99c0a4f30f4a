-- While the greatest value is below 16, the pairs so far are decoded; once it is not, one of the bytes is no digit.
use Rattle.std.proofs.Common.{◌≡◌, ℕ, ◌<◌, ◌≤◌, length, slice_index}
use Rattle.message.specs.Digits.{AreDecoded, HasNonDigit}
use Rattle.message.proofs.decoding.decode_from.Given as goal

abbrev pub invariant-loop-i : goal.invariant-loop-i
invariant-loop-i l = record {
  size : length l.out ≡ length l.initial.out;
  before : (j : ℕ) → j < l.from → slice_index l.out j ≡ slice_index l.initial.out j;
  read : l.greatest < 16 → AreDecoded l.digits l.out l.from l.i;
  other : 16 ≤ l.greatest → HasNonDigit l.digits;
}
