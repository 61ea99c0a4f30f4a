-- While each value so far is a digit's, the groups so far are decoded; once it is not, one of the bytes is no digit.
use Rattle.std.proofs.Common.{◌≡◌, ◌*◌, ◌<◌, ◌≤◌, length}
use Rattle.message.specs.Digits.{AreDecoded, HasNonDigit}
use Rattle.message.proofs.decoding.decode_all.Given as goal

abbrev pub invariant-loop-n : goal.invariant-loop-n
invariant-loop-n l = record {
  size : length l.out ≡ length l.initial.out;
  read : l.greatest < 16 → AreDecoded l.digits l.out 0 (16 * l.n);
  other : 16 ≤ l.greatest → HasNonDigit l.digits;
}
