-- All bytes so far are digits, and their decimal value, below 65536, is the value so far.
use Rattle.std.proofs.Common.{◌≡◌, ◌<◌, true, take}
use Rattle.std.specs.Str.{all_ascii_digits}
use Rattle.std.specs.Str.Parse.{digits_value}
use Rattle.message.proofs.parsing.digits_in_front.Given as goal

abbrev pub invariant-loop-size : goal.invariant-loop-size
invariant-loop-size l = record {
  digits : all_ascii_digits (take l.size l.line) ≡ true;
  value : l.value ≡ digits_value 10 (take l.size l.line);
  fits : l.value < 65536;
}
