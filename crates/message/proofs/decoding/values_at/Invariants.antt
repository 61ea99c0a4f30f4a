-- The values so far are those of the digits, and none of them is above `greatest`.
use Rattle.std.proofs.Common.{◌≡◌, ℕ, ◌+◌, ◌<◌, ◌≤◌, slice_index}
use Rattle.message.specs.Digits.{HasNonDigit, value_of}
use Rattle.message.proofs.decoding.values_at.Given as goal

abbrev pub invariant-loop-k : goal.invariant-loop-k
invariant-loop-k l = record {
  each : (j : ℕ) → j < l.k → slice_index l.values j ≡ value_of (slice_index l.digits (l.at + j));
  bound : (j : ℕ) → j < l.k → slice_index l.values j ≤ l.greatest;
  met : 16 ≤ l.greatest → HasNonDigit l.digits;
}
