-- The pairs so far are put, and what stands before them is as it was.
use Rattle.std.proofs.Common.{◌≡◌, ℕ, ◌+◌, ◌*◌, ◌%◌, ◌<◌, length, slice_index}
use Rattle.message.proofs.decoding.put_pairs.Given as goal

abbrev pub invariant-loop-k : goal.invariant-loop-k
invariant-loop-k l = record {
  size : length l.out ≡ length l.initial.out;
  before : (i : ℕ) → i < l.at → slice_index l.out i ≡ slice_index l.initial.out i;
  pairs : (j : ℕ) → j < l.k → slice_index l.out (l.at + j) ≡ (slice_index l.values (2 * j) * 16 % 256 + slice_index l.values (2 * j + 1)) % 256;
}
