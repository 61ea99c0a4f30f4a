-- From the stripes so far the blocks are removed, and the others are as they were.
use Rattle.std.proofs.Common.{◌≡◌, ℕ, ◌<◌, ◌≤◌, vec_len, slice_index_or}
use Rattle.std.specs.Prelude.{None}
use Rattle.parcel.specs.Removes.{Removes, is_removed}
use Rattle.parcel.proofs.running.at_logical.remove_blocks.Given as goal

abbrev pub invariant-loop-s : goal.invariant-loop-s
invariant-loop-s l =
    (vec_len l.stripes ≡ vec_len l.initial.stripes)
    × ((k : ℕ) → k < l.s → Removes (is_removed l.file) (slice_index_or l.initial.stripes.items k None) (slice_index_or l.stripes.items k None))
    × ((k : ℕ) → l.s ≤ k → slice_index_or l.stripes.items k None ≡ slice_index_or l.initial.stripes.items k None)
