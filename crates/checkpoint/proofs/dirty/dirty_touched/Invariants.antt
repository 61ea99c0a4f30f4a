-- In both images the pieces that the messages so far touch are dirty, and the others are as they were.
use Rattle.std.proofs.Common.{◌≡◌, length, take}
use Rattle.checkpoint.specs.DirtyPieces.{DirtiesTouched}
use Rattle.checkpoint.proofs.dirty.dirty_touched.Given as goal

abbrev pub invariant-loop-m : goal.invariant-loop-m
invariant-loop-m l = record {
  named_size : length l.named ≡ length l.initial.named;
  other_size : length l.other ≡ length l.initial.other;
  named : DirtiesTouched l.g (take l.m-index l.messages) l.initial.named l.named;
  other : DirtiesTouched l.g (take l.m-index l.messages) l.initial.other l.other;
}
