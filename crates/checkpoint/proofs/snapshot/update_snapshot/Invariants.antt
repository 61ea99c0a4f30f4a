-- Up to the next piece the bytes are those of the image, if the clean pieces were those of the state at first.
use Rattle.checkpoint.proofs.Snapshots.{IsSnapshotTo}
use Rattle.parcel.specs.Tree.{state_in}
use Rattle.checkpoint.proofs.snapshot.update_snapshot.Given as goal

abbrev pub invariant-loop-n : goal.invariant-loop-n
invariant-loop-n l = IsSnapshotTo l.g (state_in l.tree) l.dirty l.initial.bytes l.n l.at l.bytes
