-- Outside the range the two rows agree already, and inside it one is copied from the other.
use Rattle.disk.proofs.SameOutside.{refreshed}
use Rattle.disk.proofs.ranges.refresh.Goals as goal

pub returns : goal.returns
returns c = refreshed c.args.span.start _ c.args.bytes.now c.args.last_synced.now c.copy_from_slice.new.self c.requires.outside c.copy_from_slice.ensures.after
