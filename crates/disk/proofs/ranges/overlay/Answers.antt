-- The range has the new bytes, and what is before and behind it stays.
use Rattle.std.proofs.Common.{arith}
use Rattle.disk.proofs.Overlays.{overlaid_part}
use Rattle.disk.proofs.ranges.overlay.Goals as goal

pub returns-clause-written : goal.returns-clause-written
returns-clause-written c = overlaid_part _ _ _ _ _ c.requires (omega arith) c.copy_from_slice.ensures.after
