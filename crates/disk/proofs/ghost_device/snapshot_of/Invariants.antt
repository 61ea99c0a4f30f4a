-- The list has the bytes so far.
use Rattle.std.proofs.Common.{◌≡◌}
use Rattle.disk.specs.GhostDevice.{bytes_of}
use Rattle.disk.proofs.ghost_device.snapshot_of.Given as goal

abbrev pub invariant-loop-byte : goal.invariant-loop-byte
invariant-loop-byte l = bytes_of l.list ≡ l.yielded
