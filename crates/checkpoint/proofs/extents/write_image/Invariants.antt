-- The image is patched up to the run in progress, with one write for each run of dirty extents before it.
use Rattle.std.proofs.Common.{◌≡◌, ◌≤◌, length}
use Rattle.disk.specs.Device.{moment_number}
use Rattle.checkpoint.specs.Extents.{extent_at}
use Rattle.checkpoint.proofs.Costs.{RunsLeft}
use Rattle.checkpoint.proofs.Patches.{IsPatched}
use Rattle.checkpoint.proofs.extents.write_image.Given as goal

abbrev pub invariant-loop-n : goal.invariant-loop-n
invariant-loop-n g l = record {
  place : l.at ≡ extent_at l.g l.n;
  order : l.from ≤ l.at;
  len : length (g.D.Disk.medium l.disk).now ≡ length (g.D.Disk.medium l.initial.disk).now;
  faults : (g.D.Disk.medium l.disk).faults ≡ (g.D.Disk.medium l.initial.disk).faults;
  runs : g.D.Disk.keeps → RunsLeft l.dirty l.n l.from l.at (moment_number (g.D.Disk.medium l.initial.disk)) (moment_number (g.D.Disk.medium l.disk));
  so_far : g.D.Disk.keeps → IsPatched l.g l.area l.from l.bytes (g.D.Disk.medium l.initial.disk) (g.D.Disk.medium l.disk);
}
