-- So far `done` zeros are written, and nothing outside the range is changed; the number of zeros left decreases.
use Rattle.std.proofs.Common.{◌≡◌, ◌≤◌, ◌-◌, length, replicate}
use Rattle.disk.specs.Device.{SameOutside, overlaid}
use Rattle.disk.specs.CrashImages.{CrashesChangeOnly}
use Rattle.recovery.proofs.formatting.write_zeros.Given as goal

abbrev pub invariant-zeros : goal.invariant-zeros
invariant-zeros g l = record {
  inside : l.done ≤ l.count;
  len : length (g.D.Disk.medium l.disk).now ≡ length (g.D.Disk.medium l.initial.disk).now;
  faults : (g.D.Disk.medium l.disk).faults ≡ (g.D.Disk.medium l.initial.disk).faults;
  moments : g.D.Disk.keeps → CrashesChangeOnly (g.D.Disk.medium l.initial.disk) (g.D.Disk.medium l.disk) (SameOutside l.at l.count);
  written : g.D.Disk.keeps → (g.D.Disk.medium l.disk).now ≡ overlaid (g.D.Disk.medium l.initial.disk).now l.at (replicate l.done 0);
}

abbrev pub decreases-zeros : goal.decreases-zeros
decreases-zeros g l = l.count - l.done
