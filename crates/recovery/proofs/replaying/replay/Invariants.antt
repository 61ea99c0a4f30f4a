-- The tree holds the state after the records so far, all of which could be run; the device was only read.
use Rattle.std.proofs.Common.{◌≡◌, length}
use Rattle.recovery.proofs.Replays.{IsAt}
use Rattle.disk.specs.Device.{moments}
use Rattle.oplog.specs.Log.{layout_of_log}
use Rattle.parcel.specs.Tree.{IsWholeTree, state_in}
use Rattle.recovery.proofs.replaying.replay.Given as goal

abbrev pub invariant-loop-i : goal.invariant-loop-i
invariant-loop-i g l = record {
  whole : IsWholeTree l.tree;
  geometry : l.tree.geometry ≡ l.fn.tree.geometry;
  log : l.log ≡ l.fn.log;
  len : length (g.D.Disk.medium l.disk).now ≡ length (g.D.Disk.medium l.fn.disk).now;
  faults : (g.D.Disk.medium l.disk).faults ≡ (g.D.Disk.medium l.fn.disk).faults;
  untouched : g.D.Disk.keeps → moments (g.D.Disk.medium l.disk) ≡ moments (g.D.Disk.medium l.fn.disk);
  at : g.D.Disk.keeps → IsAt l.fn.tree.geometry (layout_of_log l.fn.log) l.half (g.D.Disk.medium l.fn.disk).now (state_in l.fn.tree) l.i (state_in l.tree);
}
