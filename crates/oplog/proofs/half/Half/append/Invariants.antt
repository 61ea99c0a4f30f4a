-- The batches so far are in the front, at four writes and syncs each; and what decreases is the number of messages left.
use Rattle.std.proofs.Common.{◌≡◌, ◌<◌, ◌≤◌, ◌+◌, ◌-◌, ◌*◌, ◌%◌, length, take}
use Rattle.disk.specs.Device.{moment_number}
use Rattle.oplog.specs.Log.{batch_count}
use Rattle.device_map.specs.Layout.{layout_of}
use Rattle.oplog.specs.ChangeRecords.{records_of}
use Rattle.oplog.proofs.Batches.{SoFar}
use Rattle.oplog.proofs.half.Half.append.Given as goal

abbrev pub invariant-loop-done : goal.invariant-loop-done
invariant-loop-done g l = record {
  inside : l.done ≤ length l.messages;
  none : length l.messages ≡ 0 → l.disk ≡ l.initial.disk;
  buffer : length l.buffer ≡ length l.initial.buffer;
  len : length (g.D.Disk.medium l.disk).now ≡ length (g.D.Disk.medium l.initial.disk).now;
  faults : (g.D.Disk.medium l.disk).faults ≡ (g.D.Disk.medium l.initial.disk).faults;
  whole : l.done < length l.messages → l.done % 64 ≡ 0;
  takes : g.D.Disk.keeps → moment_number (g.D.Disk.medium l.disk) ≡ moment_number (g.D.Disk.medium l.initial.disk) + 4 * batch_count l.done;
  so_far : g.D.Disk.keeps → SoFar (layout_of l.self.geometry) l.self.number l.used (records_of (take l.done l.messages)) (records_of l.messages)
      (g.D.Disk.medium l.initial.disk) (g.D.Disk.medium l.disk);
}

abbrev pub decreases-loop-done : goal.decreases-loop-done
decreases-loop-done g l = length l.messages - l.done
