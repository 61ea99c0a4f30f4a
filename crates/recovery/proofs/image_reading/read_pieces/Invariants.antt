-- The pieces so far were good and are in the tree, where a volume without any of them has no block; the device was only read.
use Rattle.std.proofs.Common.{◌≡◌, ◌+◌, length}
use Rattle.recovery.proofs.PieceWalk.{AreFree}
use Rattle.disk.specs.Device.{moments}
use Rattle.image.specs.Image.{AreGood, decoded_before, version_in}
use Rattle.image.specs.Pieces.{piece_at}
use Rattle.device_map.specs.Layout.{image_part, layout_of, part_bytes, part_at}
use Rattle.parcel.specs.Tree.{IsWholeTree, state_in}
use Rattle.recovery.proofs.image_reading.read_pieces.Given as goal

abbrev pub invariant-loop-n : goal.invariant-loop-n
invariant-loop-n g l = record {
  whole : IsWholeTree l.tree;
  geometry : l.tree.geometry ≡ l.initial.tree.geometry;
  at : l.at ≡ part_at (layout_of l.initial.tree.geometry) (image_part l.number) + piece_at l.initial.tree.geometry l.n;
  free : AreFree l.initial.tree.geometry l.n (state_in l.tree);
  len : length (g.D.Disk.medium l.disk).now ≡ length (g.D.Disk.medium l.initial.disk).now;
  faults : (g.D.Disk.medium l.disk).faults ≡ (g.D.Disk.medium l.initial.disk).faults;
  untouched : g.D.Disk.keeps → moments (g.D.Disk.medium l.disk) ≡ moments (g.D.Disk.medium l.initial.disk);
  decoded : g.D.Disk.keeps → let bytes = part_bytes (layout_of l.initial.tree.geometry) (image_part l.number) (g.D.Disk.medium l.initial.disk).now in
      state_in l.tree ≡ decoded_before (version_in bytes) l.initial.tree.geometry bytes l.n;
  good : g.D.Disk.keeps → AreGood l.initial.tree.geometry (part_bytes (layout_of l.initial.tree.geometry) (image_part l.number) (g.D.Disk.medium l.initial.disk).now) l.n;
}
