-- Inner: The orders of the keys: by aggregate, then volume, file and block.
use Rattle.std.specs.Ordering.{nat_cmp, ordering_then}
use Rattle.std.specs.declared.cmp.Ordering.{Ordering}
use Rattle.meaning.specs.State.{VolumeKey, FileKey, BlockKey}

abbrev pub volume_order : VolumeKey → VolumeKey → Ordering
volume_order x y = ordering_then (nat_cmp x.0 y.0) (nat_cmp x.1 y.1)

abbrev pub file_order : FileKey → FileKey → Ordering
file_order x y = ordering_then (volume_order (x.0, x.1) (y.0, y.1)) (nat_cmp x.2 y.2)

abbrev pub block_order : BlockKey → BlockKey → Ordering
block_order x y = ordering_then (file_order (x.0, x.1, x.2) (y.0, y.1, y.2)) (nat_cmp x.3 y.3)
