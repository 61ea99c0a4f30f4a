-- Inner: The buffers of a journal: room for an image, and flags for each of its pieces.
use Rattle.std.specs.Prelude.{◌≡◌, length}
use Rattle.affinity.specs.declared.geometry.Geometry.{Geometry}
use Rattle.device_map.specs.Layout.{image_size}
use Rattle.image.specs.Pieces.{piece_count}
use Rattle.checkpoint.specs.declared.journal.Buffers.{Buffers}

-- They have the sizes that this geometry asks for.
pub record FitBuffers (g : Geometry) (b : Buffers) : Type 0 where
  pub snapshot : length b.snapshot.items ≡ image_size g
  pub named_dirty : length b.named_dirty.items ≡ piece_count g
  pub other_dirty : length b.other_dirty.items ≡ piece_count g
  pub pending : length b.pending.items ≡ piece_count g

-- No flag has changed, nor the size of the snapshot.
pub record KeepsBuffers (old new : Buffers) : Type 0 where
  pub size : length new.snapshot.items ≡ length old.snapshot.items
  pub flags : new ≡ record old { snapshot = new.snapshot }
