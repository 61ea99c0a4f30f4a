-- Statement for engineers: The fields of a `ReorderBuffer` as contracts see them, and what it keeps true of them.
use Rattle.std.specs.Prelude.{◌≡◌, ◌≤◌, length}
use Rattle.std.specs.VecDeque.{deque_capacity}
use Rattle.reorder_buffer.specs.ReorderBuffer.{AreConsecutive, ReorderBufferView, ticketed_among, lines_of}
use Rattle.reorder_buffer.specs.declared.reorder_buffer.ReorderBuffer.TheInside.{Inside}

abbrev pub buffer_view : Inside → ReorderBufferView
buffer_view r = record { lines = lines_of r.kinds.items r.ticketed.items; slots = r.slots }

pub record IsReorderBuffer (r : Inside) : Type 0 where
  pub room : r.slots ≤ deque_capacity r.kinds
  pub room_beside : r.slots ≤ deque_capacity r.ticketed
  pub most : length r.kinds.items ≤ r.slots
  pub among : ticketed_among r.kinds.items ≡ length r.ticketed.items
  pub consecutive : AreConsecutive r.ticketed.items
