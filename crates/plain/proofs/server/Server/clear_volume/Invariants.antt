-- Apart from blocks of this volume the state is as it was, and the counts are right. Each iteration lowers the number of blocks.
use Rattle.std.proofs.Common.{◌≡◌}
use Rattle.std.specs.BTreeMap.{btree_map_len}
use Rattle.meaning.specs.State.{is_block_of}
use Rattle.plain.specs.Server.{server_state, IsConsistent}
use Rattle.meaning.specs.Removals.{without_blocks}
use Rattle.plain.proofs.server.Server.clear_volume.Given as goal

abbrev pub invariant-loop-f : goal.invariant-loop-f
invariant-loop-f l = record {
  sound : IsConsistent l.g l.self;
  same : without_blocks (is_block_of l.a l.v) (server_state l.self) ≡ without_blocks (is_block_of l.a l.v) (server_state l.initial.self);
}

abbrev pub decreases-loop-f : goal.decreases-loop-f
decreases-loop-f l = btree_map_len l.self.blocks
