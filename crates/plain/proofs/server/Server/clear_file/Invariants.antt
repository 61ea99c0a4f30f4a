-- Apart from blocks of this file the state is as it was, and the counts are right. Each iteration lowers the number of blocks.
use Rattle.std.proofs.Common.{◌≡◌}
use Rattle.std.specs.BTreeMap.{btree_map_len}
use Rattle.meaning.specs.State.{is_block_of_file}
use Rattle.plain.specs.Server.{server_state, IsConsistent}
use Rattle.meaning.specs.Removals.{without_blocks}
use Rattle.plain.proofs.server.Server.clear_file.Given as goal

abbrev pub invariant-loop-b : goal.invariant-loop-b
invariant-loop-b l = record {
  sound : IsConsistent l.g l.self;
  same : without_blocks (is_block_of_file l.a l.v l.f) (server_state l.self) ≡ without_blocks (is_block_of_file l.a l.v l.f) (server_state l.initial.self);
}

abbrev pub decreases-loop-b : goal.decreases-loop-b
decreases-loop-b l = btree_map_len l.self.blocks
