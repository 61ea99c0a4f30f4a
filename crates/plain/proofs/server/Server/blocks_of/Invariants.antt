-- The total so far and the numbers of the stripes still to come are the blocks of the volume.
use Rattle.std.proofs.Common.{◌≡◌, ℕ, ◌+◌}
use Rattle.meaning.specs.State.{FileKey, block_count}
use Rattle.plain.specs.Server.{server_state}
use Rattle.plain.proofs.Walks.{total}
use Rattle.plain.proofs.server.Server.blocks_of.Given as goal

abbrev pub invariant-loop-count : goal.invariant-loop-count
invariant-loop-count l = l.total + total (λ (e : FileKey × ℕ). e.1) l.count-iterator ≡ block_count l.g (server_state l.self) l.a l.v
