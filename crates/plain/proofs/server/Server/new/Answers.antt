-- Empty maps are the empty state, in which each stripe has no blocks.
use Rattle.std.proofs.Common.{arith, ◌≡◌}
use Rattle.std.proofs.lemmas.Grind.{common_steps}
use Rattle.std.specs.Map.{lookup}
use Rattle.std.specs.BTreeMap.{is_at}
use Rattle.meaning.specs.State.{empty}
use Rattle.meaning.specs.KeyOrders.{volume_order, block_order}
use Rattle.plain.specs.Server.{server_state, state_of}
use Rattle.plain.specs.declared.server.Server.{Server}
use Rattle.plain.proofs.ServerCounts.{none_counted}
use Rattle.meaning.proofs.IsState.{empty_is_state}
use Rattle.plain.proofs.server.Server.new.Goals as goal

-- the server that is made
abbrev made_of : goal.After-new-3 → Server
made_of c = record { volumes = c.new.result; blocks = c.new-2.result; block_counts = c.new-3.result }

is_empty : (c : goal.After-new-3) → server_state (made_of c) ≡ empty
is_empty c = λ i. state_of (λ k. lookup (is_at (volume_order k)) (c.new.ensures.empty i)) (λ k. lookup (is_at (block_order k)) (c.new-2.ensures.empty i))

pub returns-clause-sound : goal.returns-clause-sound
returns-clause-sound c = grind (arith, common_steps, is_empty, empty_is_state, none_counted)
