-- The nodes so far have the neighbors that they have in new `Links`.
use Rattle.std.proofs.Common.{◌≡◌, ◌<◌, ◌≤◌, ℕ, List, length, slice_index, vec_capacity}
use Rattle.arena.specs.Linked.{next_at_start, previous_at_start}
use Rattle.arena.proofs.links.Links.new.Given as goal

pub record Rows (slots nodes node : ℕ) (next previous : List ℕ) (next_room previous_room : ℕ) : Type 0 where
  pub next_long : length next ≡ node
  pub previous_long : length previous ≡ node
  pub next_fits : nodes ≤ next_room
  pub previous_fits : nodes ≤ previous_room
  pub next_is : (a : ℕ) → a < node → slice_index next a ≡ next_at_start slots a
  pub previous_is : (a : ℕ) → a < node → slice_index previous a ≡ previous_at_start slots a

abbrev pub invariant-loop-node : goal.invariant-loop-node
invariant-loop-node l =
    Rows l.slots l.nodes l.node l.next.items l.previous.items (vec_capacity l.next) (vec_capacity l.previous)
