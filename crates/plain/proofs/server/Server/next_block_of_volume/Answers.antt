-- The next key in order, from file 0 of the volume on, is another volume's: so this one has no block.
use Rattle.std.proofs.Common.{sym, ap, ◌∙◌}
use Rattle.plain.proofs.RemovalOrders.{no_block_of_volume}
use Rattle.plain.proofs.server.Server.next_block_of_volume.Goals as goal
use Rattle.plain.proofs.server.Server.next_block_of_volume.Goals.{else-of_a-a-via-then-of_a-a+else-of_v-v, else-of_a-a-via-else-of_a-a}

pub returns-else-of_a-a-clause-none : goal.returns-else-of_a-a-clause-none
returns-else-of_a-a-clause-none c = no_block_of_volume c.args.self.now.blocks (c.range.ensures.in_range tt) c.in_ok-key.ensures.steps
    (elim c.else-of_a-a.branch [
      | else-of_a-a-via-then-of_a-a+else-of_v-v w ↦ λ e. w.if-of_v-v.false (ap (λ t. t.1) c.numbers-of_a.ensures ∙ sym (ap (λ t. t.1) e))
      | else-of_a-a-via-else-of_a-a w ↦ λ e. w.if-of_a-a.false (ap (λ t. t.0) c.numbers-of_a.ensures ∙ sym (ap (λ t. t.0) e))
    ])
