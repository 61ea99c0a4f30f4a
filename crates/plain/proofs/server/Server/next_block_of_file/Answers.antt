-- The next key in order, from block 0 of the file on, is another file's: so this one has no block.
use Rattle.std.proofs.Common.{sym, ap, ◌∙◌}
use Rattle.plain.proofs.RemovalOrders.{no_block_of_file}
use Rattle.plain.proofs.server.Server.next_block_of_file.Goals as goal
use Rattle.plain.proofs.server.Server.next_block_of_file.Goals.{else-of_a-a-via-then-of_a-a+then-of_v-v+else-of_f-f, else-of_a-a-via-then-of_a-a+else-of_v-v, else-of_a-a-via-else-of_a-a}

pub returns-else-of_a-a-clause-none : goal.returns-else-of_a-a-clause-none
returns-else-of_a-a-clause-none c = no_block_of_file c.args.self.now.blocks (c.range.ensures.in_range tt) c.in_ok-key.ensures.steps
    (elim c.else-of_a-a.branch [
      | else-of_a-a-via-then-of_a-a+then-of_v-v+else-of_f-f w ↦ λ e. w.if-of_f-f.false (ap (λ t. t.2) c.numbers-of_a.ensures ∙ sym (ap (λ t. t.2) e))
      | else-of_a-a-via-then-of_a-a+else-of_v-v w ↦ λ e. w.if-of_v-v.false (ap (λ t. t.1) c.numbers-of_a.ensures ∙ sym (ap (λ t. t.1) e))
      | else-of_a-a-via-else-of_a-a w ↦ λ e. w.if-of_a-a.false (ap (λ t. t.0) c.numbers-of_a.ensures ∙ sym (ap (λ t. t.0) e))
    ])
