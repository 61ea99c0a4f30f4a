-- No message waits, and no entry is set.
use Rattle.std.proofs.Common.{None}
use Rattle.run_queue.proofs.Chains.{default_at}
use Rattle.run_queue.proofs.run_queue.RunQueue.new.Goals as goal

pub invariant_of-result : goal.invariant_of-result
invariant_of-result c = rw (c.in_ok-messages.ensures, c.in_ok-ready_table.ensures) (λ n. default_at 357 n None)
