-- All numbers of the chunk were looked at.
use Rattle.std.proofs.Common.{◌≡◌, ◌∙◌, ◌*◌, ◌-◌, ℕ, ap, arith}
use Rattle.run_queue.specs.RunQueue.{has_room}
use Rattle.run_queue.specs.ReadyTable.{earliest_from, ready_in}
use Rattle.run_queue.specs.declared.ready_table.TheConstants.{CHUNK}
use Rattle.run_queue.proofs.candidates.best_in.Goals as goal

pub returns : goal.returns
returns c =
    let all : c.loop-number.number - CHUNK * c.args.chunk ≡ CHUNK = omega arith in
    c.loop-number.invariant.best
    ∙ ap (λ (n : ℕ). earliest_from (has_room c.args.log_has_room) c.args.ready_table.now (CHUNK * c.args.chunk) n (ready_in c.args.ready_table.now c.args.best)) all
