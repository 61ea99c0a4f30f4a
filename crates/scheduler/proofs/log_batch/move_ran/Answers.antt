-- Each iteration moves one more message, and those that still ran and aren't logged are the ones behind it.
use Rattle.std.proofs.Common.{◌<◌, sym, subst, length, arith, List, ℕ}
use Rattle.arena.specs.ArenaView.{chain_at}
use Rattle.scheduler.proofs.Lists.{left_over}
use Rattle.scheduler.proofs.HasLogged.{none_logged, one_more_logged}
use Rattle.scheduler.proofs.log_batch.move_ran.Goals as goal
use Rattle.scheduler.specs.declared.core_memory.TheConstants.{RAN}

pub loop-init : goal.loop-init
loop-init c = none_logged c.args.slots.now c.requires.chains

pub move_first-requires-clause-some : goal.move_first-requires-clause-some
move_first-requires-clause-some c = subst (λ (l : List ℕ). 0 < length l) (sym c.loop.invariant.ran)
    (left_over c.loop.counter (chain_at c.args.slots.now RAN) (let low = c.loop-test.true in let few = c.requires.count in omega (arith, low, few)))

pub loop-preserved : goal.loop-preserved
loop-preserved c = one_more_logged c.loop.counter c.args.slots.now c.loop.slots c.move_first.new.slots c.loop.invariant c.move_first.ensures
