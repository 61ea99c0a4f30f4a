-- Each piece was looked at; where none is dirty, their count is 0.
use Rattle.std.proofs.Common.{arith}
use Rattle.checkpoint.proofs.DirtyPieces.{clear_next, none_counted}
use Rattle.checkpoint.proofs.dirty.first_dirty.Goals as goal

pub loop-n-preserved : goal.loop-n-preserved
loop-n-preserved c = clear_next c.loop-n.n c.args.dirty.now c.if-dirty-n.false c.loop-n.invariant

pub returns-clause-none : goal.returns-clause-none
returns-clause-none c = λ none. none_counted c.args.dirty.now (λ i few. c.loop-n.invariant i (omega (arith, few, c.loop-n-test.false)))
