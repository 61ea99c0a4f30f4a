-- There is one kind for each line.
use Rattle.std.proofs.Common.{arith}
use Rattle.reorder_buffer.proofs.Lines.{length-lines}
use Rattle.reorder_buffer.proofs.reorder_buffer.ReorderBuffer.len.Goals as goal

pub returns-clause-len : goal.returns-clause-len
returns-clause-len c =
    let k = c.self.inside in
    let lines = length-lines k.kinds.items k.ticketed.items k.slots c.args.self.now c.self.view_is c.self.invariant.among in
    let many = c.len.ensures in
    let ok = k.kinds.ok in
    omega (arith, lines, many, ok)
