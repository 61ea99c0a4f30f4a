-- The line of a ticket is as far behind the first line as the ticket is above the first; no other line has it.
use Rattle.std.proofs.lemmas.Grind.{common_steps}
use Rattle.std.proofs.Common.{ℕ, Option, arith, subst, sym}
use Rattle.reorder_buffer.specs.ReorderBuffer.{IsAnsweredAt}
use Rattle.reorder_buffer.proofs.Order.{changes_one, greater_left, smaller_left}
use Rattle.reorder_buffer.proofs.reorder_buffer.index_of.Goals as goal

pub returns-in_err-index : goal.returns-in_err-index
returns-in_err-index c =
    let n = c.requires.0 in
    let is = c.in_ok-first_ticket.ensures n c.requires.1 in
    subst (λ (o : Option ℕ). IsAnsweredAt c.args.ticket o c.args.ticketed.now.items) (sym c.from_residual-in_err-index.ensures)
    (λ reply. greater_left c.args.ticket reply n c.args.ticketed.now.items (omega (arith, c.in_err-index.ensures, is)) c.requires.1)

pub returns-then-index-len : goal.returns-then-index-len
returns-then-index-len c = grind (arith, common_steps, changes_one)

pub returns-else-index-len : goal.returns-else-index-len
returns-else-index-len c reply =
    let n = c.requires.0 in
    let is = c.in_ok-first_ticket.ensures n c.requires.1 in
    let at = c.in_ok-index.ensures in
    let many = c.len.ensures in
    let ok = c.args.ticketed.now.ok in
    let test = c.if-index-len.false in
    smaller_left c.args.ticket reply n c.args.ticketed.now.items (omega (arith, is, at, test, many, ok)) c.requires.1
