-- Sorting by ticket moves a message only past unrelated ones, and its step commutes with theirs.
use Rattle.meaning.proofs.ByTicket.{in_order-by_ticket, permutation-by_ticket, same_by_ticket}
use Rattle.meaning.proofs.laws.order_by_ticket.Goals as goal

pub returns-clause-in_order : goal.returns-clause-in_order
returns-clause-in_order c = in_order-by_ticket

pub returns-clause-same_messages : goal.returns-clause-same_messages
returns-clause-same_messages c = permutation-by_ticket

pub returns-clause-same : goal.returns-clause-same
returns-clause-same c = same_by_ticket
