-- The entry of a number is emptied, if a message is held there.
use Rattle.std.proofs.lemmas.Grind.{common_steps}
use Rattle.std.proofs.Common.{arith}
use Rattle.run_queue.proofs.HeldMessages.{stand-free, free-view, found-past, without-none}
use Rattle.run_queue.proofs.holders.Holders.free.Goals as goal

pub returns-in_err-queued-clause-freed : goal.returns-in_err-queued-clause-freed
returns-in_err-queued-clause-freed c = grind (arith, common_steps, without-none)

pub index_mut-requires : goal.index_mut-requires
index_mut-requires c = grind (arith, common_steps, found-past)

pub invariant_of-self : goal.invariant_of-self
invariant_of-self c = stand-free c.self.inside.entries.items c.args.number c.self.invariant

pub returns-clause-freed : goal.returns-clause-freed
returns-clause-freed c = rw (← c.self.view_is) (free-view c.self.inside.entries.items c.args.number c.self.invariant)
