-- All others that are held stay as they were.
use Rattle.std.proofs.Common.{sym, subst}
use Rattle.run_queue.specs.HeldMessages.{HeldMessages}
use Rattle.run_queue.specs.Invariant.{AreQueued}
use Rattle.run_queue.proofs.QueueCalls.{messages-freed}
use Rattle.run_queue.proofs.messages.Messages.free.Goals as goal

pub invariant_of-self : goal.invariant_of-self
invariant_of-self c =
    subst (λ (h : HeldMessages). AreQueued c.self.inside.geometry c.self.inside.slots c.self.inside.waiting h) (sym c.free.ensures.freed)
    (messages-freed c.args.number c.self.invariant)
