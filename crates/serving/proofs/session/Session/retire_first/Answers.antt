-- The answer to the oldest line waits to be sent, if it is known; and the session keeps its invariant.
use Rattle.serving.proofs.SessionInvariant.{on_retire_front}
use Rattle.serving.proofs.session.Session.retire_first.Goals as goal

pub invariant_of-self : goal.invariant_of-self
invariant_of-self g c =
    let retired = c.retire_front-retired.ensures in
    record { run = on_retire_front g.D.Disk.keeps _ _ c.self.invariant.run _ _ _ retired.next retired.retired retired.lines retired.slots; bench = c.self.invariant.bench }
