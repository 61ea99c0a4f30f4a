-- What a session keeps true says so.
use Rattle.serving.proofs.SessionInvariant.{kill_safe}
use Rattle.serving.proofs.session.Session.know_kill_safe.Goals as goal

pub returns : goal.returns
returns g c = rw (← c.self.view_is) (kill_safe g.D.Disk.keeps _ _ c.self.invariant.run c.know_recovery.ensures.no_doubt c.know_recovery.ensures.now)
