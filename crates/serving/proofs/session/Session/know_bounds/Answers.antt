-- The session's invariant, and what its core keeps true.
use Rattle.std.proofs.Common.{subst}
use Rattle.serving.specs.Session.{SessionView}
use Rattle.serving.specs.SessionSteps.{IsOfStart}
use Rattle.serving.specs.Turns.{IsInBounds}
use Rattle.serving.proofs.InBounds.{in_bounds, of_start}
use Rattle.serving.proofs.session.Session.know_bounds.Goals as goal

pub returns-clause-bounds : goal.returns-clause-bounds
returns-clause-bounds g c = subst IsInBounds c.self.view_is (in_bounds g.D.Disk.keeps _ _ c.self.invariant.run c.know_recovery.ensures.few_pieces)

pub returns-clause-of_start : goal.returns-clause-of_start
returns-clause-of_start g c = subst (λ (p : SessionView). IsOfStart g.L.ReplySink.start p) c.self.view_is (of_start g.D.Disk.keeps _ _ c.self.invariant.run)
