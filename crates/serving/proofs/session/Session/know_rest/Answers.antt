-- The lemma on a session at rest.
use Rattle.std.proofs.Common.{◌≡◌, [], subst}
use Rattle.serving.specs.SessionEnds.{IsAtRest}
use Rattle.serving.specs.Session.{SessionView}
use Rattle.serving.proofs.IsAtRest.{retired_at_rest}
use Rattle.serving.proofs.session.Session.know_rest.Goals as goal

pub returns : goal.returns
returns g c = λ why. subst (λ (p : SessionView). IsAtRest p why → p.reorder_buffer.lines ≡ []) c.self.view_is
    (retired_at_rest g.D.Disk.keeps _ _ c.self.invariant.run why)
