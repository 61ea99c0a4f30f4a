-- The flags show where something is lent, so the first that is down is the first free place.
use Rattle.std.proofs.Common.{ap, ◌∙◌, position, not, is_none}
use Rattle.workers.specs.Seats.{DispatchSeatView}
use Rattle.workers.proofs.Places.{first_free_is_down}
use Rattle.workers.proofs.seats.DispatchSeat.first_free.Goals as goal

pub returns : goal.returns
returns c = c.first_down.ensures ∙ (ap (position not) c.deref.ensures.value ∙ (first_free_is_down _ _ c.self.invariant.flagged ∙ ap (λ (d : DispatchSeatView). position is_none d.lent) c.self.view_is))
