-- Each message that is dispatched takes a free place, so the loop ends; and no checkpoint becomes due meanwhile.
use Rattle.std.proofs.Common.{ℕ, List, Option, Some, ap, set, subst, sym, arith, ◌∙◌}
use Rattle.std.specs.Prelude.{count_by, is_none, position}
use Rattle.parcel.specs.JobRun.{JobView}
use Rattle.serving.specs.Checkpoints.{IsDue}
use Rattle.serving.specs.Session.{SessionView}
use Rattle.serving.specs.declared.checkpoints.CheckpointTrigger.{CheckpointTrigger}
use Rattle.serving.proofs.Places.{fewer_free}
use Rattle.serving.proofs.session.Session.dispatch_all.Goals as goal

pub loop-k-smaller : goal.loop-k-smaller
loop-k-smaller g c =
    let went = c.in_default-dispatch_to.ensures.dispatches in
    let filled = set c.loop-k.self.dispatch_seat.lent c.in-Some.k (Some went.0) in
    let now = ap (λ (lent : List (Option JobView)). count_by is_none lent) {y = filled} went.2 in
    let first = ap (λ (p : SessionView). position is_none p.dispatch_seat.lent) (sym c.self.view_is) ∙ sym c.in-Some.ensures in
    let one = fewer_free c.loop-k.self.dispatch_seat.lent c.in-Some.k went.0 first in
    omega (arith, now, one)

pub dispatch_to-requires-clause-not_due : goal.dispatch_to-requires-clause-not_due
dispatch_to-requires-clause-not_due g c due =
    let moved = c.loop-k.invariant in
    c.requires (subst (λ (trigger : CheckpointTrigger). IsDue trigger c.args.self.now.core.pieces_left) moved.trigger
    (subst (λ (left : Option ℕ). IsDue c.loop-k.self.trigger left) moved.pieces_left due))
