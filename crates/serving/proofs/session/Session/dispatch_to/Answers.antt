-- The lemmas on what is dispatched; and the session keeps its invariant.
use Rattle.std.proofs.Common.{◌≡◌, ap, inl, inr, subst, sym, ◌∙◌, ⊎_elim, refl}
use Rattle.std.specs.Prelude.{is_none, position}
use Rattle.scheduler.specs.CoreView.{core_state_of}
use Rattle.serving.specs.Checkpoints.{IsDue}
use Rattle.serving.specs.DispatchesTo.{DispatchesTo}
use Rattle.serving.specs.View.{session_view}
use Rattle.serving.specs.SessionSteps.{HasMoved}
use Rattle.serving.specs.Session.{SessionView}
use Rattle.serving.proofs.StepsAhead.{dispatched}
use Rattle.serving.proofs.DispatchesTo.{as_many, sends}
use Rattle.serving.proofs.SessionInvariant.{holds_of, on_machine}
use Rattle.serving.proofs.session.Session.dispatch_to.Goals as goal

pub invariant_of-self : goal.invariant_of-self
invariant_of-self g c =
    let old = c.self.inside in
    let lent = old.dispatch_seat.lent in
    let granted = c.grant-granted.ensures in
    let first = ap (λ (p : SessionView). position is_none p.dispatch_seat.lent) c.self.view_is ∙ c.requires.first in
    let went = c.offer_granted.ensures.dispatches _ _ _ granted.state_after in
    let quiet = sends g.D.Disk.keeps old.core c.grant-granted.new.self lent c.know_recovery.ensures.no_doubt c.know_recovery.ensures.now granted.geometry
    granted.untouched (holds_of g.D.Disk.keeps _ _ c.self.invariant.run) c.args.k first old.trigger
    (subst (λ (p : SessionView). IsDue p.trigger p.core.pieces_left → ⊥) (sym c.self.view_is) c.requires.not_due) _ _ went in
    record {
      run = on_machine g.D.Disk.keeps _ _ c.self.invariant.run _ _ quiet c.offer_granted.ensures.bench (as_many _ c.args.k _ _ lent _ _ went);
      bench = c.offer_granted.ensures.bench ∙ c.self.invariant.bench;
    }

pub returns-clause-moves : goal.returns-clause-moves
returns-clause-moves g c =
    let old = c.self.inside in
    let first = ap (λ (p : SessionView). position is_none p.dispatch_seat.lent) c.self.view_is ∙ c.requires.first in
    let less = dispatched old.core.geometry c.args.k _ _ old.dispatch_seat.lent _ _ first (c.offer_granted.ensures.dispatches _ _ _ c.grant-granted.ensures.state_after) in
    let new = session_view g.R.Read.remaining g.L.ReplySink.sent g.L.ReplySink.sent_at (record old { core = c.grant-granted.new.self; dispatch_seat = c.offer_granted.new.dispatch_seat }) in
    subst (λ (p : SessionView). HasMoved p new) c.self.view_is (record {
      moved = ⊎_elim inl (λ (same : (core_state_of c.grant-granted.new.self ≡ core_state_of old.core) × (c.offer_granted.new.dispatch_seat.lent ≡ old.dispatch_seat.lent)).
          inr (c.grant-granted.ensures.geometry, same.0, λ i. record { bench = c.offer_granted.ensures.bench i; lent = same.1 i })) less.0;
      pieces_left = less.1;
      trigger = refl;
      as_before = (refl, refl);
      unread = (refl, refl);
    })

pub returns-clause-dispatches : goal.returns-clause-dispatches
returns-clause-dispatches g c =
    let new = c.grant-granted.new.self in
    subst (λ (p : SessionView). DispatchesTo p.core.geometry c.args.k (core_state_of p.core) p.dispatch_seat.lent (core_state_of new) c.offer_granted.new.dispatch_seat.lent c.offer_granted.result)
    c.self.view_is (c.offer_granted.ensures.dispatches _ _ _ c.grant-granted.ensures.state_after)
