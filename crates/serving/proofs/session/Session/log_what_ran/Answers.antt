-- The session keeps its invariant; and the lemmas on logs.
use Rattle.std.proofs.Common.{◌≡◌, ◌+◌, ap, refl, ◌∙◌}
use Rattle.scheduler.proofs.IsCallEvent.{log_called}
use Rattle.scheduler.specs.CoreView.{core_state_of}
use Rattle.serving.specs.Session.{SessionView, steps_ahead}
use Rattle.serving.proofs.StepsAhead.{logged_some, steps}
use Rattle.serving.proofs.SentLines.{at_ok, log_of_none, or_halts}
use Rattle.serving.proofs.Segments.{log_is_quiet}
use Rattle.serving.proofs.SessionInvariant.{holds_of, on_machine}
use Rattle.serving.proofs.session.Session.log_what_ran.Goals as goal

pub invariant_of-self : goal.invariant_of-self
invariant_of-self g c =
    let old = c.self.inside.core in
    let new = c.log.new.self in
    let n = c.slots-count.result in
    let quiet = log_is_quiet g.D.Disk.keeps old new c.log.ensures.geometry c.self.inside.trigger n c.log.result c.log.ensures.any_moment
    (log_called old.geometry (core_state_of old) (core_state_of new) n c.log.result c.log.ensures.state_after) c.log.ensures.counts c.log.ensures.untouched in
    record { run = on_machine g.D.Disk.keeps _ _ c.self.invariant.run _ _ (quiet _ (holds_of g.D.Disk.keeps _ _ c.self.invariant.run)) refl refl; bench = c.self.invariant.bench }

pub returns-clause-none : goal.returns-clause-none
returns-clause-none g c =
    let old = c.self.inside.core in
    let new = c.log.new.self in
    or_halts _ c.log.result c.or_halt.result c.or_halt.ensures
    (at_ok (λ count. count ≡ 0 → core_state_of new ≡ core_state_of old) _ c.log.result (λ count none zero. (
      c.log.ensures.geometry ∙ ap (λ (p : SessionView). p.core.geometry) c.self.view_is,
      none zero ∙ ap (λ (p : SessionView). core_state_of p.core) c.self.view_is,
      ap (λ (p : SessionView). p.dispatch_seat) c.self.view_is,
    )) (log_of_none old.geometry (core_state_of old) (core_state_of new) c.slots-count.result c.log.result c.log.ensures.state_after))

pub returns-clause-steps : goal.returns-clause-steps
returns-clause-steps g c =
    let old = c.self.inside in
    or_halts _ c.log.result c.or_halt.result c.or_halt.ensures
    (at_ok (λ count. steps (core_state_of c.log.new.self) old.dispatch_seat.lent + count ≡ steps (core_state_of old.core) old.dispatch_seat.lent) _ c.log.result
    (λ count less. less ∙ ap steps_ahead c.self.view_is)
    (logged_some old.core.geometry (core_state_of old.core) (core_state_of c.log.new.self) old.dispatch_seat.lent c.slots-count.result c.log.result c.log.ensures.state_after))
