-- What was sent takes no step. Behind it a line can be read, a job is in flight, a checkpoint goes on, or nothing has changed.
use Rattle.std.proofs.Common.{◌≡◌, ap, arith, subst, sym, true≢false, ◌∙◌}
use Rattle.histories.specs.CoreState.{held}
use Rattle.histories.specs.Progress.{points_left}
use Rattle.oplog.proofs.Results.{err_is}
use Rattle.scheduler.specs.CoreView.{CoreView, core_state_of}
use Rattle.serving.specs.DispatchesTo.{NoneInFlight}
use Rattle.serving.specs.SessionSteps.{Advanced, Began, CallsForCheckpoint, CanRead, CheckpointStep, MovedCheckpoint, StandsStill, Waited}
use Rattle.serving.specs.Session.{CanReadLine, SessionView, steps_ahead}
use Rattle.workers.specs.Seats.{DispatchSeatView}
use Rattle.serving.proofs.StepsAhead.{calls_still, steps}
use Rattle.serving.proofs.session.Session.flush_then_wait.Given.{Over}
use Rattle.serving.proofs.session.Session.flush_then_wait.Goals.{In_ok-flush_replies}
use Rattle.serving.proofs.session.Session.flush_then_wait.Goals as goal

to_come : (g : Over) (c : In_ok-flush_replies g) → steps_ahead c.flush_replies.new.self ≡ steps_ahead c.args.self.now
to_come g c = λ i. steps (core_state_of (c.flush_replies.ensures.same.0 i)) (c.flush_replies.ensures.same.2 i).lent

pub advance_or_begin_checkpoint-requires : goal.advance_or_begin_checkpoint-requires
advance_or_begin_checkpoint-requires g c =
    let sent = c.flush_replies.ensures.same in
    record {
      reason = λ asked. calls_still c.flush_replies.new.self c.args.self.now
          (sym (ap (λ (core : CoreView). core.geometry) sent.0), sym (ap (λ (core : CoreView). core_state_of core) sent.0), sym sent.2)
          (sym c.flush_replies.ensures.trigger) (c.requires.reason asked);
    }

-- what was sent gives no reason for a checkpoint
reason_before : (g : Over) (c : In_ok-flush_replies g) → CallsForCheckpoint c.flush_replies.new.self → CallsForCheckpoint c.args.self.now
reason_before g c =
    let sent = c.flush_replies.ensures.same in
    calls_still c.args.self.now c.flush_replies.new.self
    (ap (λ (core : CoreView). core.geometry) sent.0, ap (λ (core : CoreView). core_state_of core) sent.0, sent.2) c.flush_replies.ensures.trigger

steps_from : (g : Over) (c : In_ok-flush_replies g) {new : SessionView} → CheckpointStep c.flush_replies.new.self new → CheckpointStep c.args.self.now new
steps_from g c (Advanced fewer count room) =
    Advanced (fewer ∙ ap (λ (core : CoreView). points_left core.pieces_left) c.flush_replies.ensures.same.0) (count ∙ c.flush_replies.ensures.trigger)
    (room ∙ ap (λ (core : CoreView). core.room) c.flush_replies.ensures.same.0)
steps_from g c (Began reason none n begun fresh) =
    Began (reason_before g c reason) (sym (ap (λ (core : CoreView). core.pieces_left) c.flush_replies.ensures.same.0) ∙ none) n begun (record {
      none_held = sym (ap (λ (core : CoreView). held (core_state_of core)) c.flush_replies.ensures.same.0) ∙ fresh.none_held;
      counted = fresh.counted;
      room = fresh.room;
    })

-- what was sent has changed neither the core nor what is lent
still : (g : Over) (c : In_ok-flush_replies g) → StandsStill c.args.self.now c.flush_replies.new.self
still g c =
    let sent = c.flush_replies.ensures.same in (
      (ap (λ (core : CoreView). core.geometry) sent.0, ap (λ (core : CoreView). core_state_of core) sent.0, sent.2),
      c.flush_replies.ensures.trigger,
    )

pub returns-in_err-flush_replies-clause-session_step : goal.returns-in_err-flush_replies-clause-session_step
returns-in_err-flush_replies-clause-session_step g c = rw (err_is c.from_residual.ensures.1) c.in_err-flush_replies.ensures.step.0

pub returns-then-can_read-clause-session_step : goal.returns-then-can_read-clause-session_step
returns-then-can_read-clause-session_step g c = c.in_ok-flush_replies.ensures.step.0

pub returns-then-can_read-clause-steps : goal.returns-then-can_read-clause-steps
returns-then-can_read-clause-steps g c = omega (arith, to_come g (goal.at.returns-then-can_read-clause-steps g c).In_ok-flush_replies)

pub returns-then-can_read-clause-goes_on : goal.returns-then-can_read-clause-goes_on
returns-then-can_read-clause-goes_on g c _ =
    CanRead (c.can_read.ensures.0 c.if-can_read.true) (still g (goal.at.returns-then-can_read-clause-goes_on g c).In_ok-flush_replies)

pub returns-then-any_lent-clause-session_step : goal.returns-then-any_lent-clause-session_step
returns-then-any_lent-clause-session_step g c =
    let sent = c.in_ok-flush_replies.ensures.step.0 in
    let waited = c.wait_for_worker.ensures.same in
    (ap (λ (p : SessionView). p.read_end) waited ∙ sent.0, ap (λ (p : SessionView). p.output_failed) waited ∙ sent.1)

pub returns-then-any_lent-clause-steps : goal.returns-then-any_lent-clause-steps
returns-then-any_lent-clause-steps g c =
    omega (arith, ap steps_ahead c.wait_for_worker.ensures.same, to_come g (goal.at.returns-then-any_lent-clause-steps g c).In_ok-flush_replies)

pub returns-then-any_lent-clause-goes_on : goal.returns-then-any_lent-clause-goes_on
returns-then-any_lent-clause-goes_on g c _ =
    let waited = c.wait_for_worker.ensures.same in
    let same = waited ∙ sym c.self.view_is in
    Waited (λ none. true≢false (sym c.if-any_lent.true ∙ c.any_lent.ensures.1 (subst (λ (p : SessionView). NoneInFlight p.dispatch_seat.lent) same none)))
    (ap (λ (p : SessionView). p.reply_buffer) waited ∙ c.in_ok-flush_replies.ensures.flushed.0)
    (λ can. true≢false (sym (c.can_read.ensures.1 (subst CanReadLine waited can)) ∙ c.if-can_read.false))
    (subst (λ (p : SessionView). StandsStill c.args.self.now p) (sym waited) (still g (goal.at.returns-then-any_lent-clause-goes_on g c).In_ok-flush_replies))

pub returns-in_err-stepped-clause-session_step : goal.returns-in_err-stepped-clause-session_step
returns-in_err-stepped-clause-session_step g c =
    let stepped = c.in_err-stepped.ensures.session_step in
    rw (err_is c.from_residual-in_err-stepped.ensures.1) (stepped.0 ∙ c.in_ok-flush_replies.ensures.step.0.0, stepped.1)

pub returns-then-stepped-clause-session_step : goal.returns-then-stepped-clause-session_step
returns-then-stepped-clause-session_step g c =
    let sent = c.in_ok-flush_replies.ensures.step.0 in
    let stepped = c.in_ok-stepped.ensures.session_step in
    (stepped.0 ∙ sent.0, stepped.1 ∙ sent.1)

pub returns-then-stepped-clause-steps : goal.returns-then-stepped-clause-steps
returns-then-stepped-clause-steps g c = omega (arith, c.in_ok-stepped.ensures.steps, to_come g (goal.at.returns-then-stepped-clause-steps g c).In_ok-flush_replies)

pub returns-then-stepped-clause-goes_on : goal.returns-then-stepped-clause-goes_on
returns-then-stepped-clause-goes_on g c _ =
    MovedCheckpoint (steps_from g (goal.at.returns-then-stepped-clause-goes_on g c).In_ok-flush_replies (c.in_ok-stepped.ensures.moved c.if-stepped.true))

pub returns-else-stepped-clause-session_step : goal.returns-else-stepped-clause-session_step
returns-else-stepped-clause-session_step g c =
    let sent = c.in_ok-flush_replies.ensures.step.0 in
    let stepped = c.in_ok-stepped.ensures.session_step in
    (stepped.0 ∙ sent.0, stepped.1 ∙ sent.1)

pub returns-else-stepped-clause-idle : goal.returns-else-stepped-clause-idle
returns-else-stepped-clause-idle g c _ =
    let sent = c.flush_replies.ensures.same in
    let stays = c.in_ok-stepped.ensures.stays c.if-stepped.false in
    let none = subst (λ (p : SessionView). NoneInFlight p.dispatch_seat.lent) c.self.view_is (c.any_lent.ensures.0 c.if-any_lent.false) in
    record {
      flushed = c.in_ok-stepped.ensures.same.1 ∙ c.in_ok-flush_replies.ensures.flushed.0;
      lines = c.in_ok-stepped.ensures.same.0 ∙ sent.1;
      keeps = (
        stays.0.0.0 ∙ ap (λ (core : CoreView). core.geometry) sent.0,
        stays.0.0.1 ∙ ap (λ (core : CoreView). core_state_of core) sent.0,
        stays.0.0.2 ∙ sent.2,
      );
      trigger = stays.0.1 ∙ c.flush_replies.ensures.trigger;
      pieces_left = stays.1;
      none_in_flight = subst (λ (s : DispatchSeatView). NoneInFlight s.lent) (sym stays.0.0.2) none;
      none_asked = stays.2;
    }

pub returns-else-stepped-clause-steps : goal.returns-else-stepped-clause-steps
returns-else-stepped-clause-steps g c = omega (arith, c.in_ok-stepped.ensures.steps, to_come g (goal.at.returns-else-stepped-clause-steps g c).In_ok-flush_replies)
