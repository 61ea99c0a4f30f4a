-- What was logged and answered is so many steps less to come; behind it lines are retired and answers sent, which takes no step.
use Rattle.std.proofs.Common.{◌≡◌, ◌≤◌, ℕ, zero, suc, ap, arith, cond, length, nat_lt, refl, true≢false, ◌∙◌}
use Rattle.std.proofs.lemmas.Bool.{ltb-false, lt-ltb}
use Rattle.std.specs.Prelude.{IsFalse}
use Rattle.histories.specs.CoreState.{CoreState}
use Rattle.oplog.proofs.Results.{err_is}
use Rattle.reorder_buffer.specs.ReorderBuffer.{ReorderBufferView, can_retire}
use Rattle.scheduler.specs.CoreView.{CoreView, core_state_of}
use Rattle.serving.specs.SessionSteps.{HasLoggedNothing, KeepsReadEndAndOutputFailed}
use Rattle.serving.specs.Session.{steps_ahead}
use Rattle.serving.proofs.StepsAhead.{steps}
use Rattle.serving.proofs.session.Session.log_and_answer.Given.{Over}
use Rattle.serving.proofs.session.Session.log_and_answer.Goals.{In_ok-retire_ready}
use Rattle.serving.proofs.session.Session.log_and_answer.Goals as goal

some_logged : (count : ℕ) → cond (nat_lt 0 count) 1 0 ≤ count
some_logged zero = omega arith
some_logged (suc n) = rw (lt-ltb 0 (suc n) (omega arith)) (omega arith)

-- the lines that are next are retired
as_before : (g : Over) (c : In_ok-retire_ready g) → KeepsReadEndAndOutputFailed c.args.self.now c.retire_ready.new.self
as_before g c =
    let retired = c.in_ok-retire_ready.ensures.step.0 in
    let answered = c.loop-moved-test.ensures.as_before in
    let was = c.loop-moved.invariant.as_before in
    let logged = c.in_ok-moved.ensures.session_step in
    (retired.0 ∙ answered.0 ∙ was.0 ∙ logged.0, retired.1 ∙ answered.1 ∙ was.1 ∙ logged.1)

to_come : (g : Over) (c : In_ok-retire_ready g) → steps_ahead c.retire_ready.new.self ≡ steps_ahead c.loop-moved.self
to_come g c =
    let same = c.retire_ready.ensures.same in
    let stays = (c.loop-moved-test.ensures.none refl).1 in
    λ i. steps ((ap (λ (core : CoreView). core_state_of core) same.0 ∙ stays.1) i) ((same.1 ∙ stays.2) i).lent

logged_nothing : (g : Over) (c : In_ok-retire_ready g) → IsFalse c.loop-moved.moved → HasLoggedNothing c.args.self.now c.retire_ready.new.self
logged_nothing g c none =
    let same = c.retire_ready.ensures.same in
    let answered = c.loop-moved-test.ensures.none refl in
    let was = c.loop-moved.invariant.none none in
    let state = ap (λ (core : CoreView). core_state_of core) same.0 ∙ answered.1.1 in
    record {
      none_ran = ap (λ (w : CoreState). w.ran) state ∙ was.0;
      none_logged = ap (λ (core : CoreView). core.logged) same.0 ∙ answered.0;
      works = ap (λ (w : CoreState). w.failed) state ∙ was.1;
      keeps = (
        ap (λ (core : CoreView). core.geometry) same.0 ∙ answered.1.0 ∙ was.2.0,
        state ∙ was.2.1,
        same.1 ∙ answered.1.2 ∙ was.2.2,
      );
      trigger = c.retire_ready.ensures.trigger ∙ c.loop-moved-test.ensures.trigger refl ∙ c.loop-moved.invariant.trigger none;
    }

pub loop-moved-init : goal.loop-moved-init
loop-moved-init g c =
    let logged = c.in_ok-moved.ensures in
    record {
      as_before = (refl, refl);
      steps = omega (arith, some_logged c.in_ok-moved.field-0, logged.steps);
      none = λ few. (logged.logged, logged.works.1, logged.none (omega (arith, ltb-false 0 c.in_ok-moved.field-0 few)));
      trigger = λ few. logged.trigger;
    }

pub loop-moved-smaller : goal.loop-moved-smaller
loop-moved-smaller g c = omega (arith, ap length c.in_ok-advance_checkpoint.ensures.same.2, c.loop-moved-test.ensures.fewer refl)

pub loop-moved-preserved : goal.loop-moved-preserved
loop-moved-preserved g c =
    let went = c.in_ok-advance_checkpoint.ensures in
    let answered = c.loop-moved-test.ensures in
    let was = c.loop-moved.invariant in
    record {
      as_before = (went.session_step.0 ∙ answered.as_before.0 ∙ was.as_before.0, went.session_step.1 ∙ answered.as_before.1 ∙ was.as_before.1);
      steps = omega (arith, went.steps, answered.steps refl, was.steps);
      none = λ f. absurd (true≢false f);
      trigger = λ f. absurd (true≢false f);
    }

pub returns-in_err-moved-clause-session_step : goal.returns-in_err-moved-clause-session_step
returns-in_err-moved-clause-session_step g c = rw (err_is c.from_residual.ensures.1) c.in_err-moved.ensures.session_step

pub returns-in_err-advance_checkpoint-clause-session_step : goal.returns-in_err-advance_checkpoint-clause-session_step
returns-in_err-advance_checkpoint-clause-session_step g c =
    let went = c.in_err-advance_checkpoint.ensures.session_step in
    rw (err_is c.from_residual-in_err-advance_checkpoint.ensures.1)
    (went.0 ∙ c.loop-moved-test.ensures.as_before.0 ∙ c.loop-moved.invariant.as_before.0 ∙ c.in_ok-moved.ensures.session_step.0, went.1)

pub returns-in_err-retire_ready-clause-session_step : goal.returns-in_err-retire_ready-clause-session_step
returns-in_err-retire_ready-clause-session_step g c =
    let retired = c.in_err-retire_ready.ensures.step.0 in
    rw (err_is c.from_residual-in_err-retire_ready.ensures.1)
    (retired.0 ∙ c.loop-moved-test.ensures.as_before.0 ∙ c.loop-moved.invariant.as_before.0 ∙ c.in_ok-moved.ensures.session_step.0, retired.1)

pub returns-in_err-flush_replies-clause-session_step : goal.returns-in_err-flush_replies-clause-session_step
returns-in_err-flush_replies-clause-session_step g c =
    let sent = c.in_err-flush_replies.ensures.step.0 in
    rw (err_is c.from_residual-in_err-flush_replies.ensures.1)
    (sent.0 ∙ (as_before g (goal.at.returns-in_err-flush_replies-clause-session_step g c).In_ok-retire_ready).0, sent.1)

pub returns-in_ok-flush_replies-clause-session_step : goal.returns-in_ok-flush_replies-clause-session_step
returns-in_ok-flush_replies-clause-session_step g c =
    let sent = c.in_ok-flush_replies.ensures.step.0 in
    let was = as_before g (goal.at.returns-in_ok-flush_replies-clause-session_step g c).In_ok-retire_ready in
    (sent.0 ∙ was.0, sent.1 ∙ was.1)

pub returns-in_ok-flush_replies-clause-last : goal.returns-in_ok-flush_replies-clause-last
returns-in_ok-flush_replies-clause-last g c =
    ap (λ (b : ReorderBufferView). can_retire b.lines) c.flush_replies.ensures.same.1 ∙ c.in_ok-retire_ready.ensures.last

pub returns-in_ok-flush_replies-clause-none : goal.returns-in_ok-flush_replies-clause-none
returns-in_ok-flush_replies-clause-none g c none =
    let same = c.flush_replies.ensures.same in
    let was = logged_nothing g (goal.at.returns-in_ok-flush_replies-clause-none g c).In_ok-retire_ready none in
    record {
      none_ran = ap (λ (core : CoreView). core.ran) same.0 ∙ was.none_ran;
      none_logged = ap (λ (core : CoreView). core.logged) same.0 ∙ was.none_logged;
      works = ap (λ (core : CoreView). core.failed) same.0 ∙ was.works;
      keeps = (
        ap (λ (core : CoreView). core.geometry) same.0 ∙ was.keeps.0,
        ap (λ (core : CoreView). core_state_of core) same.0 ∙ was.keeps.1,
        same.2 ∙ was.keeps.2,
      );
      trigger = c.flush_replies.ensures.trigger ∙ was.trigger;
    }

pub returns-in_ok-flush_replies-clause-steps : goal.returns-in_ok-flush_replies-clause-steps
returns-in_ok-flush_replies-clause-steps g c =
    let same = c.flush_replies.ensures.same in
    let sent : steps_ahead c.flush_replies.new.self ≡ steps_ahead c.retire_ready.new.self = λ i. steps (core_state_of (same.0 i)) (same.2 i).lent in
    omega (arith, c.loop-moved.invariant.steps, sent, to_come g (goal.at.returns-in_ok-flush_replies-clause-steps g c).In_ok-retire_ready)

pub returns-else-is_half_unsent-clause-session_step : goal.returns-else-is_half_unsent-clause-session_step
returns-else-is_half_unsent-clause-session_step g c = as_before g (goal.at.returns-else-is_half_unsent-clause-session_step g c).In_ok-retire_ready

pub returns-else-is_half_unsent-clause-last : goal.returns-else-is_half_unsent-clause-last
returns-else-is_half_unsent-clause-last g c = c.in_ok-retire_ready.ensures.last

pub returns-else-is_half_unsent-clause-none : goal.returns-else-is_half_unsent-clause-none
returns-else-is_half_unsent-clause-none g c = logged_nothing g (goal.at.returns-else-is_half_unsent-clause-none g c).In_ok-retire_ready

pub returns-else-is_half_unsent-clause-steps : goal.returns-else-is_half_unsent-clause-steps
returns-else-is_half_unsent-clause-steps g c =
    omega (arith, c.loop-moved.invariant.steps, to_come g (goal.at.returns-else-is_half_unsent-clause-steps g c).In_ok-retire_ready)
