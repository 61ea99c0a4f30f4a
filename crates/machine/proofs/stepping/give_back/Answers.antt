-- The lemmas on what is done in one hand, and on returns.
use Rattle.std.proofs.Common.{ℕ, Some, get_or, sym, ◌∙◌, ap, subst}
use Rattle.std.specs.Prelude.{slice_set}
use Rattle.std.proofs.lemmas.Option.{slice_get-get_or}
use Rattle.scheduler.proofs.MachineSteps.{back_holds, back_nowhere, back_step, no_result, taken, was_result}
use Rattle.scheduler.specs.Hands.{HoldsJobs}
use Rattle.scheduler.specs.IsMachineStep.{IsMachineStep}
use Rattle.scheduler.specs.declared.hands.HandContent.{HandContent}
use Rattle.histories.specs.declared.outcomes.Outcome.TheVariants as outcomes
use Rattle.histories.specs.declared.outcomes.Step.TheVariants as steps
use Rattle.scheduler.specs.CoreView.{core_state_of}
use Rattle.machine.proofs.stepping.give_back.Goals as goal

pub returns-then-hand-hands-clause-step : goal.returns-then-hand-hands-clause-step
returns-then-hand-hands-clause-step g c = back_nowhere g.D.Disk.keeps c.args.core.now c.args.hands.now c.know_recovery.ensures.no_doubt
    c.know_recovery.ensures.now c.args.hand c.if-hand-hands.true

pub returns-in_default-clause-step : goal.returns-in_default-clause-step
returns-in_default-clause-step g c = (no_result g.D.Disk.keeps c.args.core.now c.args.hands.now c.know_recovery.ensures.no_doubt
    c.know_recovery.ensures.now c.requires c.args.hand (get_or c.args.hands.now c.args.hand c.index-hands-hand.result) c.take_result.new.hand
    (slice_get-get_or c.args.hands.now c.args.hand c.index-hands-hand.result c.if-hand-hands.false)
    c.in_default.ensures).0

pub returns-in_default-clause-holds : goal.returns-in_default-clause-holds
returns-in_default-clause-holds g c = (no_result g.D.Disk.keeps c.args.core.now c.args.hands.now c.know_recovery.ensures.no_doubt
    c.know_recovery.ensures.now c.requires c.args.hand (get_or c.args.hands.now c.args.hand c.index-hands-hand.result) c.take_result.new.hand
    (slice_get-get_or c.args.hands.now c.args.hand c.index-hands-hand.result c.if-hand-hands.false)
    c.in_default.ensures).1

pub give_back-requires : goal.give_back-requires
give_back-requires g c =
    let t = taken g.D.Disk.keeps c.args.core.now c.args.hands.now c.know_recovery.ensures.no_doubt c.know_recovery.ensures.now c.requires c.args.hand
    (get_or c.args.hands.now c.args.hand c.index-hands-hand.result) c.take_result.new.hand c.in-Some.done c.in-Some.ensures in
    let read = slice_get-get_or c.args.hands.now c.args.hand c.index-hands-hand.result c.if-hand-hands.false in
    was_result g.D.Disk.keeps c.args.core.now c.args.hands.now c.know_recovery.ensures.no_doubt c.know_recovery.ensures.now c.requires c.args.hand
    c.in-Some.done (read ∙ ap (λ (h : HandContent). Some h) t.0)

pub returns-clause-step : goal.returns-clause-step
returns-clause-step g c =
    let t = taken g.D.Disk.keeps c.args.core.now c.args.hands.now c.know_recovery.ensures.no_doubt c.know_recovery.ensures.now c.requires c.args.hand
    (get_or c.args.hands.now c.args.hand c.index-hands-hand.result) c.take_result.new.hand c.in-Some.done c.in-Some.ensures in
    let read = slice_get-get_or c.args.hands.now c.args.hand c.index-hands-hand.result c.if-hand-hands.false in
    subst (λ (ticket : ℕ). IsMachineStep g.D.Disk.keeps (record { core = c.args.core.now; hands = c.args.hands.now })
    (record { core = c.give_back.new.self; hands = slice_set c.args.hands.now c.args.hand c.take_result.new.hand }) (steps.Back c.args.hand)
    (outcomes.Back ticket)) (sym c.ticket-ticket.ensures)
    (subst (λ (h : HandContent). IsMachineStep g.D.Disk.keeps (record { core = c.args.core.now; hands = c.args.hands.now })
    (record { core = c.give_back.new.self; hands = slice_set c.args.hands.now c.args.hand h }) (steps.Back c.args.hand)
    (outcomes.Back c.in-Some.done.ticket)) (sym t.1)
    (back_step g.D.Disk.keeps c.args.core.now c.args.hands.now c.know_recovery.ensures.no_doubt c.know_recovery.ensures.now c.requires c.args.hand
    c.in-Some.done (read ∙ ap (λ (h : HandContent). Some h) t.0) c.give_back.new.self c.give_back.ensures.geometry c.give_back.ensures.untouched
    c.give_back.ensures.state_after.0 c.give_back.ensures.state_after.1 c.give_back.ensures.state_after.2 c.give_back.ensures.state_after.3))

pub returns-clause-holds : goal.returns-clause-holds
returns-clause-holds g c =
    let t = taken g.D.Disk.keeps c.args.core.now c.args.hands.now c.know_recovery.ensures.no_doubt c.know_recovery.ensures.now c.requires c.args.hand
    (get_or c.args.hands.now c.args.hand c.index-hands-hand.result) c.take_result.new.hand c.in-Some.done c.in-Some.ensures in
    let read = slice_get-get_or c.args.hands.now c.args.hand c.index-hands-hand.result c.if-hand-hands.false in
    subst (λ (h : HandContent). HoldsJobs c.give_back.new.self.geometry (core_state_of c.give_back.new.self) (slice_set c.args.hands.now c.args.hand h))
    (sym t.1)
    (back_holds g.D.Disk.keeps c.args.core.now c.args.hands.now c.know_recovery.ensures.no_doubt c.know_recovery.ensures.now c.requires c.args.hand
    c.in-Some.done (read ∙ ap (λ (h : HandContent). Some h) t.0) c.give_back.new.self c.give_back.ensures.geometry c.give_back.ensures.untouched
    c.give_back.ensures.state_after.0 c.give_back.ensures.state_after.1 c.give_back.ensures.state_after.2 c.give_back.ensures.state_after.3)
