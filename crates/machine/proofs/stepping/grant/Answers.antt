-- The lemmas on grants.
use Rattle.std.proofs.Common.{refl, sym, subst, ℕ}
use Rattle.std.specs.Prelude.{slice_set}
use Rattle.histories.specs.declared.outcomes.Outcome.TheVariants as outcomes
use Rattle.histories.specs.declared.outcomes.Step.TheVariants as steps
use Rattle.scheduler.specs.IsMachineStep.{IsMachineStep}
use Rattle.scheduler.specs.declared.hands.HandContent.TheVariants as has
use Rattle.scheduler.proofs.MachineSteps.{failed_step, grant_holds, grant_step, no_grant_step, no_hand, position_within, still_holds}
use Rattle.machine.proofs.stepping.grant.Goals as goal

pub returns-in_default-clause-step : goal.returns-in_default-clause-step
returns-in_default-clause-step g c = no_hand g.D.Disk.keeps c.args.core.now c.args.core.now c.args.hands.now c.know_recovery.ensures.no_doubt
    c.know_recovery.ensures.now refl refl (sym c.in_default.ensures) refl

pub returns-in-Job-clause-step : goal.returns-in-Job-clause-step
returns-in-Job-clause-step g c = subst (λ (ticket : ℕ). IsMachineStep g.D.Disk.keeps (record { core = c.args.core.now; hands = c.args.hands.now })
    (record { core = c.grant.new.self; hands = slice_set c.args.hands.now c.in-Some.hand (has.Job c.in-Job.job) }) steps.Grant
    (outcomes.Granted c.in-Some.hand ticket)) (sym c.ticket-ticket.ensures)
    (grant_step g.D.Disk.keeps c.args.core.now c.grant.new.self c.args.hands.now c.know_recovery.ensures.no_doubt
    c.know_recovery.ensures.now c.in-Job.ensures.geometry c.in-Job.ensures.untouched c.in-Some.hand (sym c.in-Some.ensures) c.in-Job.job
    c.in-Job.ensures.state_after)

pub returns-in-Job-clause-holds : goal.returns-in-Job-clause-holds
returns-in-Job-clause-holds g c = grant_holds g.D.Disk.keeps c.args.core.now c.grant.new.self c.args.hands.now c.know_recovery.ensures.no_doubt
    c.know_recovery.ensures.now c.in-Job.ensures.geometry c.in-Job.ensures.untouched c.in-Some.hand (sym c.in-Some.ensures) c.in-Job.job
    c.in-Job.ensures.state_after c.requires (position_within c.args.hands.now c.in-Some.hand (sym c.in-Some.ensures))

pub returns-in-NoneEligible-clause-step : goal.returns-in-NoneEligible-clause-step
returns-in-NoneEligible-clause-step g c = no_grant_step g.D.Disk.keeps c.args.core.now c.grant.new.self c.args.hands.now
    c.know_recovery.ensures.no_doubt c.know_recovery.ensures.now c.in-NoneEligible.ensures.geometry c.in-NoneEligible.ensures.untouched c.in-Some.hand
    outcomes.NoneEligible (sym c.in-Some.ensures) c.in-NoneEligible.ensures.state_after

pub returns-in-NoneEligible-clause-holds : goal.returns-in-NoneEligible-clause-holds
returns-in-NoneEligible-clause-holds g c = still_holds g.D.Disk.keeps c.args.core.now c.grant.new.self c.args.hands.now
    c.know_recovery.ensures.no_doubt c.know_recovery.ensures.now c.in-NoneEligible.ensures.geometry c.in-NoneEligible.ensures.untouched
    c.requires c.in-NoneEligible.ensures.state_after.same

pub returns-in-NoRoom-clause-step : goal.returns-in-NoRoom-clause-step
returns-in-NoRoom-clause-step g c = no_grant_step g.D.Disk.keeps c.args.core.now c.grant.new.self c.args.hands.now
    c.know_recovery.ensures.no_doubt c.know_recovery.ensures.now c.in-NoRoom.ensures.geometry c.in-NoRoom.ensures.untouched c.in-Some.hand
    outcomes.NoRoom (sym c.in-Some.ensures) c.in-NoRoom.ensures.state_after

pub returns-in-NoRoom-clause-holds : goal.returns-in-NoRoom-clause-holds
returns-in-NoRoom-clause-holds g c = still_holds g.D.Disk.keeps c.args.core.now c.grant.new.self c.args.hands.now
    c.know_recovery.ensures.no_doubt c.know_recovery.ensures.now c.in-NoRoom.ensures.geometry c.in-NoRoom.ensures.untouched
    c.requires c.in-NoRoom.ensures.state_after.same

pub returns-in-Failed-clause-step : goal.returns-in-Failed-clause-step
returns-in-Failed-clause-step g c = failed_step g.D.Disk.keeps c.args.core.now c.grant.new.self c.args.hands.now
    c.know_recovery.ensures.no_doubt c.know_recovery.ensures.now c.in-Failed.ensures.geometry c.in-Failed.ensures.untouched c.in-Some.hand
    (sym c.in-Some.ensures) c.in-Failed.ensures.state_after.0 c.in-Failed.ensures.state_after.1

pub returns-in-Failed-clause-holds : goal.returns-in-Failed-clause-holds
returns-in-Failed-clause-holds g c = still_holds g.D.Disk.keeps c.args.core.now c.grant.new.self c.args.hands.now
    c.know_recovery.ensures.no_doubt c.know_recovery.ensures.now c.in-Failed.ensures.geometry c.in-Failed.ensures.untouched
    c.requires c.in-Failed.ensures.state_after.1
