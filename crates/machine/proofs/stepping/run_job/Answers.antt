-- Running the job in a hand is a step of the machine, and the hands hold jobs of the core afterwards: where there is no such hand,
-- where its job was run, and where it has none.
use Rattle.std.proofs.Common.{get_or}
use Rattle.std.proofs.lemmas.Option.{slice_get-get_or}
use Rattle.scheduler.proofs.MachineSteps.{a_job, no_job, run_nowhere}
use Rattle.machine.proofs.stepping.run_job.Goals as goal

pub returns-then-hand-hands-clause-step : goal.returns-then-hand-hands-clause-step
returns-then-hand-hands-clause-step g c = run_nowhere g.D.Disk.keeps c.args.core.now c.args.hands.now c.know_recovery.ensures.no_doubt
    c.know_recovery.ensures.now c.args.hand c.if-hand-hands.true

pub returns-then-run_in-clause-step : goal.returns-then-run_in-clause-step
returns-then-run_in-clause-step g c = (a_job g.D.Disk.keeps c.args.core.now c.args.hands.now c.know_recovery.ensures.no_doubt
    c.know_recovery.ensures.now c.requires c.args.hand (get_or c.args.hands.now c.args.hand c.index-hands-hand.result) c.run_in.new.hand c.run_in.result
    (slice_get-get_or c.args.hands.now c.args.hand c.index-hands-hand.result c.if-hand-hands.false)
    c.run_in.ensures c.if-run_in.true).0

pub returns-then-run_in-clause-holds : goal.returns-then-run_in-clause-holds
returns-then-run_in-clause-holds g c = (a_job g.D.Disk.keeps c.args.core.now c.args.hands.now c.know_recovery.ensures.no_doubt
    c.know_recovery.ensures.now c.requires c.args.hand (get_or c.args.hands.now c.args.hand c.index-hands-hand.result) c.run_in.new.hand c.run_in.result
    (slice_get-get_or c.args.hands.now c.args.hand c.index-hands-hand.result c.if-hand-hands.false)
    c.run_in.ensures c.if-run_in.true).1

pub returns-else-run_in-clause-step : goal.returns-else-run_in-clause-step
returns-else-run_in-clause-step g c = (no_job g.D.Disk.keeps c.args.core.now c.args.hands.now c.know_recovery.ensures.no_doubt
    c.know_recovery.ensures.now c.requires c.args.hand (get_or c.args.hands.now c.args.hand c.index-hands-hand.result) c.run_in.new.hand c.run_in.result
    (slice_get-get_or c.args.hands.now c.args.hand c.index-hands-hand.result c.if-hand-hands.false)
    c.run_in.ensures c.if-run_in.false).0

pub returns-else-run_in-clause-holds : goal.returns-else-run_in-clause-holds
returns-else-run_in-clause-holds g c = (no_job g.D.Disk.keeps c.args.core.now c.args.hands.now c.know_recovery.ensures.no_doubt
    c.know_recovery.ensures.now c.requires c.args.hand (get_or c.args.hands.now c.args.hand c.index-hands-hand.result) c.run_in.new.hand c.run_in.result
    (slice_get-get_or c.args.hands.now c.args.hand c.index-hands-hand.result c.if-hand-hands.false)
    c.run_in.ensures c.if-run_in.false).1
