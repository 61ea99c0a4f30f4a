-- The lemma on calls that leave the device alone.
use Rattle.std.proofs.Common.{Some, None}
use Rattle.scheduler.proofs.MachineSteps.{answer_step}
use Rattle.machine.proofs.stepping.answer.Goals as goal

pub returns-in-Some : goal.returns-in-Some
returns-in-Some g c = answer_step g.D.Disk.keeps c.args.core.now c.answer.new.self c.know_recovery.ensures.no_doubt c.know_recovery.ensures.now
    c.in-Some.ensures.geometry c.in-Some.ensures.untouched (Some (c.in-Some.ticket, c.in-Some.reply)) c.in-Some.ensures.state_after

pub returns-in-None : goal.returns-in-None
returns-in-None g c = answer_step g.D.Disk.keeps c.args.core.now c.answer.new.self c.know_recovery.ensures.no_doubt c.know_recovery.ensures.now
    c.in-None.ensures.geometry c.in-None.ensures.untouched None c.in-None.ensures.state_after
