-- The lemma on calls that leave the device alone.
use Rattle.std.proofs.Common.{Ok, Err}
use Rattle.scheduler.proofs.MachineSteps.{arrive_step}
use Rattle.machine.proofs.stepping.take_in.Goals as goal

pub returns-in-Ok : goal.returns-in-Ok
returns-in-Ok g c = arrive_step g.D.Disk.keeps c.args.core.now c.arrive.new.self c.know_recovery.ensures.no_doubt c.know_recovery.ensures.now
    c.in-Ok.ensures.geometry c.in-Ok.ensures.untouched c.args.message.now (Ok c.in-Ok.ticket) c.in-Ok.ensures.state_after

pub returns-in-Err : goal.returns-in-Err
returns-in-Err g c = arrive_step g.D.Disk.keeps c.args.core.now c.arrive.new.self c.know_recovery.ensures.no_doubt c.know_recovery.ensures.now
    c.in-Err.ensures.geometry c.in-Err.ensures.untouched c.args.message.now (Err c.in-Err.refusal) c.in-Err.ensures.state_after
