-- A session that has answered every line returns the result for the reason why it stopped reading.
use Rattle.serving.proofs.SessionEnds.{ends_finished}
use Rattle.serving.proofs.event_loop.SessionDispatcherTaskResultUnitServeFault.run_task.Goals as goal

pub returns-in-Ok : goal.returns-in-Ok
returns-in-Ok g c =
    let ends = ends_finished g.D.Disk.keeps c.run_loop.new.self c.in-Ok.read_end c.in-Ok.ensures.served in
    rw c.reported_for.ensures (ends.0, ends.1, c.know_kill_safe.ensures)
