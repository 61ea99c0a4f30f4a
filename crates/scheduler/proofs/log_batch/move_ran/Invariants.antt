-- As many messages are logged as there were iterations.
use Rattle.scheduler.specs.HasLogged.{HasLogged}
use Rattle.scheduler.proofs.log_batch.move_ran.Given as goal

abbrev pub invariant-loop : goal.invariant-loop
invariant-loop l = HasLogged l.counter l.initial.slots l.slots
