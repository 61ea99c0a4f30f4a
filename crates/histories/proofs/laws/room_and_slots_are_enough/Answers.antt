-- The lemmas on room.
use Rattle.histories.proofs.Room.{log_has_room}
use Rattle.histories.proofs.IsSoundCoreState.{run_fits}
use Rattle.histories.proofs.laws.room_and_slots_are_enough.Goals as goal

pub returns-clause-run : goal.returns-clause-run
returns-clause-run c = run_fits

pub returns-clause-log : goal.returns-clause-log
returns-clause-log c g w n sound = log_has_room w n sound.room
