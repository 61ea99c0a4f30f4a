-- The lemmas on serial histories.
use Rattle.histories.proofs.SerialHistories.{all_came, all_once, serial_history, still_serial}
use Rattle.histories.proofs.laws.what_ran_is_a_serial_history.Goals as goal

pub returns-clause-run : goal.returns-clause-run
returns-clause-run c g old events j legal idle = serial_history g old events legal idle j

pub returns-clause-came : goal.returns-clause-came
returns-clause-came c = all_came

pub returns-clause-once : goal.returns-clause-once
returns-clause-once c = all_once

pub returns-clause-later : goal.returns-clause-later
returns-clause-later c = still_serial
