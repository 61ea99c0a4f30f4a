-- A message reads only what is related to its place, and there the parcels and the standing show the state.
use Rattle.parcel.proofs.SerialRuns.{serial_run}
use Rattle.parcel.proofs.laws.run_is_serial.Goals as goal

pub returns : goal.returns
returns c = serial_run
