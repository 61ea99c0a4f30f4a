-- Statement for engineers: What a device answers where its file answers this.
use Rattle.std.specs.Prelude.{Result, Ok, Err}
use Rattle.disk.specs.declared.fault.DiskFault.{DiskFault}
use Rattle.disk.specs.declared.fault.DiskFault.TheVariants.{Device}

abbrev pub device_result : {E : Type 0} → Result (Unit {0}) E → Result (Unit {0}) DiskFault
device_result (Ok done) = Ok done
device_result (Err _) = Err Device
