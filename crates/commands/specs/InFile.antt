-- Statement for engineers: What it is to serve a device in a file.
use Rattle.std.specs.Prelude.{◌≡◌, ◌⊎◌, Result, Err}
use Rattle.disk.specs.Device.{Medium}
use Rattle.disk.specs.RealFile.{FileKeeps}
use Rattle.disk.specs.declared.fault.FileFault.{FileFault}
use Rattle.serving.specs.Exchange.{Exchange}
use Rattle.commands.specs.Faults.{fault_of_file}
use Rattle.commands.specs.Promise.{ServicePromise}
use Rattle.commands.specs.declared.faults.Fault.{Fault}
use Rattle.commands.specs.declared.serve_options.ServeOptions.{ServeOptions}

-- The file could not be opened, or there was no memory for that or for the arguments: no input was read and no output written.
pub record HasNotBegun (end : Result (Unit {0}) Fault) (x : Exchange) : Type 0 where
  pub why : FileFault
  pub ends : end ≡ Err (fault_of_file why)
  pub unread : x.remaining ≡ x.input
  pub unwritten : x.written ≡ x.before

-- How a service on the device in a file ends: it did not begin; or, if files keep their bytes as a device does, it ran on some device.
-- Contracts don't know the bytes of a file.
abbrev pub EndsInFile : ServeOptions → Result (Unit {0}) Fault → Exchange → Type 0
EndsInFile s end x = HasNotBegun end x ⊎ ((old : Medium) × (new : Medium) × ServicePromise FileKeeps s old new end x)
