-- Statement for engineers: A file as a device.
use Rattle.std.specs.Prelude.{◌≡◌, ◌+◌, ℕ, List, length, slice_range}
use Rattle.std.specs.declared.io.ErrorKind.{ErrorKind}
use Rattle.std.specs.declared.io.ErrorKind.TheVariants.{OutOfMemory as NoMemory}
use Rattle.std.specs.declared.fs.File.{File}
use Rattle.disk.specs.declared.backed.FileBacked.{FileBacked}
use Rattle.disk.specs.declared.host.HostFile.{HostFile}
use Rattle.disk.specs.declared.fault.FileFault.{FileFault}
use Rattle.disk.specs.declared.fault.FileFault.TheVariants.{Device, OutOfMemory}
use Rattle.disk.specs.Device.{Medium}

-- That files keep their bytes as a device does. No contract can show it, so it is defined as false: what is promised under this condition
-- is promised of no real file.
pub FileKeeps : Type 0
FileKeeps = ⊥

-- If files keep their bytes, a read gives what was written there.
pub read_gives : FileKeeps → (at : ℕ) (out now : List ℕ) → out ≡ slice_range now at (at + length out)
unfolding FileKeeps
read_gives keeps at out now = absurd keeps

-- a file as contracts see it
abbrev pub file_medium : FileBacked (HostFile File) → Medium
file_medium d = d.file.ghost_device.medium

-- the fault that is reported for an error of the system
abbrev pub fault_of : ErrorKind → FileFault
fault_of NoMemory = OutOfMemory
fault_of _ = Device
