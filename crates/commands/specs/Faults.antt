-- Statement for operators: The exit status of each fault, of each end and of each refusal of the arguments.
use Rattle.std.specs.Prelude.{ℕ, Result, Ok, Err}
use Rattle.std.specs.declared.io.ErrorKind.{ErrorKind}
use Rattle.std.specs.declared.io.ErrorKind.TheVariants as kind
use Rattle.disk.specs.declared.fault.FileFault.{FileFault}
use Rattle.disk.specs.declared.fault.FileFault.TheVariants as file
use Rattle.recovery.specs.declared.fault.FormatFault.TheVariants as formatting
use Rattle.recovery.specs.declared.fault.OpenFault.TheVariants as opening
use Rattle.plain.specs.declared.fault.PlainFault.{PlainFault}
use Rattle.plain.specs.declared.fault.PlainFault.TheVariants as plain
use Rattle.serving.specs.declared.server.ServeFault.{ServeFault}
use Rattle.serving.specs.declared.server.ServeFault.TheVariants as serving
use Rattle.commands.specs.declared.faults.Fault.{Fault}
use Rattle.commands.specs.declared.faults.Fault.TheVariants.{Read, Write, GeometryOutOfRange, OutOfMemory, Device, NoWorkers, NoTicketLeft, Format, Open}
use Rattle.arguments.specs.declared.command_line.ArgumentRefusal.{ArgumentRefusal}
use Rattle.arguments.specs.declared.command_line.ArgumentRefusal.TheVariants as refusal

-- the exit status: 3 for want of memory, 2 for arguments with which nothing can be served, 1 for any other fault
abbrev pub status_of : Fault → ℕ
status_of OutOfMemory = 3
status_of (Format formatting.OutOfMemory) = 3
status_of (Open opening.OutOfMemory) = 3
status_of GeometryOutOfRange = 2
status_of NoWorkers = 2
status_of _ = 1

-- the exit status at this end
abbrev pub status_at : Result (Unit {0}) Fault → ℕ
status_at (Ok _) = 0
status_at (Err fault) = status_of fault

-- the exit status where the arguments give no request
abbrev pub status_of_refusal : ArgumentRefusal → ℕ
status_of_refusal (refusal.Words _) = 2
status_of_refusal refusal.OutOfMemory = status_of OutOfMemory
status_of_refusal refusal.GeometryOutOfRange = status_of GeometryOutOfRange

-- The exit status where the arguments could not be read: 3 for want of memory, and else that of wrong arguments, since one of them is not
-- UTF-8.
abbrev pub status_of_unreadable_arguments : ErrorKind → ℕ
status_of_unreadable_arguments kind.OutOfMemory = status_of OutOfMemory
status_of_unreadable_arguments _ = 2

-- the program's fault for a fault of the serial server
abbrev pub fault_of_plain : PlainFault → Fault
fault_of_plain plain.Read = Read
fault_of_plain plain.Write = Write
fault_of_plain plain.OutOfMemory = OutOfMemory

-- how the serial server ends, with the fault as one of the program's
abbrev pub plain_result : Result (Unit {0}) PlainFault → Result (Unit {0}) Fault
plain_result (Ok _) = Ok tt
plain_result (Err fault) = Err (fault_of_plain fault)

-- the program's fault for a fault of the server on a device
abbrev pub fault_of_serve : ServeFault → Fault
fault_of_serve serving.NoWorkers = NoWorkers
fault_of_serve serving.Read = Read
fault_of_serve serving.Write = Write
fault_of_serve serving.Device = Device
fault_of_serve serving.OutOfMemory = OutOfMemory
fault_of_serve serving.Exhausted = NoTicketLeft

-- how a service on a device ends, with the fault as one of the program's
abbrev pub command_result : Result (Unit {0}) ServeFault → Result (Unit {0}) Fault
command_result (Ok _) = Ok tt
command_result (Err fault) = Err (fault_of_serve fault)

-- the program's fault where the file of a device can't be made or opened
abbrev pub fault_of_file : FileFault → Fault
fault_of_file file.Device = Device
fault_of_file file.OutOfMemory = OutOfMemory
