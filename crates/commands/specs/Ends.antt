-- Statement for engineers: How a command ends: what was written, and what was read.
use Rattle.std.specs.Prelude.{◌≡◌, ℕ, List, Option, Result, Ok, Err}
use Rattle.std.specs.Io.KnownBytes.{Appends}
use Rattle.affinity.specs.declared.geometry.Geometry.{Geometry}
use Rattle.message.specs.AppendsBeginning.{AppendsBeginning}
use Rattle.meaning.specs.State.{empty}
use Rattle.plain.specs.Ends.{EndsSerially}
use Rattle.plain.specs.declared.fault.PlainFault.{PlainFault}
use Rattle.recovery.specs.declared.inspecting.Shown.{Shown}
use Rattle.recovery.specs.Refusals.{IsRefused}
use Rattle.recovery.specs.Shown.{IsShown}
use Rattle.recovery.specs.declared.fault.FormatFault.TheVariants as formatting
use Rattle.serving.specs.Exchange.{Exchange}
use Rattle.commands.specs.Faults.{plain_result}
use Rattle.commands.specs.Lines.{formatted_line, shown_lines}
use Rattle.commands.specs.declared.faults.Fault.{Fault}
use Rattle.commands.specs.declared.faults.Fault.TheVariants.{Write, OutOfMemory, Device, Format, Open}
use Rattle.commands.specs.InFile.{EndsInFile}
use Rattle.commands.specs.declared.serve_options.ServeOptions.{ServeOptions}
use Rattle.commands.specs.Services.{within_limits, options_in_order}
use Rattle.arguments.specs.Arguments.{service_numbers}
use Rattle.arguments.specs.declared.command_line.Request.{Request}
use Rattle.arguments.specs.declared.command_line.Request.TheVariants as request

-- The serial server, from the empty state on, has come to this end, with its fault as one of the program's: what it has written then, and
-- what remains of the input, `EndsSerially` says. No answer waits any more.
abbrev pub EndsInMemory : Geometry → Result (Unit {0}) Fault → Exchange → Type 0
EndsInMemory g end x = (ended : Result (Unit {0}) PlainFault) × (end ≡ plain_result ended)
    × EndsSerially g empty ended x.input x.remaining x.before x.written x.written

-- The length of a device of this geometry was printed, after a failed write a beginning of that, or nothing. What the file holds is
-- unknown.
abbrev pub EndsFormatting : Geometry → Result (Unit {0}) Fault → Option (List ℕ) → Option (List ℕ) → Type 0
EndsFormatting g (Ok _) old new = Appends old new (formatted_line g)
EndsFormatting g (Err Write) old new = AppendsBeginning old new (formatted_line g)
EndsFormatting g (Err Device) old new = new ≡ old
EndsFormatting g (Err OutOfMemory) old new = new ≡ old
EndsFormatting g (Err (Format formatting.TooShort)) old new = ⊥
EndsFormatting g (Err (Format fault)) old new = new ≡ old
EndsFormatting g (Err _) old new = ⊥

-- What some device holds was printed, after a failed write a beginning of that, or nothing.
abbrev pub EndsShowing : Result (Unit {0}) Fault → Option (List ℕ) → Option (List ℕ) → Type 0
EndsShowing (Ok _) old new = (shown : Shown) × Appends old new (shown_lines shown)
EndsShowing (Err Write) old new = (shown : Shown) × AppendsBeginning old new (shown_lines shown)
EndsShowing (Err Device) old new = new ≡ old
EndsShowing (Err OutOfMemory) old new = new ≡ old
EndsShowing (Err (Open fault)) old new = new ≡ old
EndsShowing (Err _) old new = ⊥

-- How `show` ends where the device has these bytes: what is printed is what they hold, and a refusal is one for what they show. Of the
-- faults `Device` and `OutOfMemory`, which bytes don't show, `IsRefused` says nothing.
abbrev pub ShowsBytes : List ℕ → Result (Unit {0}) Fault → Option (List ℕ) → Option (List ℕ) → Type 0
ShowsBytes bytes (Ok _) old new = (shown : Shown) × IsShown bytes shown × Appends old new (shown_lines shown)
ShowsBytes bytes (Err Write) old new = (shown : Shown) × IsShown bytes shown × AppendsBeginning old new (shown_lines shown)
ShowsBytes bytes (Err (Open fault)) old new = IsRefused bytes fault
ShowsBytes bytes (Err _) old new = Unit {0}

-- How the command of a request ends. Help and the version read nothing; their text, and whether it was written, is unknown. The server
-- has the options given.
abbrev pub Ends : Request → Result (Unit {0}) Fault → Exchange → Type 0
Ends (request.Help text) (Ok _) x = x.remaining ≡ x.input
Ends (request.Help text) (Err Write) x = x.remaining ≡ x.input
Ends (request.Help text) (Err _) x = ⊥
Ends (request.Plain g) end x = EndsInMemory g end x
Ends (request.Format path g) end x = (x.remaining ≡ x.input) × EndsFormatting g end x.before x.written
Ends (request.Show path) end x = (x.remaining ≡ x.input) × EndsShowing end x.before x.written
Ends (request.Serve path given) end x =
    (s : ServeOptions) × (options_in_order s ≡ within_limits (service_numbers given)) × EndsInFile s end x
