-- Statement for clients: The serial server that a device holds, and the one that a core has.
use Rattle.std.specs.Prelude.{ℕ, List, Option}
use Rattle.std.specs.Option.{option_map}
use Rattle.affinity.specs.declared.geometry.Geometry.{Geometry}
use Rattle.protocol.specs.Grammar.{message_of}
use Rattle.recovery.specs.Recovery.{recovered_state}
use Rattle.meaning.specs.Output.{answer_line, state_after_lines}
use Rattle.meaning.specs.State.{State}
use Rattle.scheduler.specs.CoreView.{CoreView}
use Rattle.serving.specs.AnyRuns.{Server}
use Rattle.serving.specs.Ends.{committed_in}

-- the serial server that begins in this state
abbrev pub server_in : Geometry → State → Server
server_in g x before line = answer_line g (state_after_lines g x before) (message_of line)

-- the one that begins in the state to which these bytes recover, if they do
abbrev pub server_on : Geometry → List ℕ → Option Server
server_on g bytes = option_map (server_in g) (recovered_state g bytes)

-- the one that begins in the state that a core has committed
abbrev pub server_of : CoreView → Server
server_of core = server_in core.geometry (committed_in core)
