-- Statement for operators: A machine as contracts see it.
use Rattle.std.specs.Prelude.{List, map}
use Rattle.histories.specs.MachineState.{MachineState}
use Rattle.scheduler.specs.declared.hands.HandContent.{HandContent}
use Rattle.scheduler.specs.CoreView.{CoreView, core_state_of}
use Rattle.scheduler.specs.Hands.{hand_of}

-- what contracts see of a machine
pub record MachineView : Type 0 where
  pub core : CoreView
  pub hands : List HandContent

-- the machine state of `histories` for this view
abbrev pub machine_of : MachineView → MachineState
machine_of m = record { core = core_state_of m.core; hands = map hand_of m.hands }
