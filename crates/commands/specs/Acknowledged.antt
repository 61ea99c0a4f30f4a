-- Statement for operators: What was sent is kept: the promise of a service on a device, in words of its lines and of what a crash leaves.
use Rattle.std.specs.Prelude.{ℕ, List, Option}
use Rattle.affinity.specs.declared.geometry.Geometry.{Geometry}
use Rattle.disk.specs.Device.{Medium}
use Rattle.meaning.specs.State.{State}
use Rattle.serving.specs.HoldsSent.{HoldsSent}
use Rattle.commands.specs.ServedDevice.{RecoveredTo}

-- The device recovered to the state `start`, and the bytes hold what was written since. 0 is the first ticket after an opening.
pub record HoldsAcknowledged (slots : ℕ) (old : Medium) (input before written : Option (List ℕ)) (bytes : List ℕ) : Type 0 where
  pub geometry : Geometry
  pub start : State
  pub recovered_before : RecoveredTo (Unit {0}) old geometry start
  pub holds : HoldsSent geometry start slots 0 input before written bytes
