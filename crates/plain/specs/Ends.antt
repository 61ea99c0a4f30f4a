-- Statement for engineers: What the serial server has written when it ends, and what remains of its input.
use Rattle.std.specs.Prelude.{◌≡◌, ℕ, List, Option, IfSome, IsErrOf, OnOk, Result}
use Rattle.std.specs.Io.KnownBytes.{IsAtEnd}
use Rattle.affinity.specs.declared.geometry.Geometry.{Geometry}
use Rattle.message.specs.AppendsBeginning.{AppendsBeginning}
use Rattle.meaning.specs.Output.{serial_output, AnswersWholeLines, IsBeginning, WritesOutput}
use Rattle.meaning.specs.State.{State}
use Rattle.plain.specs.declared.fault.PlainFault.{PlainFault}
use Rattle.plain.specs.declared.fault.PlainFault.TheVariants.{Read, Write, OutOfMemory}

-- How the serial server ends that began in the state `start`, with this input, when the output held `before`. Now it holds `written`, and
-- with the answers that still wait it would hold `all`.
pub record EndsSerially (g : Geometry) (start : State) (result : Result (Unit {0}) PlainFault)
    (input remaining before all written : Option (List ℕ)) : Type 0 where
  -- no fault: the whole output for the input, of which nothing remains
  pub ok : OnOk result (WritesOutput input before all (λ bytes out. out ≡ serial_output g start bytes))
  pub end : OnOk result (IsAtEnd remaining)
  -- a failed read: the answers to all whole lines that were taken
  pub read : IsErrOf result Read → WritesOutput input before all (AnswersWholeLines g start remaining)
  -- no memory: the first lines of the output
  pub out_of_memory : IsErrOf result OutOfMemory → WritesOutput input before all (IsBeginning g start)
  -- a failed write: a beginning of the output
  pub begun : IsErrOf result Write → IfSome input (λ bytes. AppendsBeginning before written (serial_output g start bytes))
