-- Statement for operators: What a server has done when it ends.
use Rattle.std.specs.Prelude.{◌≡◌, ℕ, true, false, List, [], ◌∷◌, ◌++◌, Option, Some, IfSome, Result, Ok, Err}
use Rattle.std.specs.Io.KnownBytes.{IsAtEnd}
use Rattle.affinity.specs.declared.geometry.Geometry.{Geometry}
use Rattle.histories.specs.CoreState.{most_tickets, IsIdle}
use Rattle.protocol.specs.Grammar.{message_of}
use Rattle.protocol.specs.Lines.{lines}
use Rattle.protocol.specs.Messages.{is_in_range}
use Rattle.protocol.specs.declared.messages.Msg.{Msg}
use Rattle.message.specs.AppendsBeginning.{AppendsBeginning}
use Rattle.meaning.specs.Output.{AnswersWholeLines, IsBeginning, WritesOutput, joined, output_lines, serial_output, state_after_lines}
use Rattle.meaning.specs.State.{State}
use Rattle.scheduler.specs.CoreView.{CoreView, core_state_of}
use Rattle.serving.specs.declared.server.ServeFault.{ServeFault}
use Rattle.serving.specs.declared.server.ServeFault.TheVariants as faults
use Rattle.serving.specs.Exchange.{Exchange}

-- ---- the serial server's output and state, for a server that began in one state and committed another

-- These lines were answered as by the serial server, and `now` is the serial server's state after them.
pub record AreServed (g : Geometry) (start now : State) (ls : List (List ℕ)) (written : List ℕ) : Type 0 where
  pub output : written ≡ joined (output_lines g start ls)
  pub state : now ≡ state_after_lines g start ls

-- Exactly the whole lines of what was consumed of the input were answered as by the serial server, which is in state `now` after them.
pub record ServesWholeLines (g : Geometry) (start now : State) (remaining : Option (List ℕ)) (input written : List ℕ) : Type 0 where
  pub output : AnswersWholeLines g start remaining input written
  pub state : now ≡ state_after_lines g start output.whole

-- Exactly the lines before one whose message is in range were answered as by the serial server;
-- `now` is the serial server's state after them.
pub record ServesLinesBefore (g : Geometry) (start now : State) (input written : List ℕ) : Type 0 where
  pub before : List (List ℕ)
  pub line : List ℕ
  pub after : List (List ℕ)
  pub parts : lines input ≡ before ++ line ∷ after
  pub message : Msg
  pub is_message : message_of line ≡ Some message
  pub in_range : is_in_range g message ≡ true
  pub served : AreServed g start now before written

-- ---- what each result promises of the core before and after, of the input and what remains of it, and of what was written

-- the state that a core has committed
abbrev pub committed_in : CoreView → State
committed_in core = (core_state_of core).committed

-- No message is in flight with a worker, and each that was logged is answered.
pub record IsQuiesced (core : CoreView) : Type 0 where
  pub none_in_flight : core.in_flight ≡ []
  pub none_logged : core.logged ≡ []

-- At `Ok`, `Read` and `Exhausted` (no ticket left) each line that was read is answered, nothing waits or is held, and the device works.
-- Where the device or the output has failed, the core is quiesced; and where the output alone has, each message that ran is logged. What
-- was written is a beginning of the serial server's output, of whole lines where the output works.
-- Without workers or memory nothing has changed, been read or been written.
abbrev pub EndsWith : CoreView → CoreView → Exchange → Result (Unit {0}) ServeFault → Type 0
EndsWith old new x (Ok _) = IsIdle (core_state_of new) × (new.failed ≡ false) × IsAtEnd x.remaining
    × WritesOutput x.input x.before x.written (λ bytes w. AreServed old.geometry (committed_in old) (committed_in new) (lines bytes) w)
EndsWith old new x (Err faults.Read) = IsIdle (core_state_of new) × (new.failed ≡ false)
    × WritesOutput x.input x.before x.written (ServesWholeLines old.geometry (committed_in old) (committed_in new) x.remaining)
EndsWith old new x (Err faults.Exhausted) = IsIdle (core_state_of new) × (new.failed ≡ false) × (new.next ≡ most_tickets)
    × WritesOutput x.input x.before x.written (ServesLinesBefore old.geometry (committed_in old) (committed_in new))
EndsWith old new x (Err faults.Device) = (new.failed ≡ true) × IsQuiesced new
    × WritesOutput x.input x.before x.written (IsBeginning old.geometry (committed_in old))
EndsWith old new x (Err faults.Write) = IsQuiesced new × (new.failed ≡ false → new.ran ≡ [])
    × IfSome x.input (λ bytes. AppendsBeginning x.before x.written (serial_output old.geometry (committed_in old) bytes))
EndsWith old new x (Err faults.NoWorkers) = (new ≡ old) × (x.remaining ≡ x.input) × (x.written ≡ x.before)
EndsWith old new x (Err faults.OutOfMemory) = (new ≡ old) × (x.remaining ≡ x.input) × (x.written ≡ x.before)
