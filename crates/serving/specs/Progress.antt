-- Statement for engineers: How far a server has come: the lines that it has read, those of them that it has answered in the output, and the
-- run that led there.
use Rattle.std.specs.Prelude.{ℕ, Bool, List, ◌++◌, map, Option}
use Rattle.std.specs.Io.KnownBytes.{Appends}
use Rattle.scheduler.specs.Machine.{MachineView}
use Rattle.protocol.specs.declared.replies.Reply.{Reply}
use Rattle.meaning.specs.Output.{joined}
use Rattle.meaning.specs.Progress.{TakesLines}
use Rattle.serving.specs.Lines.{AreKnown, HaveAnswers, Line, admitted, answer_text, ticketed}
use Rattle.serving.specs.Runs.{RunsBetween}

-- From its start the server has come to this machine. It has consumed these lines, of which the first ones are answered in the
-- output, and the others are not.
pub record IsServing (keeps : Type 0) (start now : MachineView) (consumed : List (List ℕ)) (sent_lines unsent : List Line) : Type 0 where
  -- each ticket that was answered, with its reply
  pub reply_pairs : List (ℕ × Reply)
  -- the lines have given their messages to the core, in order
  pub segment : RunsBetween keeps start now (ticketed start.core.next (admitted start.core.geometry consumed)) reply_pairs
  -- each consumed line, in order, is as its `Line` says: no message, one out of range, or one with this ticket, which has its reply in
  -- `reply_pairs` or none there
  pub known : AreKnown start.core.geometry reply_pairs start.core.next consumed (sent_lines ++ unsent)
  -- each that is answered in the output has its answer
  pub answered : HaveAnswers sent_lines

-- Since its start the server has reached this machine state. It has consumed lines of the input, of which `unread` is left (`drained`: its
-- end was read), and has written the answers to all of them but `unsent`, a session's outstanding lines.
pub record ServingProgress (keeps : Type 0) (start now : MachineView) (unsent : List Line)
    (input unread : Option (List ℕ)) (drained : Bool) (before written : Option (List ℕ)) : Type 0 where
  pub consumed : List (List ℕ)
  pub sent_lines : List Line
  pub takes : TakesLines input unread drained consumed
  pub serving : IsServing keeps start now consumed sent_lines unsent
  pub output : Appends before written (joined (map answer_text sent_lines))
