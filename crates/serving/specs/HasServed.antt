-- Statement for operators: What a server has read, run and written since it began.
use Rattle.std.specs.Prelude.{ℕ, List, map, length, Option, ◌≤◌, ◌++◌}
use Rattle.std.specs.Io.KnownBytes.{Appends}
use Rattle.scheduler.specs.Machine.{MachineView}
use Rattle.scheduler.specs.CoreView.{CoreView}
use Rattle.meaning.specs.Output.{joined}
use Rattle.serving.specs.Lines.{AreKnown, HaveAnswers, Line, answer_text}
use Rattle.serving.specs.Runs.{HasRunLines}

-- A legal run (`HasRunLines`) led to the output: each answer there is to a line that is no message or is out of range, or to a message that
-- the run answered. `unsent` are the lines that were read and have no answer in the output, never more than the core has slots. `known`:
-- each consumed line is as its `Line` says, with its ticket, and with the reply that the run gave it, if the run gave one.
pub record HasServed (keeps : Type 0) (start : MachineView) (new : CoreView) (unsent : List Line)
    (input before written : Option (List ℕ)) : Type 0 where
  pub consumed : List (List ℕ)
  pub run : HasRunLines keeps start new input consumed
  pub sent_lines : List Line
  pub known : AreKnown start.core.geometry run.reply_pairs start.core.next consumed (sent_lines ++ unsent)
  pub have_answers : HaveAnswers sent_lines
  pub output : Appends before written (joined (map answer_text sent_lines))
  pub few : length unsent ≤ start.core.slots
