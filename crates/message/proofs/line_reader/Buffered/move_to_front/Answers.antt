-- No line is given at present: its range is empty, and stays so when the bytes are moved.
use Rattle.std.proofs.lemmas.Grind.{common_steps}
use Rattle.std.proofs.Common.{arith}
use Rattle.message.proofs.Slices.{slice-still_none}
use Rattle.message.proofs.line_reader.Buffered.move_to_front.Goals as goal

pub returns-clause-line : goal.returns-clause-line
returns-clause-line c = grind (arith, common_steps, slice-still_none)
