-- No newline is held, so all that is held is the first line: at most `LONGEST_LINE` bytes, and there is room for a read.
use Rattle.std.proofs.lemmas.Grind.{common_steps}
use Rattle.std.proofs.Common.{arith}
use Rattle.std.proofs.lemmas.Bool.{leb-true}
use Rattle.message.proofs.ReaderLemmas.{first_line-all}
use Rattle.message.proofs.line_reader.LineReader.wants_more.Goals as goal

pub returns-clause-room : goal.returns-clause-room
returns-clause-room g c is = grind (arith, common_steps, first_line-all, leb-true)
