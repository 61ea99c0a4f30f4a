-- The newline behind the text of a block ends its line; what lies behind stays.
use Rattle.std.proofs.Common.{arith}
use Rattle.std.proofs.lemmas.Grind.{common_steps}
use Rattle.message.proofs.printing.write_block.Goals as goal

pub returns : goal.returns
returns c = grind (arith, common_steps)
