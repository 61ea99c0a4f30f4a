-- The newline behind the text of a reply ends its line; what lies behind stays.
use Rattle.std.proofs.Common.{arith}
use Rattle.std.proofs.lemmas.Grind.{common_steps}
use Rattle.message.proofs.printing.write_reply.Goals as goal

pub returns : goal.returns
returns c = grind (arith, common_steps)
