-- A reply that is written into the part from `at` on follows what was there before `at`.
use Rattle.std.proofs.lemmas.Grind.{common_steps}
use Rattle.std.proofs.Common.{arith}
use Rattle.message.proofs.WrittenParts.{take-put_mid}
use Rattle.message.proofs.reply_buffer.put_reply.Goals as goal

pub returns-clause-line : goal.returns-clause-line
returns-clause-line c = grind (arith, common_steps, take-put_mid)
