-- The first word ends at the first space.
use Rattle.std.proofs.lemmas.Grind.{common_steps}
use Rattle.std.proofs.Common.{arith}
use Rattle.message.proofs.Words.{none_before, words_split}
use Rattle.message.proofs.parsing.split_keyword.Goals as goal

pub returns-then-line-end-eq32 : goal.returns-then-line-end-eq32
returns-then-line-end-eq32 c = grind (arith, common_steps, words_split, none_before)
