-- A `summary` with a word behind its keyword is no message.
use Rattle.message.proofs.GrammarByKind.{nothing_behind}
use Rattle.message.proofs.heads.head_of_kind.Goals as goal

pub returns-in-Summary : goal.returns-in-Summary
returns-in-Summary c = rw c.in-Summary.is (nothing_behind c.args.line.now)
