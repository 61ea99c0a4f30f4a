-- Each kind but summary has numbers behind its keyword.
use Rattle.message.proofs.Keywords.{needs_words}
use Rattle.message.proofs.heads.head_of_word.Goals as goal

pub returns-in_default : goal.returns-in_default
returns-in_default c = needs_words c.args.kind c.in_default.not-Summary
