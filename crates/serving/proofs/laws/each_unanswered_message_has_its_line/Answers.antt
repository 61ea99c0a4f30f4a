-- The lemma on how many messages are in the core.
use Rattle.serving.proofs.Outstanding.{few_inside}
use Rattle.serving.proofs.laws.each_unanswered_message_has_its_line.Goals as goal

pub returns : goal.returns
returns g c start now unsent input unread ended before written idle h = few_inside idle h
