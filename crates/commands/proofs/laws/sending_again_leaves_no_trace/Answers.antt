-- The lemma over the list of servers.
use Rattle.commands.proofs.SendsAgain.{heals}
use Rattle.commands.proofs.laws.sending_again_leaves_no_trace.Goals as goal

pub returns : goal.returns
returns c = heals
