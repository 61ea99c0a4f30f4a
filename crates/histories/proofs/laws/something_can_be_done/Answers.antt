-- The lemmas on what can be done.
use Rattle.histories.proofs.CanGoOn.{can_go_on, least_is_free}
use Rattle.histories.proofs.laws.something_can_be_done.Goals as goal

pub returns-clause-least : goal.returns-clause-least
returns-clause-least c = least_is_free

pub returns-clause-next : goal.returns-clause-next
returns-clause-next c = can_go_on
