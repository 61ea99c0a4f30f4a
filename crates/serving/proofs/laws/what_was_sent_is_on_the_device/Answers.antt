-- The lemmas on what was sent.
use Rattle.serving.proofs.HoldsSent.{holds_all, holds_logged, written_are_kept}
use Rattle.serving.proofs.laws.what_was_sent_is_on_the_device.Goals as goal

pub returns-clause-logged : goal.returns-clause-logged
returns-clause-logged g c start new input consumed idle none run = holds_logged idle none run

pub returns-clause-at_end : goal.returns-clause-at_end
returns-clause-at_end g c start new input consumed idle none run = holds_all idle none run

pub returns-clause-sent : goal.returns-clause-sent
returns-clause-sent g c start new unsent input before written idle h = written_are_kept idle h
