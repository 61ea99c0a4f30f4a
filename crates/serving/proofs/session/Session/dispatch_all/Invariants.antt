-- Meanwhile no line is read, and the output does not fail; and how many places are free.
use Rattle.std.specs.Prelude.{count_by, is_none}
use Rattle.serving.specs.SessionSteps.{HasMoved}
use Rattle.serving.proofs.session.Session.dispatch_all.Given as goal

abbrev pub invariant-loop-k : goal.invariant-loop-k
invariant-loop-k g l = HasMoved l.initial.self l.self

-- how many places are free
abbrev pub decreases-loop-k : goal.decreases-loop-k
decreases-loop-k g l = count_by is_none l.self.dispatch_seat.lent
