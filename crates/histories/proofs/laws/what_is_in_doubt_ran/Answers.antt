-- The lemmas on what is in `doubt`.
use Rattle.histories.proofs.Doubts.{event_doubts_ran, first_doubts, no_doubts, run_doubts_ran}
use Rattle.histories.proofs.laws.what_is_in_doubt_ran.Goals as goal

pub returns-clause-event : goal.returns-clause-event
returns-clause-event c = event_doubts_ran

pub returns-clause-run : goal.returns-clause-run
returns-clause-run c g old events legal none = run_doubts_ran g old events legal (λ sound. none) (no_doubts old.core none)

pub returns-clause-first : goal.returns-clause-first
returns-clause-first c w k h = let first = first_doubts w h k in (first.some, first.at_most, first.are)
